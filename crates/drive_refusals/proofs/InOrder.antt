-- The refusals in two parts are the refusals of `drive` in its order, and what holds of a reply that is not refused. Assumes nothing.
use mathlib.Core.Path.{◌≡◌, refl, sym, subst, ◌∙◌}
use mathlib.Core.Bool.{Bool, true, false, not, ◌&&◌, ◌||◌, or-false, or_assoc}
use mathlib.Core.Logic.{⊎_elim}
use Prim.Native.Nat.{ℕ, ◌<◌}
use native.Mathlib.Decide.{dec_lt}
use native.Mathlib.Omega.{arith}
use borrow.Author.Tests.{eqb-true, leb-false, lt-ltb, le-ltb}
use lib.Dec.{eqb, leb, ltb}
use lib.ListN.{length, get_or-eq_default}
use Rattle.masks.specs.Bits.{has}
use Rattle.masks.specs.Folds.{mask_of}
use Rattle.masks.proofs.Bools.{or_no_l, or_no_r, or_yes, not_no, true_or_false, true_and_false}
use Rattle.masks.proofs.FoldLaws.{has_mask}
use Rattle.rules.specs.Choice.{◌if◌else◌}
use Rattle.rules.specs.Flags.{there}
use Rattle.rules.specs.Cluster.{bad_number, bad_server}
use Rattle.rules.specs.Ballots.{bad_ballot}
use Rattle.wire.specs.declared.Message.{Message}
use Rattle.wire.specs.Codes.{shape_of, drive_takes, Prepare, Done}
use Rattle.wire.specs.Faults.{bad_numbers, bad_pieces, bad_sets, over_count}
use Rattle.drive.specs.declared.Drive.{Drive}
use Rattle.drive.specs.Held.{no_answer, counted, touched}
use Rattle.drive.specs.Form.{formed}
use Rattle.drive.specs.Hear.{not_taken, other_phase, misplaced, other_pieces, refusal}
use Rattle.drive_form.specs.Parts.{counted_of}
use Rattle.drive_refusals.specs.Refusals.{bad_head, elsewhere, bad_held, first_of_three, done_by, judged_by}

-- ---- the codes that a drive takes

by_taken : (P : ℕ → Type 0) → P 16 → P 17 → P 19 → P 20 → P 21 → (k : ℕ) → drive_takes k ≡ true → P k
by_taken P p16 p17 p19 p20 p21 k e =
    ⊎_elim
    (λ p. ⊎_elim
    (λ q. ⊎_elim (λ r. ⊎_elim (at 16 p16) (at 17 p17) (or_yes (eqb k 16) (eqb k 17) r)) (at 19 p19) (or_yes (eqb k 16 || eqb k 17) (eqb k 19) q))
    (at 20 p20)
    (or_yes (eqb k 16 || eqb k 17 || eqb k 19) (eqb k 20) p))
    (at 21 p21)
    (or_yes (eqb k 16 || eqb k 17 || eqb k 19 || eqb k 20) (eqb k 21) e)
  where
    at : (a : ℕ) → P a → eqb k a ≡ true → P k
    at a p q = subst P (sym (eqb-true k a q)) p

-- ---- at a drive

module _ (d : Drive) (full : length d.answers ≡ 12) (m : Message) where
  abbrev counts : ℕ
  counts = mask_of (counted d) 12

  -- no server past the last is counted
  counted-by : (s : ℕ) → has counts s ≡ counted d s
  counted-by s = has_mask (counted d) 12 s ∙ go (dec_lt s 12)
    where
      go : Dec (s < 12) → (ltb s 12 && counted d s) ≡ counted d s
      go (yes p) = rw (lt-ltb s 12 p)
      go (no p) = rw (le-ltb s 12 (omega (arith, p)), get_or-eq_default d.answers no_answer {n = s} (omega (arith, p, full)))

  -- the tests of `drive`, in its order
  abbrev in_order : ℕ
  in_order =
      12 if not_taken m
      else 1 if bad_numbers m
      else 2 if bad_pieces m
      else 8 if misplaced d m
      else 5 if other_pieces d m
      else 3 if bad_sets (touched d) m
      else 0

  abbrev judged : ℕ
  judged = judged_by d (counted_of d) m

  abbrev Judged : Type 0
  Judged = judged ≡ in_order

  at-16 : m.code ≡ 16 → Judged
  unfolding judged_by first_of_three bad_head elsewhere bad_held done_by not_taken over_count bad_numbers bad_pieces misplaced other_phase other_pieces bad_sets shape_of
  at-16 e = rw (counted-by m.server, e) (simp (or-false, or_assoc))

  at-17 : m.code ≡ 17 → Judged
  unfolding judged_by first_of_three bad_head elsewhere bad_held done_by not_taken over_count bad_numbers bad_pieces misplaced other_phase other_pieces bad_sets shape_of
  at-17 e = rw (counted-by m.server, e) (simp (or-false, or_assoc))

  at-19 : m.code ≡ 19 → Judged
  unfolding judged_by first_of_three bad_head elsewhere bad_held done_by not_taken over_count bad_numbers bad_pieces misplaced other_phase other_pieces bad_sets shape_of
  at-19 e = rw (counted-by m.server, e) (simp (or-false, or_assoc))

  at-20 : m.code ≡ 20 → Judged
  unfolding judged_by first_of_three bad_head elsewhere bad_held done_by not_taken over_count bad_numbers bad_pieces misplaced other_phase other_pieces bad_sets shape_of
  at-20 e = rw e (simp or-false)

  at-21 : m.code ≡ 21 → Judged
  unfolding judged_by first_of_three bad_head elsewhere bad_held done_by not_taken over_count bad_numbers bad_pieces misplaced other_phase other_pieces bad_sets shape_of
  at-21 e = rw (counted-by m.server, e) (simp (or-false, or_assoc))

  strange : drive_takes m.code ≡ false → 12 ≡ in_order
  unfolding not_taken
  strange e = rw e

  not-judged : drive_takes m.code ≡ false → judged ≡ 12
  unfolding judged_by
  not-judged e =
      let k = m.code in
      let e20 = or_no_l (eqb k 16 || eqb k 17 || eqb k 19 || eqb k 20) (eqb k 21) e in
      let e19 = or_no_l (eqb k 16 || eqb k 17 || eqb k 19) (eqb k 20) e20 in
      let e17 = or_no_l (eqb k 16 || eqb k 17) (eqb k 19) e19 in
      rw
      (or_no_l (eqb k 16) (eqb k 17) e17, or_no_r (eqb k 16) (eqb k 17) e17, or_no_r (eqb k 16 || eqb k 17) (eqb k 19) e19, or_no_r (eqb k 16 || eqb k 17 || eqb k 19) (eqb k 20) e20, or_no_r (eqb k 16 || eqb k 17 || eqb k 19 || eqb k 20) (eqb k 21) e)

  judged-by : Judged
  judged-by =
      ⊎_elim
      (λ taken. by_taken (λ k. m.code ≡ k → Judged) at-16 at-17 at-19 at-20 at-21 m.code taken refl)
      (λ other. not-judged other ∙ strange other)
      (true_or_false (drive_takes m.code))

  by_form : (b : Bool) → formed d ≡ b → (judged if b else 13) ≡ refusal d m
  unfolding refusal
  by_form true e = rw e judged-by
  by_form false e = rw e

  -- of a drive in form what is judged is the refusal
  pub judged-refusal : formed d ≡ true → judged ≡ refusal d m
  judged-refusal e = by_form true e

-- 13 is first
pub form-refusal : (d : Drive) (m : Message) → formed d ≡ false → 13 ≡ refusal d m
unfolding refusal
form-refusal d m e = rw e

-- ---- of a reply that is not refused

none_fires : (b13 b12 b1 : Bool) (rest : ℕ) → (13 if b13 else 12 if b12 else 1 if b1 else rest) ≡ 0 → (b13 ≡ false) × (b12 ≡ false) × (b1 ≡ false)
none_fires true b12 b1 rest e = absurd (omega arith)
none_fires false true b1 rest e = absurd (omega arith)
none_fires false false true rest e = absurd (omega arith)
none_fires false false false rest e = (refl, refl, refl)

unfired : (d : Drive) (m : Message) → refusal d m ≡ 0 → (not (formed d) ≡ false) × (not_taken m ≡ false) × (bad_numbers m ≡ false)
unfolding refusal
unfired d m e = none_fires (not (formed d)) (not_taken m) (bad_numbers m) _ e

-- a server's reply has a server
has-server : (k : ℕ) → drive_takes k ≡ true → eqb k Done ≡ false → (shape_of k).server ≡ true
unfolding shape_of
has-server = by_taken (λ k. eqb k Done ≡ false → (shape_of k).server ≡ true) (λ e. refl) (λ e. refl) (λ e. refl) (λ e. absurd (true_and_false refl e)) (λ e. refl)

second_no : (a b c d e f : Bool) → (a || b || c || d || e || f) ≡ false → b ≡ false
second_no a b c d e f h =
    or_no_r a b (or_no_l (a || b) c (or_no_l (a || b || c) d (or_no_l (a || b || c || d) e (or_no_l (a || b || c || d || e) f h))))

-- the server of a reply that is not refused is one of the twelve
pub ok_place : (d : Drive) (m : Message) → refusal d m ≡ 0 → eqb m.code Done ≡ false → m.server < 12
unfolding not_taken bad_numbers
ok_place d m e done = leb-false 12 m.server in_range
  where
    served-by : (shape_of m.code).server ≡ true
    served-by = has-server m.code (not_no (drive_takes m.code) (or_no_l (not (drive_takes m.code)) (over_count m) (unfired d m e).1)) done

    in_range : leb 12 m.server ≡ false
    in_range =
        rw served-by at
        (second_no
        (bad_number m.t)
        ((shape_of m.code).server && bad_server m.server)
        ((shape_of m.code).ballot && bad_ballot m.ballot)
        ((shape_of m.code).promise && bad_ballot m.promise)
        ((shape_of m.code).prepared && there m.accepted.some && bad_ballot m.accepted.ballot)
        (eqb m.code Prepare && eqb m.ballot 0)
        (unfired d m e).2)
