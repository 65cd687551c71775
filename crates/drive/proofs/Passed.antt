-- A reply that a drive does not refuse, and what it is to the drive: an OK of its phase, Done or Behind. Assumes nothing.
use mathlib.Core.Path.{◌≡◌, refl, sym, subst}
use mathlib.Core.Logic.{◌⊎◌, inl, inr, ◌≢◌}
use mathlib.Core.Bool.{Bool, true, false, not, cond, ◌&&◌, ◌||◌}
use Prim.Native.Nat.{ℕ, ◌<◌}
use native.Mathlib.Omega.{arith}
use lib.Dec.{eqb}
use borrow.Author.Tests.{eqb-true, eqb-false, ltb-false}
use Rattle.masks.proofs.Bools.{not_no, or_no_l, or_no_r, or_yes, one_no}
use Rattle.rules.specs.Cluster.{bad_number, bad_server}
use Rattle.rules.specs.Flags.{there}
use Rattle.rules.specs.Ballots.{bad_ballot}
use Rattle.wire.specs.declared.Message.{Message}
use Rattle.wire.specs.Codes.{shape_of, drive_takes, oks, Prepare, PreAcceptOK, AcceptOK, PrepareOK, Done, Behind}
use Rattle.wire.specs.Faults.{over_count, bad_numbers, bad_pieces, bad_sets}
use Rattle.drive.specs.declared.Drive.{Drive}
use Rattle.drive.specs.declared.Moved.{Moved}
use Rattle.drive.specs.Held.{counted, touched, addressed, to_phase, with_promise}
use Rattle.drive.specs.Form.{formed}
use Rattle.drive.specs.Hear.{not_taken, other_phase, misplaced, other_pieces, refusal, answer_of, count, heard, refused, moved, hear}

pub record Passed (d : Drive) (m : Message) : Type 0 where
  pub form : formed d ≡ true
  pub code : not_taken m ≡ false
  pub numbers : bad_numbers m ≡ false
  pub pieces : bad_pieces m ≡ false
  pub place : misplaced d m ≡ false
  pub same : other_pieces d m ≡ false
  pub sets : bad_sets (touched d) m ≡ false

-- a refusal that did not fire
pub not_first : (b : Bool) (k r : ℕ) → k ≢ 0 → cond b k r ≡ 0 → (b ≡ false) × (r ≡ 0)
not_first true k r h e = absurd (h e)
not_first false k r h e = (refl, e)

pub passed : (d : Drive) (m : Message) → refusal d m ≡ 0 → Passed d m
unfolding refusal
passed d m e =
    let p13 = not_first (not (formed d)) 13 _ (λ z. omega arith) e in
    let p12 = not_first (not_taken m) 12 _ (λ z. omega arith) p13.1 in
    let p1 = not_first (bad_numbers m) 1 _ (λ z. omega arith) p12.1 in
    let p2 = not_first (bad_pieces m) 2 _ (λ z. omega arith) p1.1 in
    let p8 = not_first (misplaced d m) 8 _ (λ z. omega arith) p2.1 in
    let p5 = not_first (other_pieces d m) 5 _ (λ z. omega arith) p8.1 in
    let p3 = not_first (bad_sets (touched d) m) 3 _ (λ z. omega arith) p5.1 in
    record { form = not_no (formed d) p13.0; code = p12.0; numbers = p1.0; pieces = p2.0; place = p8.0; same = p5.0; sets = p3.0 }

-- ---- whose it is

-- an OK for this number, ballot and phase, of a server of its shards that isn't counted yet
pub record Counts (d : Drive) (m : Message) : Type 0 where
  pub number : m.t ≡ d.t
  pub ballot : m.ballot ≡ d.ballot
  pub server : addressed (touched d) m.server ≡ true
  pub fresh : counted d m.server ≡ false
  pub small : m.server < 12

pub data Kind (d : Drive) (m : Message) : Type 0 where
  prepared : m.code ≡ PrepareOK → d.phase ≡ 0 → Kind d m
  pre_accepted : m.code ≡ PreAcceptOK → d.phase ≡ 1 → Kind d m
  accepted : m.code ≡ AcceptOK → d.phase ≡ 2 → Kind d m

pub data Hears (d : Drive) (m : Message) : Drive → Type 0 where
  is_done : m.code ≡ Done → m.t ≡ d.t → d.phase ≢ 3 → Hears d m (to_phase 3 d m.set)
  is_behind : m.code ≡ Behind → m.t ≡ d.t → d.phase ≢ 3 → Hears d m (with_promise d m.promise)
  is_ok : Kind d m → Counts d m → Hears d m (count d m.server (answer_of m))

both_no : (a b : Bool) → (a && not b) ≡ false → a ≡ true → b ≡ true
both_no a b e h = not_no b (one_no a (not b) e h)

server-number : (m : Message) → bad_numbers m ≡ false → ((shape_of m.code).server && bad_server m.server) ≡ false
unfolding bad_numbers
server-number m e =
    or_no_r (bad_number m.t) ((shape_of m.code).server && bad_server m.server)
    (or_no_l _ ((shape_of m.code).ballot && bad_ballot m.ballot)
    (or_no_l _ ((shape_of m.code).promise && bad_ballot m.promise)
    (or_no_l _ ((shape_of m.code).prepared && there m.accepted.some && bad_ballot m.accepted.ballot)
    (or_no_l _ (eqb m.code Prepare && eqb m.ballot 0) e))))

module _ (d : Drive) (m : Message) (p : Passed d m) where
  phase-ok : other_phase d.phase m ≡ false
  unfolding misplaced
  phase-ok = or_no_l _ _ (or_no_l _ _ (or_no_l _ _ (or_no_l _ _ p.place)))

  number_ok : m.t ≡ d.t
  unfolding misplaced
  number_ok = eqb-true m.t d.t (not_no (eqb m.t d.t) (or_no_r (other_phase d.phase m) _ (or_no_l _ _ (or_no_l _ _ (or_no_l _ _ p.place)))))

  ballot-ok : (shape_of m.code).ballot ≡ true → m.ballot ≡ d.ballot
  unfolding misplaced
  ballot-ok h = eqb-true m.ballot d.ballot (both_no (shape_of m.code).ballot (eqb m.ballot d.ballot) (or_no_r (other_phase d.phase m || not (eqb m.t d.t)) _ (or_no_l _ _ (or_no_l _ _ p.place))) h)

  server-ok : (shape_of m.code).server ≡ true → addressed (touched d) m.server ≡ true
  unfolding misplaced
  server-ok h = both_no (shape_of m.code).server (addressed (touched d) m.server) (or_no_r (other_phase d.phase m || not (eqb m.t d.t) || ((shape_of m.code).ballot && not (eqb m.ballot d.ballot))) _ (or_no_l _ _ p.place)) h

  fresh_ok : oks m.code ≡ true → counted d m.server ≡ false
  unfolding misplaced
  fresh_ok h = one_no (oks m.code) (counted d m.server) (or_no_r (other_phase d.phase m || not (eqb m.t d.t) || ((shape_of m.code).ballot && not (eqb m.ballot d.ballot)) || ((shape_of m.code).server && not (addressed (touched d) m.server))) _ p.place) h

  small-ok : (shape_of m.code).server ≡ true → m.server < 12
  small-ok h = let l = ltb-false 11 m.server (one_no (shape_of m.code).server (bad_server m.server) (server-number m p.numbers) h) in omega arith

  counts : (shape_of m.code).ballot ≡ true → (shape_of m.code).server ≡ true → oks m.code ≡ true → Counts d m
  counts b s o = record { number = number_ok; ballot = ballot-ok b; server = server-ok s; fresh = fresh_ok o; small = small-ok s }

  taken-ok : drive_takes m.code ≡ true
  unfolding not_taken
  taken-ok = not_no (drive_takes m.code) (or_no_l (not (drive_takes m.code)) (over_count m) p.code)

  -- ---- the phase of a reply, by its code

  abbrev PhaseOf : ℕ → Type 0
  PhaseOf n = cond (eqb n PrepareOK) (not (eqb d.phase 0)) (cond (eqb n PreAcceptOK) (not (eqb d.phase 1)) (cond (eqb n AcceptOK) (not (eqb d.phase 2)) (eqb d.phase 3))) ≡ false

  phase-of : (k : ℕ) → m.code ≡ k → PhaseOf k
  unfolding other_phase
  phase-of k e = subst PhaseOf e phase-ok

  ok_of : (k : ℕ) → m.code ≡ k → (shape_of k).ballot ≡ true → (shape_of k).server ≡ true → oks k ≡ true → Counts d m
  ok_of k e b s o = counts (subst (λ n. (shape_of n).ballot ≡ true) (sym e) b) (subst (λ n. (shape_of n).server ≡ true) (sym e) s) (subst (λ n. oks n ≡ true) (sym e) o)

  hears-ok : m.code ≢ Done → m.code ≢ Behind → Hears d m (count d m.server (answer_of m))
  unfolding shape_of
  hears-ok nd nb = go (or_yes (eqb m.code PreAcceptOK || eqb m.code AcceptOK || eqb m.code PrepareOK || eqb m.code Done) (eqb m.code Behind) taken-ok)
    where
      as-prepared : m.code ≡ PrepareOK → Hears d m (count d m.server (answer_of m))
      as-prepared e = is_ok (prepared e (eqb-true d.phase 0 (not_no (eqb d.phase 0) (phase-of PrepareOK e)))) (ok_of PrepareOK e refl refl refl)

      as-pre_accepted : m.code ≡ PreAcceptOK → Hears d m (count d m.server (answer_of m))
      as-pre_accepted e = is_ok (pre_accepted e (eqb-true d.phase 1 (not_no (eqb d.phase 1) (phase-of PreAcceptOK e)))) (ok_of PreAcceptOK e refl refl refl)

      as-accepted : m.code ≡ AcceptOK → Hears d m (count d m.server (answer_of m))
      as-accepted e = is_ok (accepted e (eqb-true d.phase 2 (not_no (eqb d.phase 2) (phase-of AcceptOK e)))) (ok_of AcceptOK e refl refl refl)

      two : (eqb m.code PreAcceptOK ≡ true) ⊎ (eqb m.code AcceptOK ≡ true) → Hears d m (count d m.server (answer_of m))
      two (inl e) = as-pre_accepted (eqb-true m.code PreAcceptOK e)
      two (inr e) = as-accepted (eqb-true m.code AcceptOK e)

      three : ((eqb m.code PreAcceptOK || eqb m.code AcceptOK) ≡ true) ⊎ (eqb m.code PrepareOK ≡ true) → Hears d m (count d m.server (answer_of m))
      three (inl e) = two (or_yes (eqb m.code PreAcceptOK) (eqb m.code AcceptOK) e)
      three (inr e) = as-prepared (eqb-true m.code PrepareOK e)

      four : ((eqb m.code PreAcceptOK || eqb m.code AcceptOK || eqb m.code PrepareOK) ≡ true) ⊎ (eqb m.code Done ≡ true) → Hears d m (count d m.server (answer_of m))
      four (inl e) = three (or_yes (eqb m.code PreAcceptOK || eqb m.code AcceptOK) (eqb m.code PrepareOK) e)
      four (inr e) = absurd (nd (eqb-true m.code Done e))

      go : ((eqb m.code PreAcceptOK || eqb m.code AcceptOK || eqb m.code PrepareOK || eqb m.code Done) ≡ true) ⊎ (eqb m.code Behind ≡ true) → Hears d m (count d m.server (answer_of m))
      go (inl e) = four (or_yes (eqb m.code PreAcceptOK || eqb m.code AcceptOK || eqb m.code PrepareOK) (eqb m.code Done) e)
      go (inr e) = absurd (nb (eqb-true m.code Behind e))

  pub hears : Hears d m (heard d m)
  unfolding heard
  hears = go (eqb m.code Done) refl (eqb m.code Behind) refl
    where
      go : (a : Bool) → eqb m.code Done ≡ a → (b : Bool) → eqb m.code Behind ≡ b → Hears d m (cond a (to_phase 3 d m.set) (cond b (with_promise d m.promise) (count d m.server (answer_of m))))
      go true e b k = is_done (eqb-true m.code Done e) number_ok (eqb-false d.phase 3 (phase-of Done (eqb-true m.code Done e)))
      go false e true k = is_behind (eqb-true m.code Behind k) number_ok (eqb-false d.phase 3 (phase-of Behind (eqb-true m.code Behind k)))
      go false e false k = hears-ok (eqb-false m.code Done e) (eqb-false m.code Behind k)

-- what a reply does: it is refused, and the drive stays; or it is taken
pub data Replied (d : Drive) (m : Message) : Moved → Type 0 where
  refuses : (n : ℕ) → Replied d m (refused d n)
  takes : (z : Drive) → Passed d m → Hears d m z → Replied d m (moved z)

pub replied : (d : Drive) (m : Message) → Replied d m (hear d m)
unfolding hear
replied d m = go (eqb (refusal d m) 0) refl
  where
    go : (b : Bool) → eqb (refusal d m) 0 ≡ b → Replied d m (cond b (moved (heard d m)) (refused d (refusal d m)))
    go true e = let p = passed d m (eqb-true (refusal d m) 0 e) in takes (heard d m) p (hears d m p)
    go false e = refuses (refusal d m)
