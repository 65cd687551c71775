-- Whatever a host or a reply says to a drive in form, the drive is in form after it; and start and recover make drives in form. Assumes nothing.
use mathlib.Core.Path.{◌≡◌, refl, sym, ◌∙◌, ap, subst}
use mathlib.Core.Logic.{◌≢◌}
use mathlib.Core.Bool.{Bool, true, false, not, cond, ◌&&◌, ◌||◌}
use mathlib.Core.List.{List}
use Prim.Native.Nat.{ℕ, ◌%◌, ◌≤◌, ◌<◌, max}
use native.Mathlib.Omega.{arith}
use native.Mathlib.Decide.{dec_le, dec_lt, ℕ_discrete}
use borrow.Author.Tests.{eqb-true, eqb-false, eq-eqb, ne_eqb, ltb-true, ltb-false, le-leb, lt-leb}
use lib.Dec.{eqb, ltb, leb, lit≤}
use lib.ListN.{length, get_or, set}
use lib.Seq.{get_or-set_same, get_or-set_other, set_out}
use Rattle.masks.specs.Bits.{has}
use Rattle.masks.proofs.Bools.{and_yes, and_yes-l, and_yes_r, or_no_l, or_no_r, or_yes_r, not_yes, not_no, yes_then, one_no}
use Rattle.rules.specs.declared.Pieces.{Pieces}
use Rattle.rules.specs.Choice.{◌if◌else◌}
use Rattle.rules.specs.Flags.{there, implies}
use Rattle.rules.specs.Maybe.{no_word, some_word, no_vote}
use Rattle.rules.specs.Cluster.{bad_number, bad_server, bad_coordinator}
use Rattle.rules.specs.Ballots.{step, origin, recovery, bad_ballot, may_use, next_above, no_next}
use Rattle.rules.specs.Pieces.{too_many, pieces_kept, shards_of}
use Rattle.rules.specs.Sets.{bad_set}
use Rattle.rules.proofs.BallotOwners.{is-recovery, origin-may-use, recovery-may-use}
use Rattle.rules.proofs.NextIsSmallest.{next-is, not-past}
use Rattle.wire.specs.declared.Message.{Message}
use Rattle.wire.specs.Codes.{shape_of, Prepare, PreAcceptOK, PrepareOK, Done, Behind}
use Rattle.wire.specs.Faults.{bad_numbers, bad_sets}
use Rattle.drive.specs.declared.Answer.{Answer}
use Rattle.drive.specs.declared.Drive.{Drive}
use Rattle.drive.specs.declared.Moved.{Moved}
use Rattle.drive.specs.Held.{no_answer, touched, addressed, began, with_answer, with_promise}
use Rattle.drive.specs.Decide.{answered, all_answered, two_in, two_in_each, decided, has_word, has_accepted, decide}
use Rattle.drive.specs.Form.{numbers_formed, ballots_formed, word_formed, accepted_formed, answer_formed, too_few, set_formed, formed}
use Rattle.drive.specs.Hear.{says, answer_of, settle, count, hear, moved, refused}
use Rattle.drive.specs.Host.{unless, start_refusal, start, recover_refusal, recover, above, again_refusal, again, move_on_refusal, move_on}
use Rattle.drive.proofs.Passed.{not_first, Passed, Counts, Kind, prepared, pre_accepted, accepted, Hears, is_done, is_behind, is_ok, Replied, refuses, takes, replied}
use Rattle.drive.proofs.FormParts.{Formed, formed_parts, parts_formed, phase_below}
use Rattle.drive.proofs.DecideKeepsForm.{Loose, loosen, no-answers, few, decide-formed, done-formed}

-- ---- a drive that begins

begun-formed : (t c b p seen : ℕ) (ps : Pieces) → bad_number t ≡ false → bad_coordinator c ≡ false → pieces_kept ps ≡ true → may_use c t b ≡ true → (p ≡ 0 → b ≢ 0) → p ≤ 1 → bad_ballot seen ≡ false → Formed (began t c b p ps seen)
unfolding numbers_formed ballots_formed set_formed
begun-formed t c b p seen ps et ec ep em eb l es = record {
  numbers = and_yes _ _ (and_yes _ _ (ap not et) (ap not ec)) (le-leb p 3 (omega arith));
  pieces = ep;
  ballots = and_yes _ _ (and_yes _ _ em (yes_then (eqb p 0) (not (eqb b 0)) (λ h. ap not (ne_eqb b 0 (eb (eqb-true p 0 h)))))) (ap not es);
  answers = no-answers (began t c b p ps seen) refl ep;
  few = few (began t c b p ps seen) refl ep;
  set = low p l;
}
  where
    low : (p : ℕ) → p ≤ 1 → cond (leb 2 p) (false && not (bad_set t (shards_of ps) (record { w0 = 0; w1 = 0; w2 = 0; w3 = 0 }))) true ≡ true
    low p l = subst (λ (b : Bool). cond b false true ≡ true) (sym (lt-leb 2 p (omega arith))) refl

-- what the next ballot is good for
next_may : (c t n : ℕ) → bad_coordinator c ≡ false → no_next c n ≡ false → (may_use c t (next_above c n) ≡ true) × (next_above c n ≢ 0)
next_may c t n ec en =
    let h = next-is c n (let q = ltb-false 7 c ec in omega arith) in
    let l = not-past c n en in
    (recovery-may-use c t (next_above c n) (and_yes (recovery (next_above c n)) (eqb (next_above c n % step) c) (is-recovery (next_above c n) h.lawful l) (eq-eqb (next_above c n % step) c h.own)), λ z. let q = h.lawful in omega arith)

pub start-formed : (c t : ℕ) (ps : Pieces) → start_refusal c t ps ≡ 0 → Formed (began t c 0 1 ps 0)
unfolding start_refusal
start-formed c t ps e =
    let p12 = not_first (too_many ps) 12 _ (λ z. omega arith) e in
    let p1 = not_first (bad_coordinator c || bad_number t || not (eqb c (origin t))) 1 _ (λ z. omega arith) p12.1 in
    let p2 = not_first (not (pieces_kept ps)) 2 0 (λ z. omega arith) p1.1 in
    let a = or_no_l (bad_coordinator c || bad_number t) (not (eqb c (origin t))) p1.0 in
    begun-formed t c 0 1 0 ps (or_no_r (bad_coordinator c) (bad_number t) a) (or_no_l (bad_coordinator c) (bad_number t) a) (not_no (pieces_kept ps) p2.0)
    (origin-may-use c t (eqb-true c (origin t) (not_no (eqb c (origin t)) (or_no_r (bad_coordinator c || bad_number t) (not (eqb c (origin t))) p1.0))))
    (λ z. absurd (omega arith)) (lit≤ tt) refl

pub recover-formed : (c t : ℕ) (ps : Pieces) (floor : ℕ) → recover_refusal c t ps floor ≡ 0 → Formed (began t c (next_above c floor) 0 ps 0)
unfolding recover_refusal
recover-formed c t ps floor e =
    let p12 = not_first (too_many ps) 12 _ (λ z. omega arith) e in
    let p1 = not_first (bad_coordinator c || bad_number t) 1 _ (λ z. omega arith) p12.1 in
    let p2 = not_first (not (pieces_kept ps)) 2 _ (λ z. omega arith) p1.1 in
    let p9 = not_first (no_next c floor) 9 0 (λ z. omega arith) p2.1 in
    let ec = or_no_l (bad_coordinator c) (bad_number t) p1.0 in
    let m = next_may c t floor ec p9.0 in
    begun-formed t c (next_above c floor) 0 0 ps (or_no_r (bad_coordinator c) (bad_number t) p1.0) ec (not_no (pieces_kept ps) p2.0) m.0 (λ z. m.1) (lit≤ tt) refl

pub again-formed : (d : Drive) → again_refusal d ≡ 0 → Formed (began d.t d.coordinator (next_above d.coordinator (above d)) 0 d.pieces d.seen)
unfolding again_refusal numbers_formed ballots_formed
again-formed d e =
    let p13 = not_first (not (formed d)) 13 _ (λ z. omega arith) e in
    let p8 = not_first (eqb d.phase 3) 8 _ (λ z. omega arith) p13.1 in
    let p9 = not_first (no_next d.coordinator (above d)) 9 0 (λ z. omega arith) p8.1 in
    let f = formed_parts d (not_no (formed d) p13.0) in
    let n = and_yes-l (not (bad_number d.t) && not (bad_coordinator d.coordinator)) (leb d.phase 3) f.numbers in
    let ec = not_yes (bad_coordinator d.coordinator) (and_yes_r (not (bad_number d.t)) (not (bad_coordinator d.coordinator)) n) in
    let m = next_may d.coordinator d.t (above d) ec p9.0 in
    begun-formed d.t d.coordinator (next_above d.coordinator (above d)) 0 d.seen d.pieces (not_yes (bad_number d.t) (and_yes-l (not (bad_number d.t)) (not (bad_coordinator d.coordinator)) n)) ec f.pieces m.0 (λ z. m.1) (lit≤ tt)
    (not_yes (bad_ballot d.seen) (and_yes_r (may_use d.coordinator d.t d.ballot && implies (eqb d.phase 0) (not (eqb d.ballot 0))) (not (bad_ballot d.seen)) f.ballots))

-- ---- move on

early : (d : Drive) → Formed d → move_on_refusal d ≡ 0 → d.phase < 3
unfolding move_on_refusal
early d f e =
    let p13 = not_first (not (formed d)) 13 _ (λ z. omega arith) e in
    let p8 = not_first (eqb d.phase 3) 8 _ (λ z. omega arith) p13.1 in
    let n = eqb-false d.phase 3 p8.0 in
    let l = phase_below d f in
    omega arith

pub move_on_keeps_form : (d : Drive) → formed d ≡ true → formed (move_on d).drive ≡ true
unfolding move_on unless
move_on_keeps_form d e = go (eqb (move_on_refusal d) 0) refl
  where
    go : (b : Bool) → eqb (move_on_refusal d) 0 ≡ b → formed (cond b (moved (decide d)) (refused d (move_on_refusal d))).drive ≡ true
    go true h = parts_formed (decide d) (decide-formed d (loosen (formed_parts d e)) (early d (formed_parts d e) (eqb-true (move_on_refusal d) 0 h)))
    go false h = e

-- ---- a reply

-- the higher of two promises is one
max-ballot : (a b : ℕ) → bad_ballot a ≡ false → bad_ballot b ≡ false → bad_ballot (max a b) ≡ false
max-ballot a b p q = go (dec_le a b)
  where
    go : Dec (a ≤ b) → bad_ballot (max a b) ≡ false
    go (yes l) = let e : b ≡ max a b = omega arith in subst (λ n. bad_ballot n ≡ false) e q
    go (no l) = let e : a ≡ max a b = omega arith in subst (λ n. bad_ballot n ≡ false) e p

-- what an OK of the code k says
unfoldable pub answer_as : Message → ℕ → Answer
answer_as m k = says m.arrival m.accepted if eqb k PrepareOK else says (some_word m.word) no_vote if eqb k PreAcceptOK else says no_word no_vote

pub answer_is : (m : Message) (k : ℕ) → m.code ≡ k → answer_of m ≡ answer_as m k
unfolding answer_of answer_as
answer_is m k e = ap (answer_as m) e

still-few : (d : Drive) → decided d ≡ false → too_few d ≡ true
unfolding too_few
still-few d e = or_yes_r (eqb d.phase 3) (not (decided d)) (ap not e)

unless_form : (lent : Drive) (n : ℕ) (z : Drive) → (n ≡ 0 → Formed z) → (unless lent n z).refusal ≡ 0 → formed (unless lent n z).drive ≡ true
unfolding unless
unless_form lent n z f = go (eqb n 0) refl
  where
    go : (b : Bool) → eqb n 0 ≡ b → (cond b (moved z) (refused lent n)).refusal ≡ 0 → formed (cond b (moved z) (refused lent n)).drive ≡ true
    go true e h = parts_formed z (f (eqb-true n 0 e))
    go false e h = absurd (eqb-false n 0 e h)

module _ (d : Drive) (m : Message) (p : Passed d m) where
  form : Formed d
  form = formed_parts d p.form

  shape : (k : ℕ) (g : ℕ → Bool) → m.code ≡ k → g k ≡ true → g m.code ≡ true
  shape k g e h = subst (λ k. g k ≡ true) (sym e) h

  -- ---- what the refusals leave of it

  set-ok : (shape_of m.code).set ≡ true → bad_set m.t (touched d) m.set ≡ false
  unfolding bad_sets
  set-ok h =
      one_no (shape_of m.code).set (bad_set m.t (touched d) m.set)
      (or_no_l _ ((shape_of m.code).word && has m.word m.t)
      (or_no_l _ ((shape_of m.code).prepared && there m.arrival.some && has m.arrival.word m.t)
      (or_no_l _ ((shape_of m.code).prepared && there m.accepted.some && bad_set m.t (touched d) m.accepted.set) p.sets))) h

  word_ok : (shape_of m.code).word ≡ true → has m.word m.t ≡ false
  unfolding bad_sets
  word_ok h =
      one_no (shape_of m.code).word (has m.word m.t)
      (or_no_r ((shape_of m.code).set && bad_set m.t (touched d) m.set) ((shape_of m.code).word && has m.word m.t)
      (or_no_l _ ((shape_of m.code).prepared && there m.arrival.some && has m.arrival.word m.t)
      (or_no_l _ ((shape_of m.code).prepared && there m.accepted.some && bad_set m.t (touched d) m.accepted.set) p.sets))) h

  arrival-ok : (shape_of m.code).prepared ≡ true → there m.arrival.some ≡ true → has m.arrival.word m.t ≡ false
  unfolding bad_sets
  arrival-ok h z =
      one_no ((shape_of m.code).prepared && there m.arrival.some) (has m.arrival.word m.t)
      (or_no_r (((shape_of m.code).set && bad_set m.t (touched d) m.set) || ((shape_of m.code).word && has m.word m.t)) ((shape_of m.code).prepared && there m.arrival.some && has m.arrival.word m.t)
      (or_no_l _ ((shape_of m.code).prepared && there m.accepted.some && bad_set m.t (touched d) m.accepted.set) p.sets)) (and_yes _ _ h z)

  accepted-ok : (shape_of m.code).prepared ≡ true → there m.accepted.some ≡ true → bad_set m.t (touched d) m.accepted.set ≡ false
  unfolding bad_sets
  accepted-ok h z =
      one_no ((shape_of m.code).prepared && there m.accepted.some) (bad_set m.t (touched d) m.accepted.set)
      (or_no_r (((shape_of m.code).set && bad_set m.t (touched d) m.set) || ((shape_of m.code).word && has m.word m.t) || ((shape_of m.code).prepared && there m.arrival.some && has m.arrival.word m.t)) ((shape_of m.code).prepared && there m.accepted.some && bad_set m.t (touched d) m.accepted.set) p.sets) (and_yes _ _ h z)

  promise-ok : (shape_of m.code).promise ≡ true → bad_ballot m.promise ≡ false
  unfolding bad_numbers
  promise-ok h =
      one_no (shape_of m.code).promise (bad_ballot m.promise)
      (or_no_r (bad_number m.t || ((shape_of m.code).server && bad_server m.server) || ((shape_of m.code).ballot && bad_ballot m.ballot)) ((shape_of m.code).promise && bad_ballot m.promise)
      (or_no_l _ ((shape_of m.code).prepared && there m.accepted.some && bad_ballot m.accepted.ballot)
      (or_no_l _ (eqb m.code Prepare && eqb m.ballot 0) p.numbers))) h

  vote-ok : (shape_of m.code).prepared ≡ true → there m.accepted.some ≡ true → bad_ballot m.accepted.ballot ≡ false
  unfolding bad_numbers
  vote-ok h z =
      one_no ((shape_of m.code).prepared && there m.accepted.some) (bad_ballot m.accepted.ballot)
      (or_no_r (bad_number m.t || ((shape_of m.code).server && bad_server m.server) || ((shape_of m.code).ballot && bad_ballot m.ballot) || ((shape_of m.code).promise && bad_ballot m.promise)) ((shape_of m.code).prepared && there m.accepted.some && bad_ballot m.accepted.ballot)
      (or_no_l _ (eqb m.code Prepare && eqb m.ballot 0) p.numbers)) (and_yes _ _ h z)

  -- ---- Behind

  behind-formed : m.code ≡ Behind → Formed (with_promise d m.promise)
  unfolding numbers_formed ballots_formed set_formed answer_formed too_few decided two_in_each two_in all_answered answered shape_of
  behind-formed e = record {
    numbers = form.numbers;
    pieces = form.pieces;
    ballots =
        let M = may_use d.coordinator d.t d.ballot && implies (eqb d.phase 0) (not (eqb d.ballot 0)) in
        and_yes _ _ (and_yes-l M (not (bad_ballot d.seen)) form.ballots) (ap not (max-ballot d.seen m.promise (not_yes (bad_ballot d.seen) (and_yes_r M (not (bad_ballot d.seen)) form.ballots)) (promise-ok (shape Behind (λ k. (shape_of k).promise) e refl))));
    answers = form.answers;
    few = form.few;
    set = form.set;
  }

  -- ---- an OK

  abbrev E : Drive
  E = with_answer d m.server (answer_of m)

  -- what it says of arrival, and of acceptance
  word-formed : Kind d m → m.t ≡ d.t → word_formed d.t d.phase (answer_of m) ≡ true
  unfolding word_formed shape_of answer_as
  word-formed (prepared c z) n = yes_then (ltb d.phase 2 && has_word (answer_of m)) _ (λ h.
      let w : has_word (answer_of m) ≡ true = and_yes_r (ltb d.phase 2) (has_word (answer_of m)) h in
      let a = answer_is m PrepareOK c in
      ap not (ap (λ (x : Answer). has x.arrival.word d.t) a ∙ subst (λ t. has m.arrival.word t ≡ false) n (arrival-ok (shape PrepareOK (λ k. (shape_of k).prepared) c refl) (and_yes_r true (there m.arrival.some) (sym (ap has_word a) ∙ w)))))
  word-formed (pre_accepted c z) n = yes_then (ltb d.phase 2 && has_word (answer_of m)) _ (λ h.
      ap not (ap (λ (x : Answer). has x.arrival.word d.t) (answer_is m PreAcceptOK c) ∙ subst (λ t. has m.word t ≡ false) n (word_ok (shape PreAcceptOK (λ k. (shape_of k).word) c refl))))
  word-formed (accepted c z) n = yes_then (ltb d.phase 2 && has_word (answer_of m)) _ (λ h. absurd (omega (arith, ltb-true d.phase 2 (and_yes-l (ltb d.phase 2) (has_word (answer_of m)) h))))

  vote-formed : Kind d m → m.t ≡ d.t → accepted_formed d.t (touched d) d.phase (answer_of m) ≡ true
  unfolding accepted_formed shape_of answer_as
  vote-formed (prepared c z) n = yes_then _ _ (λ h.
      let a = answer_is m PrepareOK c in
      let w : has_accepted (answer_of m) ≡ true = and_yes_r (eqb d.phase 0) (has_accepted (answer_of m)) h in
      let some : there m.accepted.some ≡ true = and_yes_r true (there m.accepted.some) (sym (ap has_accepted a) ∙ w) in
      let q : (shape_of m.code).prepared ≡ true = shape PrepareOK (λ k. (shape_of k).prepared) c refl in
      and_yes _ _
      (ap not (ap (λ (x : Answer). bad_ballot x.accepted.ballot) a ∙ vote-ok q some))
      (ap not (ap (λ (x : Answer). bad_set d.t (touched d) x.accepted.set) a ∙ subst (λ t. bad_set t (touched d) m.accepted.set ≡ false) n (accepted-ok q some))))
  vote-formed (pre_accepted c z) n = yes_then _ _ (λ h. absurd (omega (arith, eqb-true d.phase 0 (and_yes-l (eqb d.phase 0) (has_accepted (answer_of m)) h))))
  vote-formed (accepted c z) n = yes_then _ _ (λ h. absurd (omega (arith, eqb-true d.phase 0 (and_yes-l (eqb d.phase 0) (has_accepted (answer_of m)) h))))

  kind-early : Kind d m → d.phase < 3
  kind-early (prepared c z) = omega arith
  kind-early (pre_accepted c z) = omega arith
  kind-early (accepted c z) = omega arith

  -- all answers, with the new one
  answers-after : Kind d m → Counts d m → (s : ℕ) → s < 12 → answer_formed E s ≡ true
  unfolding answer_formed
  answers-after kd n s l = go (ℕ_discrete s m.server) (dec_lt m.server (length d.answers))
    where
      Good : ℕ → Answer → Type 0
      Good s a = implies (there a.counted) (addressed (touched d) s && not (eqb d.phase 3) && word_formed d.t d.phase a && accepted_formed d.t (touched d) d.phase a) ≡ true

      here : Good m.server (answer_of m)
      here = yes_then (there (answer_of m).counted) (addressed (touched d) m.server && not (eqb d.phase 3) && word_formed d.t d.phase (answer_of m) && accepted_formed d.t (touched d) d.phase (answer_of m)) (λ h. and_yes _ _ (and_yes _ _ (and_yes _ _ n.server (ap not (ne_eqb d.phase 3 (λ q. let e = kind-early kd in omega arith)))) (word-formed kd n.number)) (vote-formed kd n.number))

      go : Dec (s ≡ m.server) → Dec (m.server < length d.answers) → Good s (get_or (set d.answers m.server (answer_of m)) s no_answer)
      go (no ne) q = subst (Good s) (sym (get_or-set_other d.answers m.server s (answer_of m) no_answer ne)) (form.answers s l)
      go (yes e) (yes q) = subst (λ s. Good s (get_or (set d.answers m.server (answer_of m)) s no_answer)) (sym e) (subst (Good m.server) (sym (get_or-set_same d.answers m.server (answer_of m) no_answer q)) here)
      go (yes e) (no q) = subst (λ (x : List Answer). Good s (get_or x s no_answer)) (sym (set_out d.answers m.server (answer_of m) (omega arith))) (form.answers s l)

  loose-after : Kind d m → Counts d m → Loose E
  unfolding numbers_formed ballots_formed set_formed
  loose-after kd n = record { numbers = form.numbers; pieces = form.pieces; ballots = form.ballots; answers = answers-after kd n; set = form.set }

  count-formed : Kind d m → Counts d m → Formed (count d m.server (answer_of m))
  unfolding count settle
  count-formed kd n = go (decided E) refl
    where
      go : (b : Bool) → decided E ≡ b → Formed (cond b (decide E) E)
      go true e = decide-formed E (loose-after kd n) (kind-early kd)
      go false e = let f = loose-after kd n in record { numbers = f.numbers; pieces = f.pieces; ballots = f.ballots; answers = f.answers; few = still-few E e; set = f.set }

  hears-formed : {e : Drive} → Hears d m e → Formed e
  unfolding shape_of
  hears-formed (is_done c n z) = done-formed d (loosen form) m.set (subst (λ t. bad_set t (touched d) m.set ≡ false) n (set-ok (shape Done (λ k. (shape_of k).set) c refl)))
  hears-formed (is_behind c n z) = behind-formed c
  hears-formed (is_ok kd n) = count-formed kd n

-- a reply keeps the form, whatever it is
pub hear_keeps_form : (d : Drive) (m : Message) → formed d ≡ true → formed (hear d m).drive ≡ true
hear_keeps_form d m f = go (replied d m)
  where
    go : {r : Moved} → Replied d m r → formed r.drive ≡ true
    go (refuses n) = f
    go (takes z p h) = parts_formed z (hears-formed d m p h)

-- a call that takes a ballot makes a drive in form, where it is not refused
pub start_makes_form : (lent : Drive) (c t : ℕ) (ps : Pieces) → (start lent c t ps).refusal ≡ 0 → formed (start lent c t ps).drive ≡ true
unfolding start
start_makes_form lent c t ps e = unless_form lent (start_refusal c t ps) _ (λ z. start-formed c t ps z) e

pub recover_makes_form : (lent : Drive) (c t : ℕ) (ps : Pieces) (floor : ℕ) → (recover lent c t ps floor).refusal ≡ 0 → formed (recover lent c t ps floor).drive ≡ true
unfolding recover
recover_makes_form lent c t ps floor e = unless_form lent (recover_refusal c t ps floor) _ (λ z. recover-formed c t ps floor z) e

pub again_makes_form : (d : Drive) → (again d).refusal ≡ 0 → formed (again d).drive ≡ true
unfolding again
again_makes_form d e = unless_form d (again_refusal d) _ (λ z. again-formed d z) e

-- and leaves a drive in form as it is, where it is refused
pub again_keeps_form : (d : Drive) → formed d ≡ true → formed (again d).drive ≡ true
unfolding again unless
again_keeps_form d e = go (eqb (again_refusal d) 0) refl
  where
    Z : Drive
    Z = began d.t d.coordinator (next_above d.coordinator (above d)) 0 d.pieces d.seen

    go : (b : Bool) → eqb (again_refusal d) 0 ≡ b → formed (cond b (moved Z) (refused d (again_refusal d))).drive ≡ true
    go true h = parts_formed Z (again-formed d (eqb-true (again_refusal d) 0 h))
    go false h = e
