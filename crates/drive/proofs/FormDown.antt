-- The state form of a drive in document 01's words and numbers, both ways: `formed` says no more and no less. Assumes nothing.
use mathlib.Core.Path.{◌≡◌, ap}
use mathlib.Core.Logic.{◌↔◌, ◌⊎◌, ⊎_elim}
use mathlib.Core.Bool.{Bool, true, false, not, ◌&&◌}
use Prim.Native.Nat.{ℕ, ◌/◌, ◌%◌, ◌≤◌, ◌<◌}
use native.Mathlib.Decide.{ℕ_discrete, dec_lt}
use native.Mathlib.Omega.{arith}
use lib.Dec.{eqb}
use borrow.Author.Tests.{le-leb, lt-leb, eqb-true, eq-eqb, ne_eqb}
use Rattle.masks.specs.Bits.{In}
use Rattle.masks.proofs.Bools.{or_yes, or_yes-l, or_yes_r, not_yes, not_no}
use Rattle.rules.specs.Flags.{there}
use Rattle.rules.specs.Cluster.{bad_number, bad_coordinator}
use Rattle.rules.specs.Ballots.{bad_ballot}
use Rattle.rules.specs.Pieces.{shards_of}
use Rattle.rules.specs.Sets.{bad_set}
use Rattle.rules.proofs.InTurn.{denied}
use Rattle.rules.proofs.RuleOne.{number-good, coordinator-good, ballot-good, Recovers, may_use_lem}
use Rattle.rules.proofs.RuleTwo.{LawfulPieces, piece-rules}
use Rattle.rules.proofs.RuleThree.{KeptSet, set-good}
use Rattle.wire.proofs.FaultsAre.{Ballot, There, there_is}
use Rattle.drive.specs.declared.Answer.{Answer}
use Rattle.drive.specs.declared.Drive.{Drive}
use Rattle.drive.specs.Held.{answer_at, touched}
use Rattle.drive.specs.Decide.{decided}
use Rattle.drive.specs.Form.{numbers_formed, ballots_formed, word_formed, accepted_formed, answer_formed, too_few, set_formed, formed}
use Rattle.drive.proofs.FormParts.{Formed, formed_parts, parts_formed}
use Rattle.drive.proofs.Tests.{and_is, if_is, kept_not, in_is, out_is, eq_is, le_is, lt_is}
use Rattle.drive.proofs.AnswersAre.{Counted, Asked, counted_is, Missing, Thin, missing-is, thin_is}

-- a counted answer: from a server of T's shards, never in phase 3; its word in phases 0 and 1, and what it has accepted in phase 0, by their rules
pub record AnswerInForm (d : Drive) (s : ℕ) : Type 0 where
  pub asked : Asked d s
  pub phase : d.phase ≡ 3 → ⊥
  pub word : d.phase ≤ 1 → There (answer_at d s).arrival.some → In (answer_at d s).arrival.word d.t → ⊥
  pub accepted : d.phase ≡ 0 → There (answer_at d s).accepted.some → Ballot (answer_at d s).accepted.ballot × KeptSet d.t (shards_of d.pieces) (answer_at d s).accepted.set

-- "T, coordinator and phase in range, a ballot that its coordinator may use for T (not 0 in phase 0), counted answers only from servers of T's shards and too few to decide without move on, none in phase 3, and a set held exactly in phases 2 and 3"
pub record InForm (d : Drive) : Type 0 where
  pub number : d.t ≤ 63
  pub coordinator : d.coordinator ≤ 7
  pub phase : d.phase ≤ 3
  pub pieces : LawfulPieces d.pieces
  pub ballot : ((d.ballot ≡ 0) × (d.coordinator ≡ d.t % 8)) ⊎ Recovers d.coordinator d.ballot
  pub recovery : d.phase ≡ 0 → d.ballot ≡ 0 → ⊥
  pub seen : Ballot d.seen
  pub answers : (s : ℕ) → s ≤ 11 → Counted d s → AnswerInForm d s
  pub waits : d.phase ≤ 1 → Missing d
  pub few : d.phase ≡ 2 → Thin d
  pub set : 2 ≤ d.phase → There d.chosen.some × KeptSet d.t (shards_of d.pieces) d.chosen.set
  pub no_set : d.phase ≤ 1 → d.chosen.some ≡ 0

module _ (d : Drive) where
  numbers-down : (numbers_formed d ≡ true) ↔ (((d.t ≤ 63) × (d.coordinator ≤ 7)) × (d.phase ≤ 3))
  unfolding numbers_formed
  numbers-down =
      and_is _ _ _ _ (and_is _ _ _ _ (kept_not (d.t ≤ 63) (bad_number d.t) (number-good d.t)) (kept_not (d.coordinator ≤ 7) (bad_coordinator d.coordinator) (coordinator-good d.coordinator))) (le_is d.phase 3)

  ballots-down : (ballots_formed d ≡ true) ↔ (((((d.ballot ≡ 0) × (d.coordinator ≡ d.t % 8)) ⊎ Recovers d.coordinator d.ballot) × (d.phase ≡ 0 → d.ballot ≡ 0 → ⊥)) × Ballot d.seen)
  unfolding ballots_formed
  ballots-down =
      and_is _ _ _ _
      (and_is _ _ _ _ (may_use_lem d.coordinator d.t d.ballot) (if_is (d.phase ≡ 0) (d.ballot ≡ 0 → ⊥) _ _ (eq_is d.phase 0) (denied (d.ballot ≡ 0) (eqb d.ballot 0) (eq_is d.ballot 0))))
      (kept_not (Ballot d.seen) (bad_ballot d.seen) (ballot-good d.seen))

  module _ (s : ℕ) where
    abbrev here : Answer
    here = answer_at d s

    abbrev Word : Type 0
    Word = (d.phase < 2) × (Counted d s × There here.arrival.some) → In here.arrival.word d.t → ⊥

    abbrev Vote : Type 0
    Vote = (d.phase ≡ 0) × (Counted d s × There here.accepted.some) → Ballot here.accepted.ballot × KeptSet d.t (shards_of d.pieces) here.accepted.set

    word-down : (word_formed d.t d.phase here ≡ true) ↔ Word
    unfolding word_formed
    word-down = if_is _ _ _ _ (and_is _ _ _ _ (lt_is d.phase 2) (and_is _ _ _ _ (counted_is d s) (there_is here.arrival.some))) (out_is here.arrival.word d.t)

    vote-down : (accepted_formed d.t (touched d) d.phase here ≡ true) ↔ Vote
    unfolding accepted_formed
    vote-down =
        if_is _ _ _ _ (and_is _ _ _ _ (eq_is d.phase 0) (and_is _ _ _ _ (counted_is d s) (there_is here.accepted.some)))
        (and_is _ _ _ _ (kept_not (Ballot here.accepted.ballot) (bad_ballot here.accepted.ballot) (ballot-good here.accepted.ballot)) (kept_not (KeptSet d.t (touched d) here.accepted.set) (bad_set d.t (touched d) here.accepted.set) (set-good d.t (touched d) here.accepted.set)))

    answer-down : (answer_formed d s ≡ true) ↔ (Counted d s → ((Asked d s × (d.phase ≡ 3 → ⊥)) × Word) × Vote)
    unfolding answer_formed
    answer-down =
        if_is _ _ _ _ (counted_is d s)
        (and_is _ _ _ _ (and_is _ _ _ _ (and_is _ _ _ _ (in_is (touched d) (s / 3)) (denied (d.phase ≡ 3) (eqb d.phase 3) (eq_is d.phase 3))) word-down) vote-down)

  -- too few to decide
  few-down : d.phase ≤ 3 → (too_few d ≡ true) ↔ ((d.phase ≤ 1 → Missing d) × (d.phase ≡ 2 → Thin d))
  unfolding too_few decided
  few-down l = (λ e. (λ h. (missing-is d).0 (rw (ne_eqb d.phase 2 (λ z. omega arith)) at (open-phase e (λ z. omega arith))), λ p. (thin_is d).0 (rw (eq-eqb d.phase 2 p) at (open-phase e (λ z. omega arith)))), λ h. by h (ℕ_discrete d.phase 3) (ℕ_discrete d.phase 2))
    where
      open-phase : too_few d ≡ true → (d.phase ≡ 3 → ⊥) → decided d ≡ false
      open-phase e n = not_yes (decided d) (⊎_elim (λ z. absurd (n (eqb-true d.phase 3 z))) (λ z. z) (or_yes (eqb d.phase 3) (not (decided d)) e))

      by : (d.phase ≤ 1 → Missing d) × (d.phase ≡ 2 → Thin d) → Dec (d.phase ≡ 3) → Dec (d.phase ≡ 2) → too_few d ≡ true
      by h (yes p) q = or_yes-l (eqb d.phase 3) (not (decided d)) (eq-eqb d.phase 3 p)
      by h (no n) (yes p) = or_yes_r (eqb d.phase 3) (not (decided d)) (rw (eq-eqb d.phase 2 p) (ap not ((thin_is d).1 (h.1 p))))
      by h (no n) (no m) = or_yes_r (eqb d.phase 3) (not (decided d)) (rw (ne_eqb d.phase 2 m) (ap not ((missing-is d).1 (h.0 (omega arith)))))

  -- a set exactly in phases 2 and 3
  set-down : (set_formed d ≡ true) ↔ ((2 ≤ d.phase → There d.chosen.some × KeptSet d.t (shards_of d.pieces) d.chosen.set) × (d.phase ≤ 1 → d.chosen.some ≡ 0))
  unfolding set_formed
  set-down = (λ e. (λ h. held.0 (rw (le-leb 2 d.phase h) at e), λ h. none.0 (rw (lt-leb 2 d.phase (omega arith)) at e)), λ h. by h (dec_lt d.phase 2))
    where
      held : ((there d.chosen.some && not (bad_set d.t (touched d) d.chosen.set)) ≡ true) ↔ (There d.chosen.some × KeptSet d.t (shards_of d.pieces) d.chosen.set)
      held = and_is _ _ _ _ (there_is d.chosen.some) (kept_not (KeptSet d.t (touched d) d.chosen.set) (bad_set d.t (touched d) d.chosen.set) (set-good d.t (touched d) d.chosen.set))

      none : (not (there d.chosen.some) ≡ true) ↔ (d.chosen.some ≡ 0)
      none = (λ e. eqb-true d.chosen.some 0 (not_no (eqb d.chosen.some 0) (not_yes (there d.chosen.some) e)), λ z. ap (λ (b : Bool). not (not b)) (eq-eqb d.chosen.some 0 z))

      by : (2 ≤ d.phase → There d.chosen.some × KeptSet d.t (shards_of d.pieces) d.chosen.set) × (d.phase ≤ 1 → d.chosen.some ≡ 0) → Dec (d.phase < 2) → set_formed d ≡ true
      by h (yes l) = rw (lt-leb 2 d.phase l) (none.1 (h.1 (omega arith)))
      by h (no n) = rw (le-leb 2 d.phase (omega arith)) (held.1 (h.0 (omega arith)))

  -- ---- the whole

  down : Formed d → InForm d
  down f =
      let n = numbers-down.0 f.numbers in
      let b = ballots-down.0 f.ballots in
      let w = (few-down n.1).0 f.few in
      let v = set-down.0 f.set in
      record {
        number = n.0.0;
        coordinator = n.0.1;
        phase = n.1;
        pieces = (piece-rules d.pieces).0 f.pieces;
        ballot = b.0.0;
        recovery = b.0.1;
        seen = b.1;
        answers = λ s l c.
            let a = (answer-down s).0 (f.answers s (omega arith)) c in
            record { asked = a.0.0.0; phase = a.0.0.1; word = λ p h. a.0.1 (omega arith, (c, h)); accepted = λ p h. a.1 (p, (c, h)) };
        waits = w.0;
        few = w.1;
        set = v.0;
        no_set = v.1;
      }

  up : InForm d → Formed d
  up f =
      record {
        numbers = numbers-down.1 ((f.number, f.coordinator), f.phase);
        pieces = (piece-rules d.pieces).1 f.pieces;
        ballots = ballots-down.1 ((f.ballot, f.recovery), f.seen);
        answers = λ s l. (answer-down s).1 (λ c. let a = f.answers s (omega arith) c in (((a.asked, a.phase), λ h. a.word (omega (arith, h.0)) h.1.1), λ h. a.accepted h.0 h.1.1));
        few = (few-down f.phase).1 (f.waits, f.few);
        set = set-down.1 (f.set, f.no_set);
      }

  pub form-is : (formed d ≡ true) ↔ InForm d
  form-is = (λ e. down (formed_parts d e), λ f. parts_formed d (up f))
