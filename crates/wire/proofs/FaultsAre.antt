-- What is wrong with a message by itself, in plain numbers and both ways: 12, 1, 2 and 3, each by the codes whose messages have the field.
-- Assumes nothing.
use mathlib.Core.Path.{◌≡◌, refl, sym, ap, ◌∙◌}
use mathlib.Core.Bool.{Bool, true, false, not, ◌&&◌, ◌||◌}
use mathlib.Core.List.{List}
use mathlib.Core.Logic.{◌↔◌, ◌⊎◌}
use Prim.Native.Nat.{ℕ, ◌≤◌, ◌<◌}
use lib.Dec.{eqb}
use borrow.Author.Tests.{eqb-true, eqb-false, eq-eqb, ne_eqb}
use Rattle.masks.specs.Bits.{has, In}
use Rattle.masks.proofs.Bools.{and_yes-l, and_yes_r, and_yes, or_no_l, or_no_r, or_no, one_no, not_yes, not_no, true_and_false}
use Rattle.masks.proofs.Laws.{not_has, has_not}
use Rattle.rules.specs.Flags.{there}
use Rattle.rules.specs.Cluster.{bad_number, bad_server}
use Rattle.rules.specs.Ballots.{bad_ballot}
use Rattle.rules.specs.Pieces.{too_many, pieces_kept}
use Rattle.rules.specs.Sets.{bad_set}
use Rattle.rules.proofs.RuleOne.{number-good, server-good, ballot-good}
use Rattle.rules.proofs.RuleTwo.{LawfulPieces, piece-rules, too_many_lem}
use Rattle.rules.proofs.RuleThree.{KeptSet, set-good}
use Rattle.wire.specs.declared.Message.{Message}
use Rattle.wire.specs.Codes.{shape_of}
use Rattle.wire.specs.Faults.{over_count, bad_numbers, bad_pieces, bad_sets}
use Rattle.wire.proofs.Columns.{one_of, server_codes, ballot_codes, promise_codes, piece_codes, set_codes, word_codes, prepared_codes, server-codes, ballot-codes, promise-codes, piece-codes, set-codes, word-codes, prepared-codes}

-- 0, or 8 to 65,535
abbrev pub Ballot : ℕ → Type 0
Ballot b = (b ≡ 0) ⊎ ((8 ≤ b) × (b ≤ 65535))

-- something is there
abbrev pub There : ℕ → Type 0
There n = n ≡ 0 → ⊥

pub there_is : (n : ℕ) → (there n ≡ true) ↔ There n
there_is n = (λ e. eqb-false n 0 (not_yes (eqb n 0) e), λ h. ap not (ne_eqb n 0 h))

-- if a then not b
no_both : (a b : Bool) → (a ≡ true → b ≡ false) → (a && b) ≡ false
no_both true b h = h refl
no_both false b h = refl

-- the message has one of these codes
abbrev pub Of : Message → List ℕ → Type 0
Of m l = one_of m.code l ≡ true

-- ---- 12

pub over-count : (m : Message) → (over_count m ≡ true) ↔ (Of m piece_codes × (8 < m.pieces.count))
unfolding over_count
over-count m = (
  λ e. (sym (piece-codes m.code) ∙ and_yes-l (shape_of m.code).pieces (too_many m.pieces) e, (too_many_lem m.pieces).0 (and_yes_r (shape_of m.code).pieces (too_many m.pieces) e)),
  λ h. and_yes (shape_of m.code).pieces (too_many m.pieces) (piece-codes m.code ∙ h.0) ((too_many_lem m.pieces).1 h.1),
)

-- ---- 1

pub record NumbersKept (m : Message) : Type 0 where
  pub number : m.t ≤ 63
  pub server : Of m server_codes → m.server ≤ 11
  pub ballot : Of m ballot_codes → Ballot m.ballot
  pub promise : Of m promise_codes → Ballot m.promise
  pub accepted : Of m prepared_codes → There m.accepted.some → Ballot m.accepted.ballot
  pub prepare : m.code ≡ 3 → m.ballot ≡ 0 → ⊥

module _ (m : Message) where
  abbrev at_server : Bool
  at_server = (shape_of m.code).server && bad_server m.server

  abbrev at_ballot : Bool
  at_ballot = (shape_of m.code).ballot && bad_ballot m.ballot

  abbrev at_promise : Bool
  at_promise = (shape_of m.code).promise && bad_ballot m.promise

  abbrev at_vote : Bool
  at_vote = (shape_of m.code).prepared && there m.accepted.some && bad_ballot m.accepted.ballot

  abbrev at_prepare : Bool
  at_prepare = eqb m.code 3 && eqb m.ballot 0

  pub numbers-kept : (bad_numbers m ≡ false) ↔ NumbersKept m
  unfolding bad_numbers
  numbers-kept = (parts, whole)
    where
      parts : bad_numbers m ≡ false → NumbersKept m
      parts e =
          let e4 = or_no_l (bad_number m.t || at_server || at_ballot || at_promise || at_vote) at_prepare e in
          let e3 = or_no_l (bad_number m.t || at_server || at_ballot || at_promise) at_vote e4 in
          let e2 = or_no_l (bad_number m.t || at_server || at_ballot) at_promise e3 in
          let e1 = or_no_l (bad_number m.t || at_server) at_ballot e2 in
          record {
            number = (number-good m.t).0 (or_no_l (bad_number m.t) at_server e1);
            server = λ c. (server-good m.server).0 (one_no _ _ (or_no_r (bad_number m.t) at_server e1) (server-codes m.code ∙ c));
            ballot = λ c. (ballot-good m.ballot).0 (one_no _ _ (or_no_r (bad_number m.t || at_server) at_ballot e2) (ballot-codes m.code ∙ c));
            promise = λ c. (ballot-good m.promise).0 (one_no _ _ (or_no_r (bad_number m.t || at_server || at_ballot) at_promise e3) (promise-codes m.code ∙ c));
            accepted = λ c h. (ballot-good m.accepted.ballot).0 (one_no _ _ (or_no_r (bad_number m.t || at_server || at_ballot || at_promise) at_vote e4) (and_yes _ _ (prepared-codes m.code ∙ c) ((there_is m.accepted.some).1 h)));
            prepare = λ c z. true_and_false (eq-eqb m.ballot 0 z) (one_no _ _ (or_no_r (bad_number m.t || at_server || at_ballot || at_promise || at_vote) at_prepare e) (eq-eqb m.code 3 c));
          }

      whole : NumbersKept m → bad_numbers m ≡ false
      whole h =
          or_no _ _
          (or_no _ _
          (or_no _ _
          (or_no _ _
          (or_no _ _ ((number-good m.t).1 h.number)
          (no_both _ _ (λ c. (server-good m.server).1 (h.server (sym (server-codes m.code) ∙ c)))))
          (no_both _ _ (λ c. (ballot-good m.ballot).1 (h.ballot (sym (ballot-codes m.code) ∙ c)))))
          (no_both _ _ (λ c. (ballot-good m.promise).1 (h.promise (sym (promise-codes m.code) ∙ c)))))
          (no_both _ _ (λ c. (ballot-good m.accepted.ballot).1 (h.accepted (sym (prepared-codes m.code) ∙ and_yes-l (shape_of m.code).prepared (there m.accepted.some) c) ((there_is m.accepted.some).0 (and_yes_r (shape_of m.code).prepared (there m.accepted.some) c))))))
          (no_both _ _ (λ c. ne_eqb m.ballot 0 (h.prepare (eqb-true m.code 3 c))))

  -- ---- 2

  pub pieces_kept_lem : (bad_pieces m ≡ false) ↔ (Of m piece_codes → LawfulPieces m.pieces)
  unfolding bad_pieces
  pieces_kept_lem = (
    λ e c. (piece-rules m.pieces).0 (not_no (pieces_kept m.pieces) (one_no _ _ e (piece-codes m.code ∙ c))),
    λ h. no_both _ _ (λ c. ap not ((piece-rules m.pieces).1 (h (sym (piece-codes m.code) ∙ c)))),
  )

-- ---- 3, where T touches these shards

pub record SetsKept (touched : ℕ) (m : Message) : Type 0 where
  pub set : Of m set_codes → KeptSet m.t touched m.set
  pub word : Of m word_codes → In m.word m.t → ⊥
  pub arrival : Of m prepared_codes → There m.arrival.some → In m.arrival.word m.t → ⊥
  pub accepted : Of m prepared_codes → There m.accepted.some → KeptSet m.t touched m.accepted.set

module _ (touched : ℕ) (m : Message) where
  abbrev at_set : Bool
  at_set = (shape_of m.code).set && bad_set m.t touched m.set

  abbrev at_word : Bool
  at_word = (shape_of m.code).word && has m.word m.t

  abbrev at_arrival : Bool
  at_arrival = (shape_of m.code).prepared && there m.arrival.some && has m.arrival.word m.t

  abbrev at_accepted : Bool
  at_accepted = (shape_of m.code).prepared && there m.accepted.some && bad_set m.t touched m.accepted.set

  pub sets-kept : (bad_sets touched m ≡ false) ↔ SetsKept touched m
  unfolding bad_sets
  sets-kept = (parts, whole)
    where
      parts : bad_sets touched m ≡ false → SetsKept touched m
      parts e =
          let e2 = or_no_l (at_set || at_word || at_arrival) at_accepted e in
          let e1 = or_no_l (at_set || at_word) at_arrival e2 in
          record {
            set = λ c. (set-good m.t touched m.set).0 (one_no _ _ (or_no_l at_set at_word e1) (set-codes m.code ∙ c));
            word = λ c. has_not (one_no _ _ (or_no_r at_set at_word e1) (word-codes m.code ∙ c));
            arrival = λ c h. has_not (one_no _ _ (or_no_r (at_set || at_word) at_arrival e2) (and_yes _ _ (prepared-codes m.code ∙ c) ((there_is m.arrival.some).1 h)));
            accepted = λ c h. (set-good m.t touched m.accepted.set).0 (one_no _ _ (or_no_r (at_set || at_word || at_arrival) at_accepted e) (and_yes _ _ (prepared-codes m.code ∙ c) ((there_is m.accepted.some).1 h)));
          }

      whole : SetsKept touched m → bad_sets touched m ≡ false
      whole h =
          or_no _ _
          (or_no _ _
          (or_no _ _ (no_both _ _ (λ c. (set-good m.t touched m.set).1 (h.set (sym (set-codes m.code) ∙ c))))
          (no_both _ _ (λ c. not_has (h.word (sym (word-codes m.code) ∙ c)))))
          (no_both _ _ (λ c. not_has (h.arrival (sym (prepared-codes m.code) ∙ and_yes-l (shape_of m.code).prepared (there m.arrival.some) c) ((there_is m.arrival.some).0 (and_yes_r (shape_of m.code).prepared (there m.arrival.some) c))))))
          (no_both _ _ (λ c. (set-good m.t touched m.accepted.set).1 (h.accepted (sym (prepared-codes m.code) ∙ and_yes-l (shape_of m.code).prepared (there m.accepted.some) c) ((there_is m.accepted.some).0 (and_yes_r (shape_of m.code).prepared (there m.accepted.some) c)))))
