-- What a server refuses, in document 01's order, words and numbers, both ways: each number exactly when its reason holds and none before it does. Assumes nothing.
use mathlib.Core.Path.{◌≡◌, sym, ap, ◌∙◌}
use mathlib.Core.Logic.{◌↔◌, ◌⊎◌, inl, inr, ⊎_elim}
use mathlib.Core.List.{[], ◌∷◌}
use mathlib.Core.Bool.{true, false, not, ◌&&◌}
use Prim.Native.Nat.{ℕ, ◌/◌, ◌<◌}
use Rattle.masks.specs.Bits.{has, In}
use Rattle.masks.proofs.Bools.{and_yes, and_yes-l, and_yes_r, or_yes, or_yes-l, or_yes_r, not_yes}
use Rattle.masks.proofs.Laws.{has_not, not_has}
use Rattle.rules.specs.Flags.{there}
use Rattle.rules.specs.Pieces.{any_pieces, same_pieces, shards_of}
use Rattle.rules.specs.Sets.{same_set}
use Rattle.rules.proofs.InTurn.{◌when◌otherwise◌, nothing, in_turn, at_last, broken, denied}
use Rattle.rules.proofs.RuleTwo.{LawfulPieces}
use Rattle.rules.proofs.SameRule.{EqualPieces, same_pieces_rule, same_set_rule}
use Rattle.wire.specs.declared.Message.{Message}
use Rattle.wire.specs.Codes.{shape_of, server_takes, asks, commits}
use Rattle.wire.specs.Faults.{over_count, bad_numbers, bad_pieces, bad_sets}
use Rattle.wire.proofs.Columns.{one_of, piece_codes, piece-codes, server-takes, ask-codes, commit-codes}
use Rattle.wire.proofs.FaultsAre.{There, there_is, Of, over-count, NumbersKept, numbers-kept, pieces_kept_lem, SetsKept, sets-kept}
use Rattle.server.specs.declared.Record.{Record}
use Rattle.server.specs.declared.Server.{Server}
use Rattle.server.specs.Held.{record_at, shard}
use Rattle.server.specs.Form.{formed}
use Rattle.server.specs.Refusals.{not_taken, untouched, other_pieces, other_set, refusal}
use Rattle.server.proofs.FormDown.{InForm, form-is}

-- 12: "a code that side doesn't take (a server takes 0 to 5 and 20 ..)", or "count above 8"
abbrev pub NotTaken : Message → Type 0
NotTaken m = (one_of m.code (0 ∷ 1 ∷ 2 ∷ 3 ∷ 4 ∷ 5 ∷ 20 ∷ []) ≡ false) ⊎ (Of m piece_codes × (8 < m.pieces.count))

not_taken_lem : (m : Message) → (not_taken m ≡ true) ↔ NotTaken m
unfolding not_taken
not_taken_lem m = (
  λ e. ⊎_elim (λ f. inl (sym (server-takes m.code) ∙ not_yes (server_takes m.code) f)) (λ f. inr ((over-count m).0 f)) (or_yes (not (server_takes m.code)) (over_count m) e),
  λ h. ⊎_elim (λ f. or_yes-l (not (server_takes m.code)) (over_count m) (ap not (server-takes m.code ∙ f))) (λ f. or_yes_r (not (server_takes m.code)) (over_count m) ((over-count m).1 f)) h,
)

-- 4: "PreAccept, Accept or Prepare at a server whose shard T doesn't touch"
abbrev pub Untouched : Server → Message → Type 0
Untouched s m = Of m (0 ∷ 1 ∷ 3 ∷ []) × (In (shards_of m.pieces) (s.id / 3) → ⊥)

untouched_is : (s : Server) (m : Message) → (untouched (shard s) (shards_of m.pieces) m ≡ true) ↔ Untouched s m
unfolding untouched
untouched_is s m = (
  λ e. (sym (ask-codes m.code) ∙ and_yes-l (asks m.code) (not (has (shards_of m.pieces) (shard s))) e, has_not (not_yes (has (shards_of m.pieces) (shard s)) (and_yes_r (asks m.code) (not (has (shards_of m.pieces) (shard s))) e))),
  λ h. and_yes (asks m.code) (not (has (shards_of m.pieces) (shard s))) (ask-codes m.code ∙ h.0) (ap not (not_has h.1)),
)

-- 5: "pieces differ from those held"
abbrev pub OtherPieces : Record → Message → Type 0
OtherPieces v m = Of m piece_codes × There v.pieces.count × (EqualPieces v.pieces m.pieces → ⊥)

other_pieces_lem : (v : Record) (m : Message) → (other_pieces v m ≡ true) ↔ OtherPieces v m
unfolding other_pieces
other_pieces_lem v m = (
  λ e.
      let h = and_yes-l ((shape_of m.code).pieces && any_pieces v.pieces) (not (same_pieces v.pieces m.pieces)) e in (
        sym (piece-codes m.code) ∙ and_yes-l (shape_of m.code).pieces (any_pieces v.pieces) h,
        (there_is v.pieces.count).0 (and_yes_r (shape_of m.code).pieces (any_pieces v.pieces) h),
        (denied (EqualPieces v.pieces m.pieces) (same_pieces v.pieces m.pieces) (same_pieces_rule v.pieces m.pieces)).0 (and_yes_r ((shape_of m.code).pieces && any_pieces v.pieces) (not (same_pieces v.pieces m.pieces)) e),
      ),
  λ h. and_yes _ _ (and_yes _ _ (piece-codes m.code ∙ h.0) ((there_is v.pieces.count).1 h.1)) ((denied (EqualPieces v.pieces m.pieces) (same_pieces v.pieces m.pieces) (same_pieces_rule v.pieces m.pieces)).1 h.2),
)

-- 6: "Commit, or Done at a server, with another set than the committed one"
abbrev pub OtherSet : Record → Message → Type 0
OtherSet v m = Of m (2 ∷ 20 ∷ []) × There v.committed.some × (v.committed.set ≡ m.set → ⊥)

other_set_lem : (v : Record) (m : Message) → (other_set v m ≡ true) ↔ OtherSet v m
unfolding other_set
other_set_lem v m = (
  λ e.
      let h = and_yes-l (commits m.code && there v.committed.some) (not (same_set v.committed.set m.set)) e in (
        sym (commit-codes m.code) ∙ and_yes-l (commits m.code) (there v.committed.some) h,
        (there_is v.committed.some).0 (and_yes_r (commits m.code) (there v.committed.some) h),
        (denied (v.committed.set ≡ m.set) (same_set v.committed.set m.set) (same_set_rule v.committed.set m.set)).0 (and_yes_r (commits m.code && there v.committed.some) (not (same_set v.committed.set m.set)) e),
      ),
  λ h. and_yes _ _ (and_yes _ _ (commit-codes m.code ∙ h.0) ((there_is v.committed.some).1 h.1)) ((denied (v.committed.set ≡ m.set) (same_set v.committed.set m.set) (same_set_rule v.committed.set m.set)).1 h.2),
)

-- "Order: server 13, 12, 1, 2, 3, 4, 5, 6"
pub refusal_is : (s : Server) (m : Message) (n : ℕ) → (refusal s m ≡ n) ↔
    (13 when (InForm s → ⊥)
    otherwise 12 when NotTaken m
    otherwise 1 when (NumbersKept m → ⊥)
    otherwise 2 when ((Of m piece_codes → LawfulPieces m.pieces) → ⊥)
    otherwise 3 when (SetsKept (shards_of m.pieces) m → ⊥)
    otherwise 4 when Untouched s m
    otherwise 5 when OtherPieces (record_at s m.t) m
    otherwise 6 when OtherSet (record_at s m.t) m
    otherwise nothing) n
unfolding refusal
refusal_is s m =
    in_turn _ _ (not (formed s)) 13 _ (denied (InForm s) (formed s) (form-is s))
    (in_turn _ _ (not_taken m) 12 _ (not_taken_lem m)
    (in_turn _ _ (bad_numbers m) 1 _ (broken (NumbersKept m) (bad_numbers m) (numbers-kept m))
    (in_turn _ _ (bad_pieces m) 2 _ (broken (Of m piece_codes → LawfulPieces m.pieces) (bad_pieces m) (pieces_kept_lem m))
    (in_turn _ _ (bad_sets (shards_of m.pieces) m) 3 _ (broken (SetsKept (shards_of m.pieces) m) (bad_sets (shards_of m.pieces) m) (sets-kept (shards_of m.pieces) m))
    (in_turn _ _ (untouched (shard s) (shards_of m.pieces) m) 4 _ (untouched_is s m)
    (in_turn _ _ (other_pieces (record_at s m.t) m) 5 _ (other_pieces_lem (record_at s m.t) m)
    (in_turn _ _ (other_set (record_at s m.t) m) 6 _ (other_set_lem (record_at s m.t) m) at_last)))))))
