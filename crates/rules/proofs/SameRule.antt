-- The same pieces and the same set, both ways: "two messages are the same when their fields agree, arrays up to their counts".
-- Assumes nothing.
use Prim.Native.Nat.{ℕ, ◌<◌, ◌≤◌}
use mathlib.Core.Path.{◌≡◌}
use mathlib.Core.Bool.{true}
use mathlib.Core.Logic.{◌↔◌}
use native.Mathlib.Omega.{arith}
use Rattle.masks.specs.Bits.{In}
use Rattle.rules.specs.declared.Pieces.{Pieces}
use Rattle.rules.specs.declared.Set.{Set}
use Rattle.rules.specs.Pieces.{piece_at, same_pieces}
use Rattle.rules.specs.Sets.{word, members, same_set}
use Rattle.rules.proofs.SamePieces.{same_is, is_same}
use Rattle.rules.proofs.SetLaws.{same_set_lem, set_same, in_members, in-members-of}

-- as many, and each of the eight places that is counted holds the same piece
abbrev pub EqualPieces : Pieces → Pieces → Type 0
EqualPieces a b = (a.count ≡ b.count) × ((i : ℕ) → i ≤ 7 → i < a.count → piece_at a i ≡ piece_at b i)

pub same_pieces_rule : (a b : Pieces) → (same_pieces a b ≡ true) ↔ EqualPieces a b
same_pieces_rule a b =
    (λ e. let s = same_is a b e in (s.count, λ i l c. s.piece i (omega arith) c), λ h. is_same a b (record { count = h.0; piece = λ i l c. h.1 i (omega arith) c }))

pub same_set_rule : (a b : Set) → (same_set a b ≡ true) ↔ (a ≡ b)
same_set_rule a b = (same_set_lem a b, set_same a b)

-- the numbers of a set are those of its words, of shards 0 to 3
pub members_rule : (v : Set) (t : ℕ) → In (members v) t ↔ ((k : ℕ) × (k ≤ 3) × In (word v k) t)
members_rule v t =
    (λ i. let m = in_members v t i in (m.0, omega (arith, m.1), m.2), λ h. in-members-of v t h.0 (omega arith) h.2)
