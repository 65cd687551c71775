-- Rule 2 in plain numbers, both ways: 1 to 8 pieces, shards 0 to 3, keys 0 to 15, kinds 0 to 2, a read's operand 0, strictly rising by 16 × shard + key. And which shards are touched.
-- Assumes nothing.
use Prim.Native.Nat.{ℕ, zero, suc, ◌+◌, ◌*◌, ◌-◌, ◌<◌, ◌≤◌}
use mathlib.Core.Path.{◌≡◌, refl, ap, ◌∙◌}
use mathlib.Core.Bool.{true, not, ◌||◌}
use mathlib.Core.Logic.{◌↔◌}
use native.Mathlib.Decide.{ℕ_discrete}
use native.Mathlib.Omega.{arith}
use lib.Dec.{ltb, eqb}
use lib.IntN.{pos}
use borrow.Author.Tests.{lt-ltb, ltb-true, le-leb, ne_eqb}
use Rattle.masks.specs.Bits.{In}
use Rattle.masks.proofs.Bools.{and_yes, or_yes-l, or_yes_r}
use Rattle.masks.proofs.Laws.{has_in, in_has, in_lt}
use Rattle.masks.proofs.FoldLaws.{all_of}
use Rattle.rules.specs.declared.Piece.{Piece}
use Rattle.rules.specs.declared.Pieces.{Pieces}
use Rattle.rules.specs.Cluster.{SHARDS, KEYS, KINDS, PIECES}
use Rattle.rules.specs.Pieces.{piece_at, place, read, is_zero, piece_kept, entry_kept, too_many, pieces_kept, touches, shards_of}
use Rattle.rules.proofs.PiecesKept.{piece_kept_lem, kept-is, has-shard, shards-lt, touches_at, touches-of}

-- a piece, and the pieces of a transaction, as document 01 has them
pub record LawfulPiece (p : Piece) : Type 0 where
  pub shard : p.shard ≤ 3
  pub key : p.key ≤ 15
  pub kind : p.kind ≤ 2
  pub operand : p.kind ≡ 0 → p.operand ≡ pos 0

pub record LawfulPieces (ps : Pieces) : Type 0 where
  pub some : 1 ≤ ps.count
  pub few : ps.count ≤ 8
  pub piece : (i : ℕ) → i < ps.count → LawfulPiece (piece_at ps i)
  pub rising : (i : ℕ) → suc i < ps.count → 16 * (piece_at ps i).shard + (piece_at ps i).key < 16 * (piece_at ps (suc i)).shard + (piece_at ps (suc i)).key

zero_is : is_zero (pos 0) ≡ true
unfolding is_zero
zero_is = refl

-- one piece
pub piece_rule : (p : Piece) → (piece_kept p ≡ true) ↔ LawfulPiece p
piece_rule p = (λ e. let h = piece_kept_lem p e in record { shard = omega (arith, h.shard); key = omega (arith, h.key); kind = omega (arith, h.kind); operand = λ z. h.operand z }, λ h. holds h (ℕ_discrete p.kind 0))
  where
    holds : LawfulPiece p → Dec (p.kind ≡ 0) → piece_kept p ≡ true
    holds h d =
        and_yes _ _
        (and_yes _ _ (and_yes _ _ (lt-ltb p.shard SHARDS (omega (arith, h.shard))) (lt-ltb p.key KEYS (omega (arith, h.key)))) (lt-ltb p.kind KINDS (omega (arith, h.kind))))
        (read-rule d)
      where
        read-rule : Dec (p.kind ≡ 0) → (not (eqb p.kind read) || is_zero p.operand) ≡ true
        read-rule (yes z) = or_yes_r (not (eqb p.kind read)) (is_zero p.operand) (ap is_zero (h.operand z) ∙ zero_is)
        read-rule (no n) = or_yes-l (not (eqb p.kind read)) (is_zero p.operand) (ap not (ne_eqb p.kind read n))

-- "count above 8"
pub too_many_lem : (ps : Pieces) → (too_many ps ≡ true) ↔ (8 < ps.count)
too_many_lem ps = (λ e. omega (arith, ltb-true PIECES ps.count e), λ h. lt-ltb PIECES ps.count (omega arith))

module _ (ps : Pieces) where
  entry-holds : LawfulPieces ps → (i : ℕ) → i < ps.count → entry_kept ps i ≡ true
  unfolding entry_kept
  entry-holds h zero l = and_yes _ _ ((piece_rule (piece_at ps 0)).1 (h.piece 0 l)) refl
  entry-holds h (suc i) l =
      let before : suc i - 1 ≡ i = omega arith in
      and_yes _ _ ((piece_rule (piece_at ps (suc i))).1 (h.piece (suc i) l))
      (rw before (or_yes_r (eqb (suc i) 0) (ltb (place (piece_at ps i)) (place (piece_at ps (suc i)))) (lt-ltb (place (piece_at ps i)) (place (piece_at ps (suc i))) (omega (arith, h.rising i l)))))

  -- the rule of a transaction
  pub piece-rules : (pieces_kept ps ≡ true) ↔ LawfulPieces ps
  unfolding pieces_kept
  piece-rules = (lawful, λ h. and_yes _ _ (and_yes _ _ (le-leb 1 ps.count h.some) (le-leb ps.count PIECES (omega (arith, h.few)))) (all_of (entry_kept ps) ps.count (entry-holds h)))
    where
      lawful : pieces_kept ps ≡ true → LawfulPieces ps
      lawful e =
          let h = kept-is ps e in
          record {
            some = h.some;
            few = omega (arith, h.few);
            piece = λ i l. let p = h.piece i l in record { shard = omega (arith, p.shard); key = omega (arith, p.key); kind = omega (arith, p.kind); operand = λ z. p.operand z };
            rising = λ i l. omega (arith, h.rising i (suc i) (omega arith) l);
          }

  -- a piece of these is on shard k
  abbrev pub Touched : ℕ → Type 0
  Touched k = (i : ℕ) × (i ≤ 7) × (i < ps.count) × ((piece_at ps i).shard ≡ k)

  pub touch-rule : (k : ℕ) → (touches ps k ≡ true) ↔ Touched k
  touch-rule k = (
    λ e. let o = touches_at ps k e in (o.0, omega (arith, o.1.below), o.1.counted, o.1.shard),
    λ h. touches-of ps k h.0 (record { below = omega arith; counted = h.2; shard = h.3 }),
  )

  -- the word of the touched shards, of shards 0 to 3
  pub shards-rule : (k : ℕ) → In (shards_of ps) k ↔ ((k ≤ 3) × Touched k)
  shards-rule k = (
    λ i. let l : k < 4 = in_lt SHARDS (shards-lt ps) i in (omega arith, (touch-rule k).0 (rw (has-shard ps k l) at (in_has i))),
    λ h. let l : k < 4 = omega arith in has_in (has-shard ps k l ∙ (touch-rule k).1 h.1),
  )
