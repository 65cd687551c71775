-- What rule 2 gives: 1 to 8 pieces, each within its limits, strictly rising, so that no two share a shard and a key; and some shard is touched.
-- Assumes nothing.
use Prim.Native.Nat.{ℕ, zero, suc, ◌-◌, ◌^◌, ◌<◌, ◌≤◌}
use mathlib.Core.Path.{◌≡◌, refl, ◌∙◌}
use mathlib.Core.Bool.{Bool, true, not, ◌&&◌, ◌||◌}
use mathlib.Core.Logic.{⊎_elim}
use native.Mathlib.Decide.{dec_lt}
use native.Mathlib.Omega.{arith}
use lib.Dec.{ltb, leb, eqb}
use lib.IntN.{ℤ, pos, negsuc}
use borrow.Author.Tests.{ltb-true, leb-true, eq-eqb, ne_eqb}
use Rattle.masks.specs.Bits.{has, none}
use Rattle.masks.specs.Folds.{all_below}
use Rattle.masks.proofs.Bools.{and_yes-l, and_yes_r}
use Rattle.masks.proofs.Laws.{in_pos, has_in}
use Rattle.masks.proofs.FoldLaws.{all_at, any_at, any_of, has_mask, has_mask_below, mask_bound, below_or_last}
use Rattle.rules.specs.declared.Piece.{Piece}
use Rattle.rules.specs.declared.Pieces.{Pieces}
use Rattle.rules.specs.Cluster.{SHARDS, KEYS, KINDS, PIECES}
use Rattle.rules.specs.Pieces.{piece_at, place, read, is_zero, piece_kept, entry_kept, pieces_kept, on_shard, On, touches, shards_of}
use Rattle.rules.proofs.ConflictIs.{on-is, is-on}

-- one piece
pub record PieceKept (p : Piece) : Type 0 where
  pub shard : p.shard < SHARDS
  pub key : p.key < KEYS
  pub kind : p.kind < KINDS
  pub operand : p.kind ≡ read → p.operand ≡ pos 0

is_zero_lem : (z : ℤ) → is_zero z ≡ true → z ≡ pos 0
unfolding is_zero
is_zero_lem (pos zero) e = refl
is_zero_lem (pos (suc n)) e = absurd (mathlib.Core.Bool.false≢true e)
is_zero_lem (negsuc n) e = absurd (mathlib.Core.Bool.false≢true e)

pub piece_kept_lem : (p : Piece) → piece_kept p ≡ true → PieceKept p
piece_kept_lem p e =
    let three = and_yes-l (ltb p.shard SHARDS && ltb p.key KEYS && ltb p.kind KINDS) (not (eqb p.kind read) || is_zero p.operand) e in
    let two = and_yes-l (ltb p.shard SHARDS && ltb p.key KEYS) (ltb p.kind KINDS) three in
    let last = and_yes_r (ltb p.shard SHARDS && ltb p.key KEYS && ltb p.kind KINDS) (not (eqb p.kind read) || is_zero p.operand) e in
    record {
      shard = ltb-true p.shard SHARDS (and_yes-l (ltb p.shard SHARDS) (ltb p.key KEYS) two);
      key = ltb-true p.key KEYS (and_yes_r (ltb p.shard SHARDS) (ltb p.key KEYS) two);
      kind = ltb-true p.kind KINDS (and_yes_r (ltb p.shard SHARDS && ltb p.key KEYS) (ltb p.kind KINDS) three);
      operand = λ r. is_zero_lem p.operand (rw (eq-eqb p.kind read r) at last);
    }

-- the rule of a transaction
pub record Kept (ps : Pieces) : Type 0 where
  pub some : 1 ≤ ps.count
  pub few : ps.count ≤ PIECES
  pub piece : (i : ℕ) → i < ps.count → PieceKept (piece_at ps i)
  pub rising : (i j : ℕ) → i < j → j < ps.count → place (piece_at ps i) < place (piece_at ps j)

module _ (ps : Pieces) (e : pieces_kept ps ≡ true) where
  counts : (leb 1 ps.count && leb ps.count PIECES) ≡ true
  unfolding pieces_kept
  counts = and_yes-l (leb 1 ps.count && leb ps.count PIECES) (all_below (entry_kept ps) ps.count) e

  entries : (i : ℕ) → i < ps.count → entry_kept ps i ≡ true
  unfolding pieces_kept
  entries i l = all_at (entry_kept ps) ps.count i (and_yes_r (leb 1 ps.count && leb ps.count PIECES) (all_below (entry_kept ps) ps.count) e) l

  piece-at : (i : ℕ) → i < ps.count → PieceKept (piece_at ps i)
  unfolding entry_kept
  piece-at i l = piece_kept_lem (piece_at ps i) (and_yes-l (piece_kept (piece_at ps i)) (eqb i 0 || ltb (place (piece_at ps (i - 1))) (place (piece_at ps i))) (entries i l))

  next-above : (i : ℕ) → suc i < ps.count → place (piece_at ps i) < place (piece_at ps (suc i))
  unfolding entry_kept
  next-above i l =
      let before : suc i - 1 ≡ i = omega arith in
      let later = and_yes_r (piece_kept (piece_at ps (suc i))) (eqb (suc i) 0 || ltb (place (piece_at ps (suc i - 1))) (place (piece_at ps (suc i)))) (entries (suc i) l) in
      ltb-true (place (piece_at ps i)) (place (piece_at ps (suc i))) (rw (ne_eqb (suc i) 0 (λ z. omega arith), before) at later)

  rises : (i j : ℕ) → i < j → j < ps.count → place (piece_at ps i) < place (piece_at ps j)
  rises i zero l c = absurd (omega arith)
  rises i (suc j) l c = ⊎_elim (λ b. omega (arith, rises i j b (omega arith), next-above j c)) (λ s. rw s (next-above j c)) (below_or_last i j l)

  pub kept-is : Kept ps
  kept-is =
      record {
        some = leb-true 1 ps.count (and_yes-l (leb 1 ps.count) (leb ps.count PIECES) counts);
        few = leb-true ps.count PIECES (and_yes_r (leb 1 ps.count) (leb ps.count PIECES) counts);
        piece = piece-at;
        rising = rises;
      }

-- no two pieces share a shard and a key
pub kept_apart : (ps : Pieces) → Kept ps → (i j : ℕ) → i < ps.count → j < ps.count → (piece_at ps i).shard ≡ (piece_at ps j).shard → (piece_at ps i).key ≡ (piece_at ps j).key → i ≡ j
kept_apart ps h i j li lj s y = go (dec_lt i j) (dec_lt j i)
  where
    go : Dec (i < j) → Dec (j < i) → i ≡ j
    go (yes l) d = absurd (omega (arith, h.rising i j l lj, s, y))
    go (no n) (yes l) = absurd (omega (arith, h.rising j i l li, s, y))
    go (no n) (no m) = omega arith

-- the word of touched shards
module _ (ps : Pieces) where
  pub has-shards : (k : ℕ) → has (shards_of ps) k ≡ (ltb k SHARDS && touches ps k)
  unfolding shards_of
  has-shards k = has_mask (touches ps) SHARDS k

  pub has-shard : (k : ℕ) → k < SHARDS → has (shards_of ps) k ≡ touches ps k
  unfolding shards_of
  has-shard k l = has_mask_below (touches ps) SHARDS k l

  pub shards-lt : shards_of ps < 2 ^ SHARDS
  unfolding shards_of
  shards-lt = mask_bound (touches ps) SHARDS

  pub touches_at : (k : ℕ) → touches ps k ≡ true → (i : ℕ) × On ps k i
  unfolding touches
  touches_at k e = let f = any_at (on_shard ps k) PIECES e in (f.0, on-is ps k f.0 f.1 f.2)

  pub touches-of : (k i : ℕ) → On ps k i → touches ps k ≡ true
  unfolding touches
  touches-of k i o = any_of (on_shard ps k) PIECES i o.below (is-on ps k i o)

  module _ (h : Kept ps) where
    pub kept-touches : (i : ℕ) → i < ps.count → touches ps (piece_at ps i).shard ≡ true
    kept-touches i l = touches-of (piece_at ps i).shard i (record { below = omega (arith, h.few); counted = l; shard = refl })

    -- only shards below 4 are touched, and their word says all
    pub touches-lt : (k : ℕ) → touches ps k ≡ true → k < SHARDS
    touches-lt k e = let f = touches_at k e in omega (arith, (h.piece f.0 f.1.counted).shard, f.1.shard)

    pub kept-has-shard : (k : ℕ) → touches ps k ≡ true → has (shards_of ps) k ≡ true
    kept-has-shard k e = has-shard k (touches-lt k e) ∙ e

    pub some-shard : shards_of ps ≡ none → ⊥
    some-shard z = omega (arith, in_pos (has_in (kept-has-shard (piece_at ps 0).shard (kept-touches 0 (omega (arith, h.some))))), z)
