-- A conflict in plain numbers, both ways: "they share a key there and not both pieces are reads", of the eight places of a list, the keys 0 to 15 and the kind 0 of a read.
-- Assumes nothing.
use Prim.Native.Nat.{ℕ, ◌<◌, ◌≤◌}
use mathlib.Core.Path.{◌≡◌}
use mathlib.Core.Bool.{true}
use mathlib.Core.Logic.{◌↔◌}
use native.Mathlib.Omega.{arith}
use Rattle.rules.specs.declared.Pieces.{Pieces}
use Rattle.rules.specs.Pieces.{piece_at}
use Rattle.rules.specs.Conflict.{conflict, Shares}
use Rattle.rules.proofs.ConflictIs.{conflict-shares, shares-conflict}

-- the piece i of ps is there, on shard k
pub record Here (ps : Pieces) (k i : ℕ) : Type 0 where
  pub place : i ≤ 7
  pub counted : i < ps.count
  pub shard : (piece_at ps i).shard ≡ k

-- the piece i of a and the piece j of b
pub record Clash (k : ℕ) (a b : Pieces) (i j : ℕ) : Type 0 where
  pub first : Here a k i
  pub second : Here b k j
  pub key : (piece_at a i).key ≤ 15
  pub shared : (piece_at a i).key ≡ (piece_at b j).key
  pub writes : ((piece_at a i).kind ≡ 0) × ((piece_at b j).kind ≡ 0) → ⊥

module _ (k : ℕ) (a b : Pieces) where
  clash : (i j : ℕ) → Shares k a b i j → Clash k a b i j
  clash i j s =
      record {
        first = record { place = omega (arith, s.first.below); counted = s.first.counted; shard = s.first.shard };
        second = record { place = omega (arith, s.second.below); counted = s.second.counted; shard = s.second.shard };
        key = omega (arith, s.key);
        shared = s.shared;
        writes = λ w. s.writes w.0 w.1;
      }

  shares : (i j : ℕ) → Clash k a b i j → Shares k a b i j
  shares i j h =
      record {
        first = record { below = omega (arith, h.first.place); counted = h.first.counted; shard = h.first.shard };
        second = record { below = omega (arith, h.second.place); counted = h.second.counted; shard = h.second.shard };
        key = omega (arith, h.key);
        shared = h.shared;
        writes = λ x y. h.writes (x, y);
      }

  pub conflict-rule : (conflict k a b ≡ true) ↔ ((i : ℕ) × (j : ℕ) × Clash k a b i j)
  conflict-rule =
      (λ e. let s = conflict-shares k a b e in (s.0, s.1, clash s.0 s.1 s.2), λ h. shares-conflict k a b h.0 h.1 (shares h.0 h.1 h.2))
