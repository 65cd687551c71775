-- Who conflicts at a shard touches it. Assumes nothing.
use mathlib.Core.Path.{◌≡◌}
use mathlib.Core.Bool.{true}
use Prim.Native.Nat.{ℕ, ◌<◌}
use Rattle.masks.specs.Bits.{has}
use Rattle.rules.specs.declared.Pieces.{Pieces}
use Rattle.rules.specs.Pieces.{pieces_kept, on_shard, touches, shards_of}
use Rattle.rules.specs.Conflict.{conflict}
use Rattle.rules.proofs.PiecesKept.{kept-is, touches-of, kept-has-shard}
use Rattle.rules.proofs.ConflictIs.{on-is, conflict-shares}

pub on_touches : (ps : Pieces) (k i : ℕ) → i < 8 → on_shard ps k i ≡ true → touches ps k ≡ true
on_touches ps k i l o = touches-of ps k i (on-is ps k i l o)

pub conflict-touches : (k : ℕ) (a b : Pieces) → pieces_kept a ≡ true → conflict k a b ≡ true → has (shards_of a) k ≡ true
conflict-touches k a b e c = let h = conflict-shares k a b c in kept-has-shard a (kept-is a e) k (touches-of a k h.0 h.2.first)
