-- `transaction::touches` meets its contract: the pieces passed touch the shard. Assumes nothing.
use mathlib.Core.Path.{◌≡◌}
use Rattle.masks.specs.Folds.{any_below}
use Rattle.rules.specs.Pieces.{on_shard}
use Rattle.transaction.proofs.touches.Given as goal

abbrev pub invariant-loop-i : goal.invariant-loop-i
invariant-loop-i l = (l.hit ≡ any_below (on_shard l.ps l.k) l.i)
