-- `transaction::touches` meets its contract: the pieces passed touch the shard. Assumes nothing.
use mathlib.Core.Path.{ap, ◌∙◌}
use native.Mathlib.Omega.{arith}
use Rattle.masks.specs.Folds.{any_below}
use Rattle.masks.proofs.Turns.{any_none, any_step}
use Rattle.rules.specs.Pieces.{touches}
use Rattle.transaction.proofs.touches.Goals as goal

pub loop-i-init : goal.loop-i-init
loop-i-init c = any_none _

pub loop-i-preserved : goal.loop-i-preserved
loop-i-preserved c = rw any_step (cc)

pub returns : goal.returns
unfolding touches
returns c = c.loop-i.invariant ∙ ap (any_below _) (omega arith)
