-- `transaction::shards_of` meets its contract: the word holds the shards of the pieces passed. Assumes nothing.
use mathlib.Core.Path.{◌≡◌, ap, ◌∙◌}
use native.Mathlib.Omega.{arith}
use Rattle.rules.proofs.OnePass.{shards_passed, shards-none, shards-step, shards-all}
use Rattle.transaction.proofs.shards_of.Goals as goal

pub loop-i-init : goal.loop-i-init
loop-i-init c = shards-none _

pub put_below-touched-requires : goal.put_below-touched-requires
put_below-touched-requires c = omega arith

pub loop-i-preserved : goal.loop-i-preserved
loop-i-preserved c = rw shards-step (cc)

pub returns : goal.returns
returns c = let e : c.loop-i.i ≡ 8 = omega arith in c.loop-i.invariant ∙ ap (shards_passed _) e ∙ shards-all _
