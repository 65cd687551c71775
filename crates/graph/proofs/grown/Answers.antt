-- `graph::grown` meets its contract.
-- Assumes nothing.
use Rattle.graph.specs.Walk.{grown}
use Rattle.graph.proofs.grown.Goals as goal

pub returns-then-has : goal.returns-then-has
unfolding grown
returns-then-has c = rw (← c.has.ensures, c.if-has.true) c.union.ensures

pub returns-else-has : goal.returns-else-has
unfolding grown
returns-else-has c = rw (← c.has.ensures, c.if-has.false)
