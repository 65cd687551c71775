-- `changes::arrive` meets its contract. Assumes nothing.
use borrow.Author.Tests.{eq-eqb, ne_eqb}
use Rattle.server.specs.Changes.{arrive}
use Rattle.server_change.proofs.changes.arrive.Goals as goal

pub returns-then-n-eq0 : goal.returns-then-n-eq0
unfolding arrive
returns-then-n-eq0 c = rw (eq-eqb _ 0 c.if-n-eq0.true)

pub returns-else-n-eq0 : goal.returns-else-n-eq0
unfolding arrive
returns-else-n-eq0 c = rw (ne_eqb _ 0 c.if-n-eq0.false)
