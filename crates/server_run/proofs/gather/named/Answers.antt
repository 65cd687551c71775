-- `server_run::gather::named` meets its contract. Assumes nothing.
use borrow.Author.Tests.{eq-eqb, ne_eqb}
use Rattle.server_run.specs.Gathered.{named}
use Rattle.server_run.proofs.gather.named.Goals as goal

pub returns-then-c-ne0 : goal.returns-then-c-ne0
unfolding named
returns-then-c-ne0 c = rw (ne_eqb _ 0 c.if-c-ne0.true)

pub returns-else-c-ne0 : goal.returns-else-c-ne0
unfolding named
returns-else-c-ne0 c = rw (eq-eqb _ 0 c.if-c-ne0.false) c.no_set.ensures
