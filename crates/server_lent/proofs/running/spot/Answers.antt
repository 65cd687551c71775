-- `server_lent::running::spot` meets its contract. Assumes nothing.
use borrow.Author.Tests.{lt-ltb, le-ltb}
use Rattle.server_lent.specs.Listed.{spot_of}
use Rattle.server_lent.proofs.running.spot.Goals as goal

pub returns-then-at-lt64-clause-value : goal.returns-then-at-lt64-clause-value
unfolding spot_of
returns-then-at-lt64-clause-value c = rw (lt-ltb _ _ c.if-at-lt64.true)

pub returns-else-at-lt64-clause-value : goal.returns-else-at-lt64-clause-value
unfolding spot_of
returns-else-at-lt64-clause-value c = rw (le-ltb _ _ c.if-at-lt64.false)
