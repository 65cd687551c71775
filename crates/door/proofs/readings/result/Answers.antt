-- `door::readings::result` meets its contract. Assumes nothing.
use Rattle.door.specs.Readings.{result_at}
use borrow.Author.Tests.{lt-ltb, le-ltb}
use Rattle.door.proofs.readings.result.Goals as goal

pub returns-then-t-lt-NUMBERS : goal.returns-then-t-lt-NUMBERS
unfolding result_at
returns-then-t-lt-NUMBERS c = rw (lt-ltb _ _ c.if-t-lt-NUMBERS.true) c.result_in.ensures

pub returns-else-t-lt-NUMBERS : goal.returns-else-t-lt-NUMBERS
unfolding result_at
returns-else-t-lt-NUMBERS c = rw (le-ltb _ _ c.if-t-lt-NUMBERS.false) c.none.ensures
