-- `door::readings::log_entry` meets its contract. Assumes nothing.
use lib.Dec.{ltb}
use borrow.Author.Tests.{ltb-true}
use Rattle.masks.proofs.Bools.{and_yes_r}
use Rattle.door.specs.Readings.{entry_in}
use Rattle.door.proofs.readings.log_entry.Goals as goal

pub bounds-log-place : goal.bounds-log-place
bounds-log-place c = let i = c.args.place in ltb-true i 64 (and_yes_r (ltb i c.args.log.now.count) (ltb i 64) c.if-there.true)

pub returns-then-there : goal.returns-then-there
unfolding entry_in
returns-then-there c = rw c.if-there.true

pub returns : goal.returns
unfolding entry_in
returns c = rw c.if-there.false
