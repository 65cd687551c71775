-- `drive_decide::words::in_shard` meets its contract: the callees say its tests, and where none is counted nothing is said. Assumes nothing.
use Rattle.masks.specs.Bits.{union}
use Rattle.drive_decide.proofs.Wording.{silent}
use Rattle.drive_decide.proofs.words.in_shard.Goals as goal

pub returns-then-a-b : goal.returns-then-a-b
returns-then-a-b c = silent c.args.a.now c.args.b.now c.args.c.now c.if-a-b.true

pub returns : goal.returns
unfolding union
returns c = rw (c.agree-3.ensures, c.agree-2.ensures, c.agree.ensures, c.said-3.ensures, c.said-2.ensures, c.said.ensures, c.word_of-3.ensures, c.word_of-2.ensures, c.word_of.ensures)
