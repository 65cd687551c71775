-- `drive_form::counts::pairs` meets its contract: the callees say it. Assumes nothing.
use Rattle.drive_form.specs.Parts.{pairs}
use Rattle.drive_form.proofs.counts.pairs.Goals as goal

pub returns : goal.returns
unfolding pairs
returns c = rw (c.union-2.ensures, c.both-3.ensures, c.union.ensures, c.both-2.ensures, c.both.ensures)
