-- `drive_form::Counted::two_in_each` meets its contract: the test of words is that of the shards. Assumes nothing.
use Rattle.drive_form.proofs.Servers.{two-words}
use Rattle.drive_form.proofs.Counted.two_in_each.Goals as goal

pub returns : goal.returns
returns c = rw (c.within.ensures, c.pairs.ensures, c.both.ensures, c.servers_of.ensures) (two-words _ _)
