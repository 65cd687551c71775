-- `refusals::not_taken` meets its contract. Assumes nothing.
use Rattle.server.specs.Refusals.{not_taken}
use Rattle.server_step.proofs.refusals.not_taken.Goals as goal

pub returns : goal.returns
unfolding not_taken
returns c = rw (c.over_count.ensures, c.server_takes.ensures)
