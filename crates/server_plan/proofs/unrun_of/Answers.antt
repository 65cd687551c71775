-- `server_plan::unrun_of` meets its contract. Assumes nothing.
use Rattle.server_plan.specs.Planning.{unrun_of}
use Rattle.server_plan.proofs.unrun_of.Goals as goal

pub returns : goal.returns
unfolding unrun_of
returns c = rw (c.without.ensures, c.members.ensures, c.named.ensures)
