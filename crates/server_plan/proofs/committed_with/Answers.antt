-- `server_plan::committed_with` meets its contract. Assumes nothing.
use Rattle.server_plan.specs.Planning.{committed_with}
use Rattle.server_plan.proofs.committed_with.Goals as goal

pub returns : goal.returns
unfolding committed_with
returns c = c.put.ensures
