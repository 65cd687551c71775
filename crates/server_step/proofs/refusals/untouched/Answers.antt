-- `refusals::untouched` meets its contract. Assumes nothing.
use Rattle.server.specs.Refusals.{untouched}
use Rattle.server_step.proofs.refusals.untouched.Goals as goal

pub returns : goal.returns
unfolding untouched
returns c = rw c.has.ensures
