-- `changes::pre_accepted` meets its contract. Assumes nothing.
use Rattle.server.specs.Changes.{pre_accepted}
use Rattle.server_change.proofs.changes.pre_accepted.Goals as goal

pub returns : goal.returns
unfolding pre_accepted
returns c = rw (c.pre_accept_ok-reply.ensures, c.arrive-after.ensures, c.promised.ensures)
