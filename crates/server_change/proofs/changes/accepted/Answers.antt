-- `changes::accepted` meets its contract. Assumes nothing.
use Rattle.server.specs.Changes.{accepted}
use Rattle.server_change.proofs.changes.accepted.Goals as goal

pub returns : goal.returns
unfolding accepted
returns c = rw (c.accept_ok-reply.ensures, c.promised-after.ensures)
