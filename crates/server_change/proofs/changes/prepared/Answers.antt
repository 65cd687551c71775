-- `changes::prepared` meets its contract. Assumes nothing.
use Rattle.server.specs.Changes.{prepared}
use Rattle.server_change.proofs.changes.prepared.Goals as goal

pub returns : goal.returns
unfolding prepared
returns c = rw (c.prepare_ok-reply.ensures, c.promised-after.ensures)
