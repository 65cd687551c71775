-- `server_read::wanting::wanted` meets its contract. Assumes nothing.
use Rattle.server.specs.Host.{wanted}
use Rattle.server_read.proofs.wanting.wanted.Goals as goal

pub returns-in-Ok : goal.returns-in-Ok
unfolding wanted
returns-in-Ok c = rw (c.in-Ok.ensures.0, c.in-Ok.ensures.1)

pub returns-in-Err : goal.returns-in-Err
unfolding wanted
returns-in-Err c = rw (c.in-Err.ensures.0, c.no_set.ensures, c.from.ensures, c.in-Err.ensures.1)
