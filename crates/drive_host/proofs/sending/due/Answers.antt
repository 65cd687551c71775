-- `drive_host::sending::due` meets its contract: the word of the twelve servers fits. Assumes nothing.
use Rattle.std.proofs.Common.{◌<◌, ◌^◌, arith}
use Rattle.drive_form.proofs.Servers.{servers_lt}
use Rattle.drive_host.proofs.sending.due.Goals as goal

pub overflow_cast-result : goal.overflow_cast-result
overflow_cast-result c = let b : c.servers_of.result < 2 ^ 12 = rw c.servers_of.ensures (servers_lt _) in omega arith
