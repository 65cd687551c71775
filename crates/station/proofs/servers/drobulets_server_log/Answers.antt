-- `drobulets_server_log` meets its contract.
use Rattle.door.specs.Readings.{log_entry, entry_in}
use Rattle.station.proofs.servers.drobulets_server_log.Goals as goal

pub returns : goal.returns
unfolding log_entry entry_in
returns c = c.log_entry.ensures
