-- `drobulets_server_counter` meets its contract.
use Rattle.door.specs.Readings.{counter, counter_in}
use Rattle.station.proofs.servers.drobulets_server_counter.Goals as goal

pub returns : goal.returns
unfolding counter counter_in
returns c = c.counter.ensures
