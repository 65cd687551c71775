-- `drobulets_server_result` meets its contract: the record of the number is read in its place.
use Rattle.station.proofs.Ends.{server-result-told}
use Rattle.station.proofs.servers.drobulets_server_result.Goals as goal

pub returns : goal.returns
returns c = rw (c.result.ensures, c.place_of.ensures.value) (server-result-told c.args.s.now c.args.t c.args.place)
