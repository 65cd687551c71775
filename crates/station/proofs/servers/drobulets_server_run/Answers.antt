-- `drobulets_server_run` meets its contract.
use Rattle.std.proofs.Common.{◌∙◌}
use Rattle.station.proofs.Ends.{server-run-told, server-run-left}
use Rattle.station.proofs.servers.drobulets_server_run.Goals as goal

pub returns : goal.returns
returns c = (c.from.ensures ∙ c.runs.ensures.count ∙ server-run-told c.args.s.now, c.runs.ensures.server ∙ server-run-left c.args.s.now)
