-- `drobulets_server_run_all` meets its contract.
use Rattle.std.proofs.Common.{◌∙◌}
use Rattle.station.proofs.Ends.{server-run-all-told, server-run-all-left}
use Rattle.station.proofs.servers.drobulets_server_run_all.Goals as goal

pub returns : goal.returns
returns c = (c.from.ensures ∙ c.runs.ensures.count ∙ server-run-all-told c.args.s.now, c.runs.ensures.server ∙ server-run-all-left c.args.s.now)
