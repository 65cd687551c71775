-- `server_plan::plan_runs` meets its contract. Assumes nothing.
use Rattle.server_run.specs.Limited.{allowed}
use Rattle.server_plan.specs.Planning.{planned_by}
use Rattle.server_plan.proofs.plan_runs.Goals as goal

pub returns : goal.returns
unfolding planned_by allowed
returns c = rw (c.saturating_sub.ensures, c.planned_log.ensures, c.close.ensures)
