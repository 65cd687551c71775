-- `server_plan::plan_commit` meets its contract. Assumes nothing.
use Rattle.std.proofs.Common.{sym, ◌∙◌}
use Rattle.server_plan.specs.Planning.{planned_after}
use Rattle.server_plan.proofs.plan_commit.Goals as goal

pub returns-then-waits_alone : goal.returns-then-waits_alone
unfolding planned_after
returns-then-waits_alone c = rw (c.nothing_planned.ensures, sym c.waits_alone.ensures ∙ c.if-waits_alone.true)

pub returns : goal.returns
unfolding planned_after
returns c = rw (c.plan_runs.ensures, sym c.waits_alone.ensures ∙ c.if-waits_alone.false)
