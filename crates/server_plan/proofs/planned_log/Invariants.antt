-- What the runs that are left log is what all of them log. Assumes nothing.
use Rattle.std.proofs.Common.{◌≡◌, ◌-◌}
use Rattle.server_plan.specs.Planning.{planned_log}
use Rattle.server_plan.proofs.planned_log.Given as goal

abbrev pub invariant-loop-run : goal.invariant-loop-run
invariant-loop-run l = planned_log l.rows l.committed (l.limit - l.run) l.r l.l ≡ planned_log l.rows l.committed l.limit l.initial.r l.initial.l
