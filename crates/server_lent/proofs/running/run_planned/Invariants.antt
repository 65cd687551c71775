-- The numbers at the first t places of the plan have run.
use Rattle.std.proofs.Common.{◌≡◌}
use Rattle.server_lent.specs.Listed.{ran_listed}
use Rattle.server_lent.proofs.running.run_planned.Given as goal

abbrev pub invariant-loop-t : goal.invariant-loop-t
invariant-loop-t l = l.s ≡ ran_listed l.p.plan l.p.log l.initial.s l.t
