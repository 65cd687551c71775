-- The numbers below u that are in the word stand at the end of the log.
use Rattle.std.proofs.Common.{◌≡◌}
use Rattle.server_plan.specs.Planning.{logged_of}
use Rattle.server_plan.proofs.log_group.Given as goal

abbrev pub invariant-loop-u : goal.invariant-loop-u
invariant-loop-u l = l.l ≡ logged_of l.initial.l l.g l.u
