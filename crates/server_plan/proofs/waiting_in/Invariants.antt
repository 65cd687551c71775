-- The numbers below t are read.
use Rattle.std.proofs.Common.{◌≡◌}
use Rattle.server_plan.specs.Planning.{waiting_in}
use Rattle.server_plan.proofs.waiting_in.Given as goal

abbrev pub invariant-loop-t : goal.invariant-loop-t
invariant-loop-t l = l.d ≡ waiting_in l.s l.word l.t
