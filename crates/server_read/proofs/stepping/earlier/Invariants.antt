-- The numbers below t are read.
use Rattle.std.proofs.Common.{◌≡◌}
use Rattle.server_read.specs.InPlace.{earlier_in}
use Rattle.server_read.proofs.stepping.earlier.Given as goal

abbrev pub invariant-loop-t : goal.invariant-loop-t
invariant-loop-t l = l.word ≡ earlier_in l.s l.keys l.k l.t
