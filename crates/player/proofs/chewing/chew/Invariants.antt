-- What is chewed of the portion so far, and what is still to be chewed, is all that is to be chewed.
use Rattle.std.proofs.Common.{length, ◌-◌}
use Rattle.player.proofs.Bites.{SoFar}
use Rattle.player.proofs.chewing.chew.Given as goal

abbrev pub invariant-loop-at : goal.invariant-loop-at
invariant-loop-at l = SoFar l.fn.p.walk l.fn.p.servers l.portion l.fn.out l.walk l.servers l.at l.made l.out

abbrev pub decreases-loop-at : goal.decreases-loop-at
decreases-loop-at l = length l.portion - l.at
