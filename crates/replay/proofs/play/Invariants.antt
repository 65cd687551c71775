-- What is played of a portion is within it.
use Rattle.std.proofs.Common.{◌-◌, ◌≤◌}
use Rattle.replay.proofs.play.Given as goal

abbrev pub invariant-loop-at : goal.invariant-loop-at
invariant-loop-at g l = l.at ≤ l.n

abbrev pub decreases-loop-at : goal.decreases-loop-at
decreases-loop-at g l = l.n - l.at
