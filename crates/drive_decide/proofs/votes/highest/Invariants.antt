-- `drive_decide::votes::highest` meets its contract: after s turns the best of the servers below s is known. Assumes nothing.
use Rattle.std.proofs.Common.{◌≡◌, ◌<◌, IfSome, unwrap_or}
use Rattle.masks.specs.Folds.{iter}
use Rattle.drive.specs.Decide.{better}
use Rattle.drive_decide.proofs.votes.highest.Given as goal

abbrev pub invariant-loop-s : goal.invariant-loop-s
invariant-loop-s l = record { highest : unwrap_or l.best 12 ≡ iter (better l.d) 12 l.s; below : IfSome l.best (λ b. b < 12) }
