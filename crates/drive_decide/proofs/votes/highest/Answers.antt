-- `drive_decide::votes::highest` meets its contract: after s turns the best of the servers below s is known. Assumes nothing.
use mathlib.Core.Path.{◌≡◌, ap, ◌∙◌}
use native.Mathlib.Omega.{arith}
use Prim.Native.Nat.{ℕ, ◌<◌}
use borrow.Author.Rules.{rules}
use borrow.Author.Tests.{lt-ltb}
use Rattle.std.proofs.Common.{Option, Some, None, IfSome, unwrap_or}
use Rattle.drive.specs.Decide.{highest}
use Rattle.masks.specs.Folds.{iter}
use Rattle.masks.proofs.Turns.{iter-none, iter-step}
use Rattle.drive_decide.specs.Turns.{server_or_none}
use Rattle.drive_decide.proofs.votes.highest.Goals as goal

by_twelve : (best : Option ℕ) {n : ℕ} → unwrap_or best 12 ≡ n → IfSome best (λ b. b < 12) → best ≡ server_or_none n
by_twelve None e l = rw (← e)
by_twelve (Some b) e l = rw (← e, lt-ltb b 12 l)

pub loop-s-init : goal.loop-s-init
loop-s-init c = record { highest = iter-none _ _; below = search rules }

pub loop-s-preserved : goal.loop-s-preserved
loop-s-preserved c = record { highest = rw (c.better-best.ensures.higher, iter-step, c.loop-s.invariant.highest); below = c.better-best.ensures.below }

pub returns : goal.returns
unfolding highest
returns c = by_twelve _ (c.loop-s.invariant.highest ∙ ap (iter _ _) (omega arith)) c.loop-s.invariant.below
