-- `graph::first_ready` meets its contract: no number below t is ready, and t waits for none below u.
-- Assumes nothing.
use mathlib.Core.Path.{◌≡◌}
use mathlib.Core.Bool.{false}
use Prim.Native.Nat.{ℕ, ◌<◌}
use Rattle.masks.specs.Folds.{any_below}
use Rattle.graph.specs.Walk.{awaited, ready}
use Rattle.graph.proofs.first_ready.Given as goal

abbrev pub invariant-loop-u : goal.invariant-loop-u
invariant-loop-u l = any_below (awaited l.rows l.ran l.t) l.u ≡ false

abbrev pub invariant-numbers : goal.invariant-numbers
invariant-numbers l = (k : ℕ) → k < l.t → ready l.rows l.committed l.ran k ≡ false
