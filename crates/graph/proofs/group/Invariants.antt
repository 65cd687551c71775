-- `graph::group` meets its contract: after u turns the word has those below u that t is before.
-- Assumes nothing.
use mathlib.Core.Path.{◌≡◌}
use Rattle.masks.specs.Folds.{mask_of}
use Rattle.graph.specs.Walk.{before}
use Rattle.graph.proofs.group.Given as goal

abbrev pub invariant-loop-u : goal.invariant-loop-u
invariant-loop-u l = l.after ≡ mask_of (before l.rows l.t) l.u
