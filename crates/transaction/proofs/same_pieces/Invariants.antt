-- `transaction::same_pieces` meets its contract: the pieces passed are the same. Assumes nothing.
use mathlib.Core.Path.{◌≡◌}
use Rattle.masks.specs.Folds.{all_below}
use Rattle.rules.specs.Pieces.{same_entry}
use Rattle.transaction.proofs.same_pieces.Given as goal

abbrev pub invariant-loop-i : goal.invariant-loop-i
invariant-loop-i l = (l.same ≡ all_below (same_entry l.a l.b) l.i)
