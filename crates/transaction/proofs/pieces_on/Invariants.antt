-- `transaction::pieces_on` meets its contract: so many of the pieces passed are on the shard, and behind those in use there are none. Assumes nothing.
use Prim.Native.Nat.{◌≤◌}
use mathlib.Core.Path.{◌≡◌}
use Rattle.masks.specs.Folds.{count_below}
use Rattle.rules.specs.Pieces.{used, on_shard}
use Rattle.transaction.proofs.pieces_on.Given as goal

abbrev pub invariant-loop-i : goal.invariant-loop-i
invariant-loop-i l = (l.n ≤ 8) × (l.n ≤ l.ps.count) × (l.n ≡ used l.ps.count) × (l.many ≤ l.i) × (l.many ≡ count_below (on_shard l.ps l.k) l.i)
