-- `transaction::conflicts::keys_on` meets its contract: the words hold the keys of the pieces passed, and behind those in use there are none. Assumes nothing.
use Prim.Native.Nat.{◌≤◌}
use mathlib.Core.Path.{◌≡◌}
use Rattle.rules.specs.Pieces.{used}
use Rattle.rules.proofs.OnePass.{keys_passed, written_passed}
use Rattle.transaction.proofs.conflicts.keys_on.Given as goal

abbrev pub invariant-loop-i : goal.invariant-loop-i
invariant-loop-i l = (l.n ≤ 8) × (l.n ≤ l.ps.count) × (l.n ≡ used l.ps.count) × (l.all ≡ keys_passed l.ps l.k l.i) × (l.written ≡ written_passed l.ps l.k l.i)
