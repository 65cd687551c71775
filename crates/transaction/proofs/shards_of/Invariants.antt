-- `transaction::shards_of` meets its contract: the word holds the shards of the pieces passed. Assumes nothing.
use mathlib.Core.Path.{◌≡◌}
use Rattle.rules.proofs.OnePass.{shards_passed}
use Rattle.transaction.proofs.shards_of.Given as goal

abbrev pub invariant-loop-i : goal.invariant-loop-i
invariant-loop-i l = (l.touched ≡ shards_passed l.ps l.i)
