-- `transaction::touched` meets its contract: the word holds the shards of the pieces passed, and `kept` says whether they keep rule 2. Assumes nothing.
use mathlib.Core.Path.{◌≡◌}
use Rattle.rules.proofs.OnePass.{shards_passed}
use Rattle.rules.proofs.TouchedWord.{last_place}
use Rattle.masks.specs.Folds.{all_below}
use Prim.Native.Nat.{◌≤◌}
use Rattle.rules.specs.Pieces.{entry_kept}
use Rattle.transaction.proofs.touched.Given as goal

abbrev pub invariant-loop-i : goal.invariant-loop-i
invariant-loop-i l = (l.n ≤ 8) × (l.n ≡ l.ps.count) × (l.kept ≡ all_below (entry_kept l.ps) l.i) × (l.last ≡ last_place l.ps l.i) × (l.word ≡ shards_passed l.ps l.i)
