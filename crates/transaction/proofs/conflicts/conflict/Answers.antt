-- `transaction::conflicts::conflict` meets its contract. Assumes nothing.
use Rattle.rules.proofs.ConflictIs.{conflict-keys}
use Rattle.transaction.proofs.conflicts.conflict.Goals as goal

pub returns : goal.returns
returns c = rw conflict-keys (cc)
