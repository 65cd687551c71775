-- `transaction::pieces_kept` meets its contract. Assumes nothing.
use Rattle.rules.proofs.TouchedWord.{kept-touched}
use Rattle.transaction.proofs.pieces_kept.Goals as goal

pub returns : goal.returns
returns c = rw (c.is_empty.ensures, c.touched.ensures) (kept-touched _)
