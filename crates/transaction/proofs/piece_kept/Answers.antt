-- `transaction::piece_kept` meets its contract. Assumes nothing.
use Rattle.rules.proofs.Signs.{zero_bits}
use Rattle.rules.proofs.KindIs.{kind-writes}
use Rattle.transaction.proofs.piece_kept.Goals as goal

pub returns : goal.returns
returns c = rw (zero_bits _ (record { sfits = c.struct_told-1.given.1.1.1.0.1 }), c.writes.ensures, c.from.ensures, kind-writes c.args.p.kind)
