-- The array is read. Assumes nothing.
use Rattle.std.proofs.Common.{ap, ℕ, List}
use Rattle.rules.specs.declared.Piece.{Piece}
use Rattle.wire.specs.Parts.{pieces}
use Rattle.parts.proofs.arrays.PiecesItem.get.Goals as goal

pub returns : goal.returns
unfolding pieces
returns c =
    let r = c.get_rows-count.ensures in
    record { value = ap (λ (q : ℕ × List Piece). record { list = q.1; count = q.0 }) r.value; next = r.next }
