-- Four readers in a row read a piece. Assumes nothing.
use Rattle.std.proofs.Common.{to_z-of_z}
use Rattle.std.specs.Int.{w32}
use Rattle.wire.specs.Parts.{piece}
use Rattle.parts.proofs.arrays.PieceItem.get.Goals as goal

pub returns : goal.returns
unfolding piece
returns c =
    let y = to_z-of_z {w = w32} {z = c.get_i32-operand.result.v} (record { sfits = c.struct_told-1.given.0.1 }) in
    record { value = cc; next = cc }
