-- A number and a flag read a result. Assumes nothing.
use Rattle.std.proofs.Common.{to_z-of_z, ◌∙◌}
use Rattle.std.specs.Int.{w32}
use Rattle.parts.proofs.ReadParts.{told, value_read}
use Rattle.parts.proofs.arrays.ValueItem.get.Goals as goal

pub returns : goal.returns
returns c =
    rw (to_z-of_z {w = w32} {z = c.get_i32-value.result.v} (record { sfits = c.struct_told-1.given.0.1 }))
    (value_read _ _ c.get_i32-value.ensures c.get_bool-kept.ensures (c.from.ensures ∙ told _))
