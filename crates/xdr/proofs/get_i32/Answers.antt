-- The signed number that the four bytes say, by two's complement. Assumes nothing.
use Rattle.std.proofs.Common.{ap, ◌∙◌, to_z, to_z-of_z}
use Rattle.std.specs.Int.{w32}
use Rattle.xdr.specs.Form.{int}
use Rattle.xdr.proofs.get_i32.Goals as goal

pub returns : goal.returns
unfolding int
returns c =
    let e = c.get_u32-a.ensures in
    record {
      value = to_z-of_z {w = w32} (record { sfits = c.cast_signed.type_inv }) ∙ c.cast_signed.ensures ∙ ap (to_z w32) e.value;
      next = e.next;
    }
