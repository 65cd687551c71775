-- A signed number is written as its bits. Assumes nothing.
use Rattle.std.proofs.Common.{◌≡◌, ap, ◌∙◌, to_z-of_z, of_z}
use Rattle.std.specs.Int.{w32}
use Rattle.xdr.specs.Form.{int}
use Rattle.xdr.proofs.put_i32.Goals as goal

pub returns : goal.returns
unfolding int
returns c =
    let e : c.cast_unsigned.result ≡ of_z w32 c.args.v = c.cast_unsigned.ensures ∙ ap (of_z w32) (to_z-of_z c.ranges.v) in
    rw e at c.put_u32.ensures
