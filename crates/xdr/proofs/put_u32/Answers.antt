-- The bytes of a number, the highest first. Assumes nothing.
use Rattle.std.proofs.Common.{sym, ◌∙◌}
use Rattle.xdr.specs.Word.{be, be-length}
use Rattle.xdr.proofs.Bytes.{be-high, over-whole}
use Rattle.xdr.proofs.put_u32.Goals as goal

pub returns : goal.returns
returns c =
    let v = c.args.v in
    over-whole (be 4 v) c.args.out.now 4 (c.copy_from_slice.ensures.after ∙ c.to_be_bytes.ensures ∙ sym (be-high 4 v)) (be-length 4 v)
