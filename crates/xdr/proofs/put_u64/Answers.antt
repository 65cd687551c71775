-- The bytes of a number, the highest first. Assumes nothing.
use Rattle.std.proofs.Common.{sym, ◌∙◌}
use Rattle.xdr.specs.Word.{be, be-length}
use Rattle.xdr.proofs.Bytes.{be-high, over-whole}
use Rattle.xdr.proofs.put_u64.Goals as goal

pub returns : goal.returns
returns c =
    let v = c.args.v in
    over-whole (be 8 v) c.args.out.now 8 (c.copy_from_slice.ensures.after ∙ c.to_be_bytes.ensures ∙ sym (be-high 8 v)) (be-length 8 v)
