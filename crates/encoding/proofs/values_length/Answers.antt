-- Each result takes as many bytes. Assumes nothing.
use Rattle.std.proofs.Common.{arith}
use Rattle.encoding.proofs.EncodeWhole.{values-bytes, values-most, results-bytes}
use Rattle.encoding.proofs.values_length.Goals as goal

pub returns-then-has : goal.returns-then-has
returns-then-has c =
    let v = c.args.v.now in
    let e = c.if-has.true in
    (results-bytes c.args.has v e, omega (arith, values-bytes v, values-most v (c.requires e)))
