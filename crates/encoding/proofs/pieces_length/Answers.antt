-- Each piece takes as many bytes. Assumes nothing.
use Rattle.std.proofs.Common.{sym, arith}
use Rattle.encoding.proofs.EncodeWhole.{pieces-bytes, pieces-most}
use Rattle.encoding.proofs.pieces_length.Goals as goal

pub returns : goal.returns
returns c =
    let p = c.args.p.now in
    (sym (pieces-bytes p), omega (arith, pieces-bytes p, pieces-most p c.requires))
