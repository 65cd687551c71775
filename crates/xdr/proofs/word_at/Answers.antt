-- Four elements are the four bytes from the place. Assumes nothing.
use Rattle.std.proofs.Common.{refl, arith}
use Rattle.xdr.specs.Word.{word-four}
use Rattle.xdr.proofs.word_at.Goals as goal

pub returns : goal.returns
returns c =
    let w = word-four c.args.s.now c.args.at _ _ _ _ c.requires refl refl refl refl in
    omega (arith, w, c.from_be_bytes.ensures)
