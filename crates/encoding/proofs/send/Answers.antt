-- The bytes are copied. Assumes nothing.
use Rattle.std.proofs.Common.{◌≡◌, sym, ◌++◌, length, take, drop, length-take-le}
use Rattle.xdr.specs.Over.{over}
use Rattle.encoding.proofs.send.Goals as goal

pub returns-clause-bytes : goal.returns-clause-bytes
unfolding over
returns-clause-bytes c =
    let a = c.args in
    let l : length (take a.n a.built.now) ≡ a.n = length-take-le a.n a.built.now c.requires.0 in
    λ i. c.copy_from_slice.ensures.after i ++ drop (sym l i) a.out.now
