-- Two words stand there. Assumes nothing.
use Rattle.xdr.specs.Reading.{hyper_read}
use Rattle.codec.proofs.exact.U64Fixed.at.Goals as goal

pub returns : goal.returns
returns c = hyper_read _ _ c.requires c.hyper_at.ensures
