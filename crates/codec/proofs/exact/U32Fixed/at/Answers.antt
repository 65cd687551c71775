-- A word stands there. Assumes nothing.
use Rattle.xdr.specs.Reading.{word_read}
use Rattle.codec.proofs.exact.U32Fixed.at.Goals as goal

pub returns : goal.returns
returns c = word_read _ _ c.requires c.word_at.ensures
