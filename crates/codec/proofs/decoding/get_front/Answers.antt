-- Five readers in a row read the front. Assumes nothing.
use Rattle.codec.proofs.ReadWhole.{front_read}
use Rattle.codec.proofs.decoding.get_front.Goals as goal

pub returns : goal.returns
returns c = front_read _ _ _ c.get_u32-t.ensures c.get_if-server.ensures c.get_if-ballot.ensures c.get_if-promise.ensures c.get_if-ran.ensures
