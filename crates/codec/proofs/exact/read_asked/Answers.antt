-- The words, the pieces and the set are the message. Assumes nothing.
use Rattle.codec.proofs.ReadExact.{asked-decoded}
use Rattle.codec.proofs.exact.read_asked.Goals as goal

pub returns : goal.returns
returns c =
    let x = c.requires in
    let long = x.exact in
    let place = x.place in
    let s = c.asked_shape-h.ensures in
    let d = asked-decoded _ x c.word_at-t.ensures (rw s at c.at_if-ballot.ensures) c.list_at-list.ensures (rw s at c.at_if-set.ensures) in
    rw c.plain-message.ensures d
