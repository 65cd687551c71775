-- The words are the message. Assumes nothing.
use Rattle.codec.proofs.ReadExact.{answered-decoded}
use Rattle.codec.proofs.exact.read_answered.Goals as goal

pub returns : goal.returns
returns c =
    let x = c.requires in
    let s = c.answered_shape-h.ensures in
    let long = x.exact in
    let b = rw s at c.cost-b.ensures.0 in
    let p = rw s at c.cost.ensures.0 in
    let n = rw s at c.cost-2.ensures.0 in
    let d = answered-decoded _ x c.word_at-t.ensures c.word_at-server.ensures (rw s at c.at_if-ballot.ensures) (rw (s, b) at c.at_if-promise.ensures) (rw (s, b, p) at c.at_if-ran.ensures) (rw (s, b, p, n) at c.at_if-word.ensures) in
    rw c.plain-message.ensures d
