-- A number whose shape is known is a code. Assumes nothing.
use Rattle.codec.proofs.ReadWhole.{header_read}
use Rattle.codec.proofs.decoding.get_header.Goals as goal

pub returns-then-known : goal.returns-then-known
returns-then-known c = rw c.if-known.true at (header_read _ _ c.shape_of-known.result c.get_u32-a.ensures c.shape_of-known.ensures c.judge-next.ensures)

pub returns : goal.returns
returns c = rw c.if-known.false at (header_read _ _ c.shape_of-known.result c.get_u32-a.ensures c.shape_of-known.ensures c.judge-next.ensures)
