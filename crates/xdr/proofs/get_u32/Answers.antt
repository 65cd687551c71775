-- Four bytes are read where no fault is noted and four are left. Assumes nothing.
use Rattle.std.proofs.Common.{arith}
use Rattle.xdr.specs.Read.{got32-stay, got32-short, got32-read}
use Rattle.xdr.specs.Form.{u32}
use Rattle.xdr.specs.Reading.{reads_got}
use Rattle.xdr.proofs.get_u32.Goals as goal

pub returns-then-c-ne0 : goal.returns-then-c-ne0
returns-then-c-ne0 c = reads_got u32 _ _ (got32-stay _ _ c.if-c-ne0.true)

pub returns-then-saturating_sub-lt4 : goal.returns-then-saturating_sub-lt4
returns-then-saturating_sub-lt4 c = reads_got u32 _ _ (got32-short _ _ c.if-c-ne0.false (omega arith))

pub returns : goal.returns
returns c = rw c.word_at.ensures (reads_got u32 _ _ (got32-read _ _ c.if-c-ne0.false (omega arith)))
