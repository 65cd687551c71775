-- The flag decides. Assumes nothing.
use Rattle.xdr.specs.Over.{put-none}
use Rattle.parts.proofs.item.put_if.Goals as goal

pub returns : goal.returns
returns g c = rw c.if-has.false (put-none _ _)
