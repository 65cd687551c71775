-- The tail is lent, and four bytes are written at its front. Assumes nothing.
use Rattle.std.proofs.Common.{refl}
use Rattle.xdr.specs.Word.{be}
use Rattle.xdr.specs.Over.{put-part, part_room}
use Rattle.parts.proofs.item.U32Item.put.Goals as goal

pub put_u32-requires : goal.put_u32-requires
unfolding be
put_u32-requires c = part_room _ 4 c.args.out.now c.requires

pub returns : goal.returns
unfolding be
returns c = put-part _ _ _ _ c.put_u32.ensures refl refl
