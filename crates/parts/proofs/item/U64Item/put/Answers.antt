-- The tail is lent, and eight bytes are written at its front. Assumes nothing.
use Rattle.std.proofs.Common.{refl}
use Rattle.xdr.specs.Word.{be}
use Rattle.xdr.specs.Over.{put-part, part_room}
use Rattle.parts.proofs.item.U64Item.put.Goals as goal

pub put_u64-requires : goal.put_u64-requires
unfolding be
put_u64-requires c = part_room _ 8 c.args.out.now c.requires

pub returns : goal.returns
unfolding be
returns c = put-part _ _ _ _ c.put_u64.ensures refl refl
