-- The tail is lent, and four bytes are written at its front. Assumes nothing.
use Rattle.std.proofs.Common.{refl}
use Rattle.xdr.specs.Word.{be}
use Rattle.xdr.specs.Form.{flag}
use Rattle.xdr.specs.Over.{put-part, part_room}
use Rattle.parts.proofs.item.BoolItem.put.Goals as goal

pub put_bool-requires : goal.put_bool-requires
unfolding flag be
put_bool-requires c = part_room _ 4 c.args.out.now c.requires

pub returns : goal.returns
unfolding flag be
returns c = put-part _ _ _ _ c.put_bool.ensures refl refl
