-- One more item is written after the others. Assumes nothing.
use Rattle.std.proofs.Common.{arith}
use Rattle.xdr.specs.Over.{put-none}
use Rattle.parts.proofs.Items.{item-room, item-put}
use Rattle.parts.proofs.item.put_all.Goals as goal

pub loop-item-init : goal.loop-item-init
loop-item-init g c = put-none _ _

pub put-next-requires : goal.put-next-requires
put-next-requires g c =
    let l = c.loop-item in
    rw c.item-item.is (item-room g.T.Item.form c.args.items.now c.args.at c.args.out.now c.requires l.item-index c.item-item.result (omega arith) l.invariant l.auto.out)

pub loop-item-preserved : goal.loop-item-preserved
loop-item-preserved g c =
    let l = c.loop-item in
    item-put g.T.Item.form c.args.items.now c.args.at c.args.out.now c.requires l.item-index c.item-item.result (omega arith) l.invariant (rw c.item-item.is at c.put-next.ensures)
