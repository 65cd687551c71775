-- One more item is read. Assumes nothing.
use Rattle.std.proofs.Common.{arith}
use Rattle.parts.proofs.Items.{got-more}
use Rattle.parts.proofs.item.get_all.Goals as goal

pub loop-item-preserved : goal.loop-item-preserved
loop-item-preserved g c =
    let l = c.loop-item in
    let e = c.get-g.ensures in
    got-more g.T.Item.form c.args.s.now c.args.c l.item-index l.items l.next c.get-g.result.v c.get-g.result.next (omega arith) l.invariant e.value e.next
