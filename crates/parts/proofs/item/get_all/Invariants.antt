-- The items so far are read. Assumes nothing.
use Rattle.parts.proofs.Items.{Got}
use Rattle.parts.proofs.item.get_all.Given as goal

abbrev pub invariant-loop-item : goal.invariant-loop-item
invariant-loop-item g l = Got g.T.Item.form l.s l.fn.c l.item-index l.items l.next
