-- The items so far stand at the place. Assumes nothing.
use Rattle.std.proofs.Common.{take}
use Rattle.xdr.specs.Form.{flat}
use Rattle.xdr.specs.Over.{Put}
use Rattle.parts.proofs.item.put_all.Given as goal

abbrev pub invariant-loop-item : goal.invariant-loop-item
invariant-loop-item g l = Put l.at (flat g.T.Item.form (take l.item-index l.items)) l.initial.out l.next l.out
