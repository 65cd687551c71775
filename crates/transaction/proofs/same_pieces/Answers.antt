-- `transaction::same_pieces` meets its contract: the pieces passed are the same. Assumes nothing.
use mathlib.Core.Path.{◌≡◌}
use native.Mathlib.Omega.{arith}
use lib.Dec.{eqb}
use Rattle.masks.proofs.Bools.{not_yes, not_no}
use Rattle.masks.proofs.Turns.{all_none, all-step}
use Rattle.rules.specs.Pieces.{same_entry, same_pieces}
use Rattle.transaction.proofs.same_pieces.Goals as goal

pub returns-then-unequal : goal.returns-then-unequal
unfolding same_pieces
returns-then-unequal c = rw (not_yes (eqb c.args.a.count c.args.b.count) c.if-unequal.true-raw)

pub loop-i-init : goal.loop-i-init
loop-i-init c = all_none _

pub loop-i-preserved : goal.loop-i-preserved
unfolding same_entry
loop-i-preserved c = rw all-step (cc)

pub returns : goal.returns
unfolding same_pieces
returns c =
    let equal = not_no (eqb c.args.a.count c.args.b.count) c.if-unequal.false-raw in
    let e : c.loop-i.i ≡ 8 = omega arith in
    rw (equal, c.loop-i.invariant, e)
