-- `transaction::conflicts::keys_on` meets its contract: the words hold the keys of the pieces passed, and behind those in use there are none. Assumes nothing.
use mathlib.Core.Path.{◌≡◌}
use native.Mathlib.Omega.{arith}
use Rattle.rules.proofs.OnePass.{used_le, used-counted, on_counted, keys_none, written_none, keys_step, written_step, keys-used}
use Rattle.rules.specs.Pieces.{piece_at}
use Rattle.rules.proofs.KindIs.{kind-writes}
use borrow.Author.Rules.{rules}
use Rattle.transaction.proofs.conflicts.keys_on.Goals as goal

pub loop-i-init : goal.loop-i-init
loop-i-init c =
    let n = c.args.ps.count in
    let e = c.used-n.ensures in
    (rw e (used_le n), rw e (used-counted n), e, keys_none _ _, written_none _ _)

pub put_below-all-requires : goal.put_below-all-requires
put_below-all-requires c = omega arith

pub put_below-written-requires : goal.put_below-written-requires
put_below-written-requires c = omega arith

pub loop-i-preserved : goal.loop-i-preserved
loop-i-preserved c =
    let turn = c.loop-i in
    let start = c.args in
    let on = on_counted start.ps start.k turn.i (omega arith) in
    (search rules, search rules, search rules, rw (keys_step, on, ← turn.invariant.3) c.put_below-all.ensures, rw (written_step, on, ← turn.invariant.4, ← kind-writes (piece_at start.ps turn.i).kind, ← c.from.ensures, ← c.writes.ensures) c.put_below-written.ensures)

pub returns : goal.returns
returns c =
    let last = c.loop-i in
    let e : last.i ≡ c.used-n.result = omega arith in
    rw (last.invariant.3, last.invariant.4, e, last.invariant.2) (keys-used _ _)
