-- `transaction::pieces_on` meets its contract: so many of the pieces passed are on the shard, and behind those in use there are none. Assumes nothing.
use Prim.Native.Nat.{ℕ, ◌+◌, ◌≤◌}
use mathlib.Core.Path.{◌≡◌}
use native.Mathlib.Omega.{arith}
use mathlib.Core.Bool.{Bool, true, false, cond}
use Rattle.masks.proofs.Turns.{count_none, count-step}
use lib.Dec.{eqb}
use Rattle.rules.specs.Pieces.{piece_at}
use Rattle.rules.proofs.OnePass.{used_le, used-counted, on_counted, count-used}
use borrow.Author.Rules.{rules}
use Rattle.transaction.proofs.pieces_on.Goals as goal

at_most : (b : Bool) (m i : ℕ) → m ≤ i → cond b (m + 1) m ≤ i + 1
at_most true m i h = omega arith
at_most false m i h = omega arith

pub loop-i-init : goal.loop-i-init
loop-i-init c =
    let n = c.args.ps.count in
    let e = c.used-n.ensures in
    (rw e (used_le n), rw e (used-counted n), e, omega arith, count_none _)

pub loop-i-preserved : goal.loop-i-preserved
loop-i-preserved c =
    let turn = c.loop-i in
    let start = c.args in
    let e = c.counted-many.ensures in
    let here = eqb (piece_at start.ps turn.i).shard start.k in
    (search rules, search rules, search rules, rw e (at_most here turn.many turn.i turn.invariant.3), rw (count-step, on_counted start.ps start.k turn.i (omega arith), ← turn.invariant.4) e)

pub returns : goal.returns
returns c =
    let last = c.loop-i in
    let e : last.i ≡ c.used-n.result = omega arith in
    rw (last.invariant.4, e, last.invariant.2) (count-used _ _)
