-- `graph::close` meets its contract: after k turns the rows are those of k passes, and `common` is part of each; within a pass the first t rows are done.
-- Assumes nothing.
use mathlib.Core.Path.{◌≡◌, refl, sym, ap, ◌∙◌}
use Prim.Native.Nat.{ℕ, ◌+◌}
use native.Mathlib.Omega.{arith}
use borrow.Author.Count.{below_none}
use lib.ListN.{get_or}
use Rattle.graph.specs.Walk.{grown, passes, rows_of}
use Rattle.graph.proofs.Places.{upto-none}
use Rattle.graph.proofs.InPlace.{shared_more, Common, common_none, next_row, row_done, made, left}
use Rattle.graph.proofs.close.Goals as goal
use Rattle.graph.proofs.close.Goals.{then-not-within+else-loop-t-test, else-not-within}

pub loop-k-init : goal.loop-k-init
unfolding passes
loop-k-init c = (refl, common_none c.args.rows.now 64)

pub loop-t-init : goal.loop-t-init
loop-t-init c = (sym (upto-none _ _), below_none _)

pub loop-t-preserved : goal.loop-t-preserved
loop-t-preserved c =
    let k = c.loop-k.k in
    let xs = c.loop-k.rows in
    let own = get_or xs k 0 in
    let t = c.loop-t.t in
    let rows = c.loop-t.rows in
    let w = c.grown-w.result in
    let inv = c.loop-t.invariant in (
      row_done k own t xs rows inv.0 w c.grown-w.ensures,
      shared_more k own xs c.loop-t.common t w c.both-common.result inv.1 (c.grown-w.ensures ∙ ap (grown k own) (next_row k own t xs rows inv.0)) c.both-common.ensures,
    )

pub loop-k-preserved : goal.loop-k-preserved
loop-k-preserved c =
    let deps = c.args.rows.now in
    let k = c.loop-k.k in
    let rows = c.loop-k.rows in
    let same = c.loop-k.invariant.0 in
    let size = c.told-rows in
    let turn : (c.if-not-within.rows ≡ passes (k + 1) deps) × Common c.if-not-within.rows c.if-not-within.common 64 =
    elim c.if-not-within.branch [
      | then-not-within+else-loop-t-test w ↦ rw (w.rows-is, w.common-is)
          (made deps k rows same size w.loop-t.t (omega arith) w.loop-t.common w.loop-t.invariant.1 w.loop-t.rows w.loop-t.invariant.0)
      | else-not-within w ↦ rw (w.rows-is, w.common-is)
          (left deps k rows same size (c.fits-rows) c.loop-k.common c.loop-k.invariant.1 (sym c.within.ensures ∙ w.if-not-within.false), c.loop-k.invariant.1)
    ] in
    turn

pub returns : goal.returns
unfolding rows_of
returns c =
    let at-end : c.loop-k.k ≡ 64 = omega arith in
    c.loop-k.invariant.0 ∙ ap (λ (n : ℕ). passes n c.args.rows.now) at-end
