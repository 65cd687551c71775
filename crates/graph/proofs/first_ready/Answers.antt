-- `graph::first_ready` meets its contract: no number below t is ready, and t waits for none below u.
-- Assumes nothing.
use mathlib.Core.Path.{◌≡◌, sym, ap, ◌∙◌}
use native.Mathlib.Omega.{arith}
use borrow.Author.Count.{below_more}
use Rattle.masks.specs.Folds.{any_below}
use Rattle.masks.proofs.Bools.{or_no}
use Rattle.masks.proofs.Turns.{any_step}
use Rattle.masks.proofs.FoldLaws.{any_of, found_least, least_all_no}
use Rattle.graph.specs.Walk.{before, awaited, ready, first_ready}
use Rattle.graph.proofs.Waiting.{not-waiting, still-awaiting, nothing-awaited}
use Rattle.graph.proofs.InWords.{walk-starts}
use Rattle.graph.proofs.first_ready.Goals as goal

pub loop-u-init : goal.loop-u-init
loop-u-init c = (walk-starts c.args.rows.now c.args.ran c.numbers.t (omega arith) c.without.result c.without.ensures c.walk_from-start.result c.walk_from-start.ensures).1

pub loop-u-preserved : goal.loop-u-preserved
unfolding awaited before
loop-u-preserved c = any_step _ _ ∙ or_no _ _ c.loop-u.invariant (sym c.awaits.ensures ∙ c.if-awaits.false)

pub numbers-preserved-then-awaits : goal.numbers-preserved-then-awaits
unfolding awaited before
numbers-preserved-then-awaits c =
    let rows = c.args.rows.now in
    let t = c.numbers.t in
    below_more _ _ c.numbers.invariant
    (still-awaiting rows _ t c.args.ran (c.fits-rows t) (any_of (awaited rows c.args.ran t) 64 c.loop-u.u (omega arith) (sym c.awaits.ensures ∙ c.if-awaits.true)))

pub numbers-preserved : goal.numbers-preserved
numbers-preserved c =
    let t = c.numbers.t in
    below_more _ _ c.numbers.invariant (not-waiting c.args.rows.now _ t c.args.ran (c.fits-rows t) (sym c.waits.ensures ∙ c.if-waits.false))

pub returns-after-loop-u : goal.returns-after-loop-u
unfolding first_ready
returns-after-loop-u c =
    let rows = c.args.rows.now in
    let t = c.numbers.t in
    let starts = walk-starts rows c.args.ran t (omega arith) c.without.result c.without.ensures c.walk_from-start.result c.walk_from-start.ensures in
    let end : c.loop-u.u ≡ 64 = omega (arith, starts.0, c.loop-u.auto.u-end) in (
      omega arith,
      sym (found_least (ready rows c.args.committed c.args.ran) 64 t (omega arith)
          (nothing-awaited rows _ t _ (c.fits-rows t) (sym c.waits.ensures ∙ c.if-waits.true)
          (sym (ap (any_below (awaited rows c.args.ran t)) end) ∙ c.loop-u.invariant))
          c.numbers.invariant),
    )

pub returns-after-numbers : goal.returns-after-numbers
unfolding first_ready
returns-after-numbers c = least_all_no (ready c.args.rows.now c.args.committed c.args.ran) 64 (λ k h. c.numbers.invariant k (omega arith))
