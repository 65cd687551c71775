-- `counters::added` meets its contract: the sum in 64 bits is the sum, and it is in the range exactly if it fits 32.
-- Assumes nothing.
use mathlib.Core.Path.{sym, subst, ap, ap₂, ◌∙◌}
use lib.IntN.{ℤ, ◌+ℤ◌}
use mir.Syntax.{w32, w64}
use mir.Val.{SFits, of_z, to_z}
use mir.Facts.{sfits_widen}
use Rattle.std.proofs.Common.{not}
use borrow.Author.Tests.{ne_eqb, eq-eqb}
use Rattle.counters.specs.Effects.{leaves, holding, gives, added}
use Rattle.counters.proofs.Signed.{back, wide, summed, sum_fits, in_range}
use Rattle.counters.proofs.added.Goals as goal

pub returns-then-stays : goal.returns-then-stays
unfolding added
returns-then-stays c = rw (ap not (ne_eqb _ 0 c.if-stays.true)) c.gives.ensures

pub overflow_cast-sum : goal.overflow_cast-sum
overflow_cast-sum c =
    let fits : SFits w32 c.args.c.value = record { sfits = c.struct_told-1.given.0.1 } in
    subst (SFits w64) (sym (back _ fits)) (sfits_widen tt fits)

pub overflow_cast-sum-2 : goal.overflow_cast-sum-2
overflow_cast-sum-2 c =
    let fits = c.ranges.n in
    subst (SFits w64) (sym (back _ fits)) (sfits_widen tt fits)

pub overflow_add-sum : goal.overflow_add-sum
overflow_add-sum c =
    let old : SFits w32 c.args.c.value = record { sfits = c.struct_told-1.given.0.1 } in
    subst (SFits w64) (sym (ap₂ ◌+ℤ◌ (wide _ old) (wide _ c.ranges.n))) (sum_fits _ _ old c.ranges.n)

pub returns-then-sum : goal.returns-then-sum
unfolding added leaves
returns-then-sum c =
    let old : SFits w32 c.args.c.value = record { sfits = c.struct_told-1.given.0.1 } in
    let t = rw (summed _ _ old c.ranges.n) at c.if-sum.true in
    rw (ap not (eq-eqb _ 0 c.if-stays.false), t) (c.gives-then-sum.ensures ∙ ap (λ (z : ℤ). gives (record { value = z; full = 1 }) 1) (back _ old))

pub overflow_cast-holding : goal.overflow_cast-holding
unfolding leaves
overflow_cast-holding c =
    let old : SFits w32 c.args.c.value = record { sfits = c.struct_told-1.given.0.1 } in
    let e = summed _ _ old c.ranges.n in
    let t = rw e at c.if-sum.false in
    subst (SFits w32) (sym e) (in_range _ t)

pub returns : goal.returns
unfolding added leaves
returns c =
    let old : SFits w32 c.args.c.value = record { sfits = c.struct_told-1.given.0.1 } in
    let e = summed _ _ old c.ranges.n in
    let t = rw e at c.if-sum.false in
    rw (ap not (eq-eqb _ 0 c.if-stays.false), t) (c.gives-2.ensures ∙ ap (λ (z : ℤ). gives (holding z) 0) (ap (λ (z : ℤ). to_z w32 (of_z w32 z)) e ∙ back _ (in_range _ t)))
