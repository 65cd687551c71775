-- `drive_step::weigh` meets its contract: a reply that is taken is weighed by its code, and its server is one of the twelve. Assumes nothing.
use Rattle.std.proofs.Common.{◌≡◌, ◌<◌, ◌∙◌, sym, arith, true, false}
use borrow.Author.Tests.{ne_eqb}
use Rattle.drive.specs.Held.{with_answer}
use Rattle.drive.specs.Decide.{decided}
use Rattle.drive_refusals.proofs.InOrder.{ok_place}
use Rattle.drive_step.specs.Weighing.{weighed, weighed_answer}
use Rattle.drive_step.proofs.Counting.{answer_counts, decided-after, answered-after}
use Rattle.drive_step.proofs.weigh.Goals as goal

pub returns-then-m-eq-DONE-clause-taken : goal.returns-then-m-eq-DONE-clause-taken
unfolding weighed
returns-then-m-eq-DONE-clause-taken c = rw (c.to.ensures, c.if-m-eq-DONE.true)

pub bounds-d-place : goal.bounds-d-place
bounds-d-place c = ok_place c.args.d.now c.args.m.now (sym c.in_ok-counted.ensures.refused) (ne_eqb _ 20 c.if-m-eq-DONE.false)

pub returns-then-m-eq-BEHIND-clause-taken : goal.returns-then-m-eq-BEHIND-clause-taken
unfolding weighed
returns-then-m-eq-BEHIND-clause-taken c = rw (c.max.ensures, c.if-m-eq-BEHIND.true)

pub insert-requires : goal.insert-requires
insert-requires c =
    let lt : c.args.m.now.server < 12 = ok_place c.args.d.now c.args.m.now (sym c.in_ok-counted.ensures.refused) (ne_eqb _ 20 c.if-m-eq-DONE.false) in
    omega arith

pub returns-then-not-decided-clause-taken : goal.returns-then-not-decided-clause-taken
unfolding weighed weighed_answer
returns-then-not-decided-clause-taken c =
    let d = c.args.d.now in
    let m = c.args.m.now in
    let lt : m.server < 12 = ok_place d m (sym c.in_ok-counted.ensures.refused) (ne_eqb _ 20 c.if-m-eq-DONE.false) in
    let waits : decided (with_answer d m.server c.answer_of-answer.result) ≡ false =
    sym (decided-after d c.admit.ensures.whole m.server lt c.answer_of-answer.result (rw c.answer_of-answer.ensures (answer_counts m)))
    ∙ sym (rw (c.insert.ensures, c.in_ok-counted.ensures.counted) at c.decided.ensures) ∙ c.if-not-decided.true in
    rw (ne_eqb _ 20 c.if-m-eq-DONE.false, ne_eqb _ 21 c.if-m-eq-BEHIND.false, ← c.answer_of-answer.ensures, waits)

pub bounds-heard-place : goal.bounds-heard-place
bounds-heard-place c = ok_place c.args.d.now c.args.m.now (sym c.in_ok-counted.ensures.refused) (ne_eqb _ 20 c.if-m-eq-DONE.false)

pub decide-requires : goal.decide-requires
decide-requires c =
    let d = c.args.d.now in
    let m = c.args.m.now in
    let lt : m.server < 12 = ok_place d m (sym c.in_ok-counted.ensures.refused) (ne_eqb _ 20 c.if-m-eq-DONE.false) in
    rw (c.all_answered.ensures, c.insert.ensures, c.in_ok-counted.ensures.counted) (answered-after d c.admit.ensures.whole m.server lt c.answer_of-answer.result (rw c.answer_of-answer.ensures (answer_counts m)))

pub returns-clause-taken : goal.returns-clause-taken
unfolding weighed weighed_answer
returns-clause-taken c =
    let d = c.args.d.now in
    let m = c.args.m.now in
    let lt : m.server < 12 = ok_place d m (sym c.in_ok-counted.ensures.refused) (ne_eqb _ 20 c.if-m-eq-DONE.false) in
    let decides : decided (with_answer d m.server c.answer_of-answer.result) ≡ true =
    sym (decided-after d c.admit.ensures.whole m.server lt c.answer_of-answer.result (rw c.answer_of-answer.ensures (answer_counts m)))
    ∙ sym (rw (c.insert.ensures, c.in_ok-counted.ensures.counted) at c.decided.ensures) ∙ c.if-not-decided.false in
    rw (ne_eqb _ 20 c.if-m-eq-DONE.false, ne_eqb _ 21 c.if-m-eq-BEHIND.false, ← c.answer_of-answer.ensures, decides, c.decide.ensures)
