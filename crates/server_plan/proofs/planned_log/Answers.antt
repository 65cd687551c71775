-- `server_plan::planned_log` meets its contract. Assumes nothing.
use Rattle.std.proofs.Common.{◌≡◌, ℕ, ◌-◌, ◌+◌, refl, sym, ap, ◌∙◌, arith}
use Rattle.graph.specs.Walk.{next_group}
use Rattle.server_plan.specs.Planning.{planned_log}
use Rattle.server_plan.proofs.PlanTurns.{covered_none, planned-none, planned-stop, planned-more}
use Rattle.server_plan.proofs.planned_log.Goals as goal

pub loop-run-init : goal.loop-run-init
loop-run-init c =
    let all : c.args.limit - 0 ≡ c.args.limit = omega arith in
    ap (λ (n : ℕ). planned_log c.args.rows.now c.args.committed n c.args.ran c.args.l.now) all

pub loop-run-preserved : goal.loop-run-preserved
loop-run-preserved c =
    let left : c.args.limit - (c.loop-run.run + 1) ≡ c.args.limit - c.loop-run.run - 1 = omega arith in
    rw (c.union-r.ensures, c.log_group.ensures, left)
    (sym (planned-more c.args.rows.now c.args.committed (c.args.limit - c.loop-run.run) c.loop-run.r c.in-Some.g c.loop-run.l (omega arith) c.in-Some.ensures.1 c.in-Some.ensures.0) ∙ c.loop-run.invariant)

pub returns-after-loop-run : goal.returns-after-loop-run
returns-after-loop-run c = sym (planned-none c.args.rows.now c.args.committed (c.args.limit - c.loop-run.run) c.loop-run.r c.loop-run.l (omega arith)) ∙ c.loop-run.invariant

pub returns-then-within : goal.returns-then-within
returns-then-within c =
    let rows = c.args.rows.now in
    let committed = c.args.committed in
    let r = c.loop-run.r in
    sym (planned-stop rows committed (c.args.limit - c.loop-run.run) r (next_group rows committed r) c.loop-run.l refl (covered_none rows committed r (sym c.within.ensures ∙ c.if-within.true))) ∙ c.loop-run.invariant

pub returns-in_default : goal.returns-in_default
returns-in_default c =
    let rows = c.args.rows.now in
    let committed = c.args.committed in
    let r = c.loop-run.r in
    sym (planned-stop rows committed (c.args.limit - c.loop-run.run) r (next_group rows committed r) c.loop-run.l refl c.in_default.ensures) ∙ c.loop-run.invariant
