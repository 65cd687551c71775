-- `server_plan::log_group` meets its contract. Assumes nothing.
use Rattle.std.proofs.Common.{◌≡◌, sym, ap, ◌∙◌, arith}
use Rattle.masks.proofs.Turns.{over_none}
use Rattle.server_plan.specs.Planning.{noted, logged_of}
use Rattle.server_plan.proofs.PlanTurns.{logged_more, logged-full, logged-same}
use Rattle.server_plan.proofs.log_group.Goals as goal
use Rattle.server_plan.proofs.log_group.Goals.{then-has+then-l-lt64, else-has, else-has-via-then-has+else-l-lt64, else-has-via-else-has}

pub loop-u-init : goal.loop-u-init
unfolding logged_of
loop-u-init c = over_none noted _ _

pub loop-u-preserved : goal.loop-u-preserved
loop-u-preserved c =
    let l₀ = c.args.l.now in
    let g = c.args.g in
    let u = c.loop-u.u in
    let l = c.loop-u.l in
    let old = c.loop-u.invariant in
    let has = sym c.has.ensures in
    elim c.if-has.branch [
      | then-has+then-l-lt64 w ↦ w.l-is ∙ logged_more l₀ g u l old (has ∙ w.if-has.true) w.if-l-lt64.true
      | else-has w ↦
          elim w.else-has.branch [
            | else-has-via-then-has+else-l-lt64 v ↦ w.l-is ∙ logged-full l₀ g u l old (has ∙ v.if-has.true) v.if-l-lt64.false
            | else-has-via-else-has v ↦ w.l-is ∙ logged-same l₀ g u l old (has ∙ v.if-has.false)
          ]
    ]

pub returns : goal.returns
returns c = let end : c.loop-u.u ≡ 64 = omega arith in c.loop-u.invariant ∙ ap (logged_of c.args.l.now c.args.g) end
