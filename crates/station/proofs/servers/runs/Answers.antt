-- `station::servers::runs` meets its contract: what is planned runs.
use Rattle.std.proofs.Common.{◌∙◌, ap, ℕ}
use Rattle.std.proofs.lemmas.Result.{err_from_is_err_and}
use Rattle.server_lent.proofs.RunsInPlace.{planned}
use Rattle.server_read.proofs.Sizes.{Told}
use Rattle.door.specs.declared.Counted.{Counted}
use Rattle.station.proofs.Ends.{plan-so, plan-fine, runs-unformed, runs-told, runs_left}
use Rattle.station.proofs.servers.runs.Goals as goal

pub returns-in_err-form-clause-count : goal.returns-in_err-form-clause-count
returns-in_err-form-clause-count c =
    let p = err_from_is_err_and c.from_residual.result c.from_residual.ensures.1 in
    rw (p.1, p.2, c.in_err-form.ensures.1, runs-unformed c.args.s.now c.args.limit c.in_err-form.ensures.0)

pub returns-in_err-form-clause-server : goal.returns-in_err-form-clause-server
returns-in_err-form-clause-server c = rw (runs-unformed c.args.s.now c.args.limit c.in_err-form.ensures.0)

pub returns-clause-count : goal.returns-clause-count
returns-clause-count c =
    let s = c.args.s.now in
    let told : Told s = c.way_told-1.given in
    let f = c.in_ok-form.form in
    let d = c.waiting_in-d in
    let plan = plan-so s c.args.limit f c.in_ok-form.ensures.0 c.in_ok-form.ensures.1 d.result d.ensures in
    rw (c.plan_runs-p.ensures, plan)
    (ap (λ (n : ℕ). let x : Counted = record { refusal = n; many = (planned s c.args.limit).many } in x) (plan-fine s c.args.limit f c.in_ok-form.ensures.0 c.in_ok-form.ensures.1 d.result d.ensures) ∙ runs-told s c.args.limit told)

pub returns-clause-server : goal.returns-clause-server
returns-clause-server c =
    let s = c.args.s.now in
    let told : Told s = c.way_told-1.given in
    let f = c.in_ok-form.form in
    let d = c.waiting_in-d in
    rw (c.run_planned.ensures.server, c.plan_runs-p.ensures, plan-so s c.args.limit f c.in_ok-form.ensures.0 c.in_ok-form.ensures.1 d.result d.ensures) (runs_left s c.args.limit told)
