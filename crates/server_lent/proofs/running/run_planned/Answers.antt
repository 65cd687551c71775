-- `server_lent::running::run_planned` meets its contract: each number at a place of the plan runs, and its results and its flag are stored in its place; then the log is stored.
use Rattle.std.proofs.Common.{◌≡◌, ◌∙◌, refl, ap, arith, add-one, min}
use Rattle.masks.specs.Folds.{iter}
use Rattle.server.specs.declared.Server.{Server}
use Rattle.server_lent.specs.Listed.{ran_listed, few_of, ran_planned}
use Rattle.server_lent.proofs.RunInPlace.{run-listed-left-next}
use Rattle.server_lent.proofs.running.run_planned.Goals as goal

pub loop-t-init : goal.loop-t-init
unfolding ran_listed iter
loop-t-init c = refl

pub loop-t-preserved : goal.loop-t-preserved
loop-t-preserved c =
    let t = c.loop-t.t in
    rw (add-one t, c.run_pieces-v.ensures.server, c.run_pieces-v.ensures.values, c.place_of-u.ensures.value, c.spot.ensures.value, c.loop-t.invariant)
    (run-listed-left-next c.args.s.now c.args.p.now.plan c.args.p.now.log 0 t)

pub returns-clause-many : goal.returns-clause-many
unfolding few_of
returns-clause-many c = c.min-many.ensures

pub returns-clause-server : goal.returns-clause-server
unfolding ran_planned few_of
returns-clause-server c =
    let p = c.args.p.now in
    let end : c.loop-t.t ≡ min p.many 64 = omega arith in
    ap (λ (z : Server). record { id = z.id; records = z.records; counters = z.counters; log = p.log })
    (c.loop-t.invariant ∙ ap (ran_listed p.plan p.log c.args.s.now) end)
