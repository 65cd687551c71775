-- `server_plan::waiting_in` meets its contract: each committed set is read in its place.
use Rattle.std.proofs.Common.{◌≡◌, ◌∙◌, refl, ap, arith, add-one}
use Rattle.masks.specs.Folds.{iter}
use Rattle.server.specs.Held.{record_at}
use Rattle.server_plan.specs.declared.Waiting.{Waiting}
use Rattle.server_plan.specs.Planning.{waiting_in, waiting_turn}
use Rattle.server_plan.proofs.waiting_in.Goals as goal

pub loop-t-init : goal.loop-t-init
unfolding waiting_in iter
loop-t-init c = refl

pub loop-t-preserved : goal.loop-t-preserved
unfolding waiting_in iter
loop-t-preserved c =
    let t = c.loop-t.t in
    rw (add-one t) (c.note.ensures ∙ ap (λ (d : Waiting). waiting_turn c.args.word d t (record_at c.args.s.now t).committed) c.loop-t.invariant)

pub returns : goal.returns
returns c =
    let end : c.loop-t.t ≡ c.args.many = omega arith in
    c.loop-t.invariant ∙ ap (waiting_in c.args.s.now c.args.word) end
