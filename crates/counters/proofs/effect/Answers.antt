-- `counters::effect` meets its contract.
-- Assumes nothing.
use mathlib.Core.Path.{sym, ap, ◌∙◌}
use lib.IntN.{ℤ}
use Rattle.rules.proofs.KindIs.{kind-read, kind-put, kind-is_put, kind-add, kind-no_put}
use Rattle.counters.specs.Effects.{holding, gives, added, effect}
use Rattle.counters.proofs.Signed.{back}
use Rattle.counters.proofs.effect.Goals as goal

pub returns-in-Read : goal.returns-in-Read
unfolding effect
returns-in-Read c = rw (kind-read c.args.kind (sym c.from.ensures ∙ c.in-Read.is)) (c.gives.ensures ∙ ap (gives c.args.counter) c.kept_of.ensures)

pub returns-in-Put : goal.returns-in-Put
unfolding effect
returns-in-Put c =
    let e = sym c.from.ensures ∙ c.in-Put.is in
    rw (kind-put c.args.kind e, kind-is_put c.args.kind e) (c.gives-in-Put.ensures ∙ ap (λ (z : ℤ). gives (holding z) 0) (back _ c.ranges.n))

pub returns-in-Add : goal.returns-in-Add
unfolding effect
returns-in-Add c =
    let e = sym c.from.ensures ∙ c.in-Add.is in
    rw (kind-add c.args.kind e, kind-no_put c.args.kind e) (c.added.ensures ∙ ap (added c.args.counter) (back _ c.ranges.n))
