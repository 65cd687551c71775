-- `drive_step::hear_in_place` meets its contract: what the reply comes to is stored, as Outcomes says. Assumes nothing.
use Rattle.std.proofs.Common.{◌<◌, ◌∙◌, sym, arith}
use Rattle.drive.proofs.Told.{passed_on}
use Rattle.drive_step.proofs.Outcomes.{placed, hears-told, hears-refused, hears-taken}
use Rattle.drive_step.proofs.hear_in_place.Goals as goal

pub returns-in_err-turn-clause-refused : goal.returns-in_err-turn-clause-refused
returns-in_err-turn-clause-refused c = passed_on c.from_residual.result c.in_err-turn.field-0.0 c.from_residual.ensures.1 (c.in_err-turn.ensures.refused ∙ hears-told _ _)

pub returns-in_err-turn-clause-heard : goal.returns-in_err-turn-clause-heard
returns-in_err-turn-clause-heard c = hears-refused _ _ c.in_err-turn.field-0.0 c.in_err-turn.ensures.refused

pub offset_bounds-d-place : goal.offset_bounds-d-place
offset_bounds-d-place c =
    let l : c.in-Kept.place < 12 = rw (← c.in_ok-turn.ensures.taken, c.in-Kept.is) at (placed c.args.d.now c.args.m.now (sym c.in_ok-turn.ensures.refused)) in
    omega arith

pub bounds-d-place : goal.bounds-d-place
bounds-d-place c = rw (← c.in_ok-turn.ensures.taken, c.in-Kept.is) at (placed c.args.d.now c.args.m.now (sym c.in_ok-turn.ensures.refused))

pub returns-in-Turned-clause-refused : goal.returns-in-Turned-clause-refused
returns-in-Turned-clause-refused c = c.in_ok-turn.ensures.refused ∙ hears-told _ _

pub returns-in-Turned-clause-heard : goal.returns-in-Turned-clause-heard
returns-in-Turned-clause-heard c = c.begin.ensures ∙ hears-taken _ _ c.in_ok-turn.ensures.refused (sym c.in-Turned.is ∙ c.in_ok-turn.ensures.taken)

pub returns-in-Kept-clause-refused : goal.returns-in-Kept-clause-refused
returns-in-Kept-clause-refused c = c.in_ok-turn.ensures.refused ∙ hears-told _ _

pub returns-in-Kept-clause-heard : goal.returns-in-Kept-clause-heard
returns-in-Kept-clause-heard c = hears-taken _ _ c.in_ok-turn.ensures.refused (sym c.in-Kept.is ∙ c.in_ok-turn.ensures.taken)
