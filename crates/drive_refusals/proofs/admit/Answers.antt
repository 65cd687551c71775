-- `drive_refusals::admit` meets its contract: the form is judged first, and of a drive in form what is judged is the refusal. Assumes nothing.
use mathlib.Core.Path.{ap, ◌∙◌}
use Rattle.rules.specs.Refusal.{number_of}
use Rattle.drive_form.proofs.InForm.{kept, broken}
use Rattle.drive_refusals.proofs.InOrder.{judged-refusal, form-refusal}
use Rattle.drive.proofs.Told.{passed_on}
use Rattle.drive_refusals.proofs.admit.Goals as goal

pub returns-in_err-counted-clause-refused : goal.returns-in_err-counted-clause-refused
returns-in_err-counted-clause-refused c =
    let h = broken c.args.d.now c.in_err-counted.ensures.in_form in
    passed_on c.from_residual.result c.in_err-counted.field-0.0 c.from_residual.ensures.1 (ap number_of h.1 ∙ form-refusal _ _ h.0)

pub returns-in_err-judge-clause-refused : goal.returns-in_err-judge-clause-refused
returns-in_err-judge-clause-refused c =
    let h = kept c.args.d.now c.in_ok-counted.ensures.in_form in
    passed_on c.from_residual-in_err-judge.result c.in_err-judge.field-0.0 c.from_residual-in_err-judge.ensures.1 (rw h.1 at c.in_err-judge.ensures ∙ judged-refusal c.args.d.now c.in_form.ensures.whole c.args.m.now h.0)

pub returns-clause-refused : goal.returns-clause-refused
returns-clause-refused c =
    let h = kept c.args.d.now c.in_ok-counted.ensures.in_form in
    rw h.1 at c.in_ok-judge.ensures ∙ judged-refusal c.args.d.now c.in_form.ensures.whole c.args.m.now h.0
