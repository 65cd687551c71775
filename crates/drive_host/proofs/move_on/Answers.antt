-- `drive_host::move_on` meets its contract: a drive in form, whose answers are counted by a word, is turned by what it decides. Assumes nothing.
use Rattle.std.proofs.Common.{◌≡◌, ◌∙◌, sym, true, false}
use borrow.Author.Tests.{ne_eqb}
use Rattle.drive.specs.Decide.{two_in_each}
use Rattle.drive.specs.Host.{unless, move_on_refusal, move_on}
use Rattle.drive_form.proofs.InForm.{kept}
use Rattle.drive_form.proofs.Parts.{two-each, all-answered}
use Rattle.drive_decide.proofs.Turning.{turned-decide}
use Rattle.drive_host.proofs.move_on.Goals as goal

pub returns-then-not-two_in_each-clause-refused : goal.returns-then-not-two_in_each-clause-refused
unfolding move_on move_on_refusal unless
returns-then-not-two_in_each-clause-refused c =
    let d = c.args.d.now in
    let k = kept d c.in_ok-counted.ensures.in_form in
    let few : two_in_each d ≡ false = sym (two-each d) ∙ sym (rw k.1 at c.two_in_each.ensures) ∙ c.if-not-two_in_each.true in
    rw (k.0, ne_eqb _ 3 c.if-d-eq3.false, few)

pub returns-then-not-two_in_each-clause-moved : goal.returns-then-not-two_in_each-clause-moved
unfolding move_on move_on_refusal unless
returns-then-not-two_in_each-clause-moved c =
    let d = c.args.d.now in
    let k = kept d c.in_ok-counted.ensures.in_form in
    let few : two_in_each d ≡ false = sym (two-each d) ∙ sym (rw k.1 at c.two_in_each.ensures) ∙ c.if-not-two_in_each.true in
    rw (k.0, ne_eqb _ 3 c.if-d-eq3.false, few)

pub decide-requires : goal.decide-requires
decide-requires c = rw (c.all_answered.ensures, (kept c.args.d.now c.in_ok-counted.ensures.in_form).1) (all-answered c.args.d.now)

pub returns-clause-refused : goal.returns-clause-refused
unfolding move_on move_on_refusal unless
returns-clause-refused c =
    let d = c.args.d.now in
    let k = kept d c.in_ok-counted.ensures.in_form in
    let two : two_in_each d ≡ true = sym (two-each d) ∙ sym (rw k.1 at c.two_in_each.ensures) ∙ c.if-not-two_in_each.false in
    rw (k.0, ne_eqb _ 3 c.if-d-eq3.false, two)

pub returns-clause-moved : goal.returns-clause-moved
unfolding move_on move_on_refusal unless
returns-clause-moved c =
    let d = c.args.d.now in
    let k = kept d c.in_ok-counted.ensures.in_form in
    let two : two_in_each d ≡ true = sym (two-each d) ∙ sym (rw k.1 at c.two_in_each.ensures) ∙ c.if-not-two_in_each.false in
    rw (k.0, ne_eqb _ 3 c.if-d-eq3.false, two, c.begin.ensures, c.decide.ensures, turned-decide d)
