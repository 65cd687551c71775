-- `drive_host::again` meets its contract: a drive in form has a coordinator, so that the next ballot is refused for want of one alone. Assumes nothing.
use borrow.Author.Tests.{ne_eqb}
use Rattle.drive.specs.Host.{unless, again_refusal, again}
use Rattle.drive_form.proofs.InForm.{kept}
use Rattle.drive.proofs.Told.{passed_on}
use Rattle.drive_host.proofs.NextBallots.{own_coordinator, none_left, one-left}
use Rattle.drive_host.proofs.again.Goals as goal

pub returns-in_err-ballot-clause-refused : goal.returns-in_err-ballot-clause-refused
unfolding again again_refusal unless
returns-in_err-ballot-clause-refused c =
    let d = c.args.d.now in
    let k = kept d c.in_ok-in_form.ensures.in_form in
    let x = c.in_err-ballot.field-0.0 in
    let none = none_left _ _ (own_coordinator d k.0) x (rw c.max.ensures at c.in_err-ballot.ensures) in
    passed_on c.from_residual-in_err-ballot.result x c.from_residual-in_err-ballot.ensures.1 (rw (k.0, ne_eqb _ 3 c.if-d-eq3.false, none.0) none.1)

pub returns-in_err-ballot-clause-again : goal.returns-in_err-ballot-clause-again
unfolding again again_refusal unless
returns-in_err-ballot-clause-again c =
    let d = c.args.d.now in
    let k = kept d c.in_ok-in_form.ensures.in_form in
    let none = none_left _ _ (own_coordinator d k.0) c.in_err-ballot.field-0.0 (rw c.max.ensures at c.in_err-ballot.ensures) in
    rw (k.0, ne_eqb _ 3 c.if-d-eq3.false, none.0)

pub returns-clause-refused : goal.returns-clause-refused
unfolding again again_refusal unless
returns-clause-refused c =
    let d = c.args.d.now in
    let k = kept d c.in_ok-in_form.ensures.in_form in
    let one = one-left _ _ (own_coordinator d k.0) c.in_ok-ballot.ballot.number (rw c.max.ensures at c.in_ok-ballot.ensures) in
    rw (k.0, ne_eqb _ 3 c.if-d-eq3.false, one.0)

pub returns-clause-again : goal.returns-clause-again
unfolding again again_refusal unless
returns-clause-again c =
    let d = c.args.d.now in
    let k = kept d c.in_ok-in_form.ensures.in_form in
    let one = one-left _ _ (own_coordinator d k.0) c.in_ok-ballot.ballot.number (rw c.max.ensures at c.in_ok-ballot.ensures) in
    rw (k.0, ne_eqb _ 3 c.if-d-eq3.false, one.0, c.began.ensures, one.1)
