-- `drive_form::in_form` meets its contract: its parts at the drive's own fields; in form its word has the shards that it touches. Assumes nothing.
use mathlib.Core.Path.{◌≡◌, sym, ◌∙◌}
use mathlib.Core.Bool.{true, false}
use Rattle.rules.proofs.TouchedWord.{kept_word}
use Rattle.drive.specs.Form.{formed}
use Rattle.drive.proofs.FormParts.{formed_parts}
use Rattle.drive_form.specs.Parts.{walked_to}
use Rattle.drive_form.proofs.Parts.{formed-by}
use Rattle.drive_form.proofs.in_form.Goals as goal

pub returns-then-formed_by-clause-in_form : goal.returns-then-formed_by-clause-in_form
unfolding walked_to
returns-then-formed_by-clause-in_form c =
    let d = c.args.d.now in
    let kept : formed d ≡ true = sym (formed-by d) ∙ sym (rw (c.walk-walked.ensures.walked, c.touched-shards.ensures) at c.formed_by.ensures) ∙ c.if-formed_by.true in
    rw (kept, c.walk-walked.ensures.walked, c.touched-shards.ensures, kept_word d.pieces (formed_parts d kept).pieces)

pub returns-else-formed_by-clause-in_form : goal.returns-else-formed_by-clause-in_form
returns-else-formed_by-clause-in_form c =
    let d = c.args.d.now in
    let broken : formed d ≡ false = sym (formed-by d) ∙ sym (rw (c.walk-walked.ensures.walked, c.touched-shards.ensures) at c.formed_by.ensures) ∙ c.if-formed_by.false in
    rw broken
