-- Two outcomes that meet the contract of a public function of `drive_form` are equal. Written by tools/outcomes. Assumes nothing.
use mathlib.Core.Path.{sym, ◌∙◌}
use Rattle.outcomes.specs.Once.{Answers}
use Rattle.drive_form.proofs.Walked.at_first.Reads as drive-form·Walked·at-first-contract
use Rattle.drive_form.proofs.Walked.further.Reads as drive-form·Walked·further-contract
use Rattle.drive_form.proofs.walk.Reads as drive-form·walk-contract
use Rattle.drive_form.proofs.head_formed.Reads as drive-form·head-formed-contract
use Rattle.drive_form.proofs.set_formed.Reads as drive-form·set-formed-contract
use Rattle.drive_form.proofs.answers_formed.Reads as drive-form·answers-formed-contract
use Rattle.drive_form.proofs.formed_by.Reads as drive-form·formed-by-contract
use Rattle.drive_form.proofs.in_form.Reads as drive-form·in-form-contract
use Rattle.drive_form.proofs.formed.Reads as drive-form·formed-contract
use Rattle.drive_form.proofs.answers.has_word.Reads as drive-form·answers·has-word-contract
use Rattle.drive_form.proofs.answers.has_accepted.Reads as drive-form·answers·has-accepted-contract
use Rattle.drive_form.proofs.answers.addressed.Reads as drive-form·answers·addressed-contract
use Rattle.drive_form.proofs.answers.word_of.Reads as drive-form·answers·word-of-contract
use Rattle.drive_form.proofs.answers.accepted_formed.Reads as drive-form·answers·accepted-formed-contract
use Rattle.drive_form.proofs.counts.servers_of.Reads as drive-form·counts·servers-of-contract
use Rattle.drive_form.proofs.Counted.all_answered.Reads as drive-form·Counted·all-answered-contract
use Rattle.drive_form.proofs.Counted.two_in_each.Reads as drive-form·Counted·two-in-each-contract
use Rattle.drive_form.proofs.Counted.decided.Reads as drive-form·Counted·decided-contract

pub drive-form·Walked·at-first : Answers drive-form·Walked·at-first-contract.Post
drive-form·Walked·at-first κ a x y e e' p q = p ∙ sym q

pub drive-form·Walked·further : Answers drive-form·Walked·further-contract.Post
drive-form·Walked·further κ a x y e e' p q = p ∙ sym q

pub drive-form·walk : Answers drive-form·walk-contract.Post
drive-form·walk κ a x y e e' p q = p.0 ∙ sym q.0

pub drive-form·head-formed : Answers drive-form·head-formed-contract.Post
drive-form·head-formed κ a x y e e' p q = p ∙ sym q

pub drive-form·set-formed : Answers drive-form·set-formed-contract.Post
drive-form·set-formed κ a x y e e' p q = p ∙ sym q

pub drive-form·answers-formed : Answers drive-form·answers-formed-contract.Post
drive-form·answers-formed κ a x y e e' p q = p ∙ sym q

pub drive-form·formed-by : Answers drive-form·formed-by-contract.Post
drive-form·formed-by κ a x y e e' p q = p ∙ sym q

pub drive-form·in-form : Answers drive-form·in-form-contract.Post
drive-form·in-form κ a x y e e' p q = p.0 ∙ sym q.0

pub drive-form·formed : Answers drive-form·formed-contract.Post
drive-form·formed κ a x y e e' p q = p ∙ sym q

pub drive-form·answers·has-word : Answers drive-form·answers·has-word-contract.Post
drive-form·answers·has-word κ a x y e e' p q = p ∙ sym q

pub drive-form·answers·has-accepted : Answers drive-form·answers·has-accepted-contract.Post
drive-form·answers·has-accepted κ a x y e e' p q = p ∙ sym q

pub drive-form·answers·addressed : Answers drive-form·answers·addressed-contract.Post
drive-form·answers·addressed κ a x y e e' p q = p ∙ sym q

pub drive-form·answers·word-of : Answers drive-form·answers·word-of-contract.Post
drive-form·answers·word-of κ a x y e e' p q = p ∙ sym q

pub drive-form·answers·accepted-formed : Answers drive-form·answers·accepted-formed-contract.Post
drive-form·answers·accepted-formed κ a x y e e' p q = p ∙ sym q

pub drive-form·counts·servers-of : Answers drive-form·counts·servers-of-contract.Post
drive-form·counts·servers-of κ a x y e e' p q = p ∙ sym q

pub drive-form·Counted·all-answered : Answers drive-form·Counted·all-answered-contract.Post
drive-form·Counted·all-answered κ a x y e e' p q = p ∙ sym q

pub drive-form·Counted·two-in-each : Answers drive-form·Counted·two-in-each-contract.Post
drive-form·Counted·two-in-each κ a x y e e' p q = p ∙ sym q

pub drive-form·Counted·decided : Answers drive-form·Counted·decided-contract.Post
drive-form·Counted·decided κ a x y e e' p q = p ∙ sym q
