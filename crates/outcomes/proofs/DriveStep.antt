-- Two outcomes that meet the contract of a public function of `drive_step` are equal. Written by tools/outcomes. Assumes nothing.
use mathlib.Core.Path.{sym, ◌∙◌}
use Rattle.outcomes.specs.Once.{Answers, Leaves}
use Rattle.outcomes.proofs.Forms.{told-ok, told-one}
use Rattle.drive.specs.declared.Drive.{Drive}
use Rattle.drive_step.proofs.weigh.Reads as drive-step·weigh-contract
use Rattle.drive_step.proofs.hear_in_place.Reads as drive-step·hear-in-place-contract
use Rattle.drive_step.proofs.hear.Reads as drive-step·hear-contract

pub drive-step·weigh : Answers drive-step·weigh-contract.Post
drive-step·weigh κ a x y e e' p q = told-ok x y _ (p.0 ∙ sym q.0) p.1 q.1

pub drive-step·hear-in-place : Answers drive-step·hear-in-place-contract.Post
drive-step·hear-in-place κ a x y e e' p q = told-one x y (p.0 ∙ sym q.0)

pub drive-step·hear-in-place·leaves-d : Leaves {B = Drive} (λ κ e. e.0.now) drive-step·hear-in-place-contract.Post
drive-step·hear-in-place·leaves-d κ a x y e e' p q = p.1 ∙ sym q.1

pub drive-step·hear : Answers drive-step·hear-contract.Post
drive-step·hear κ a x y e e' p q = told-ok x y _ (p.0 ∙ sym q.0) p.1 q.1
