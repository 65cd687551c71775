-- Two outcomes that meet the contract of a public function of `drive_lent` are equal. Written by tools/outcomes. Assumes nothing.
use mathlib.Core.Path.{sym, ◌∙◌}
use Rattle.outcomes.specs.Once.{Answers, Leaves}
use Rattle.drive.specs.declared.Drive.{Drive}
use Rattle.drive_lent.proofs.hear_lent.Reads as drive-lent·hear-lent-contract

pub drive-lent·hear-lent : Answers drive-lent·hear-lent-contract.Post
drive-lent·hear-lent κ a x y e e' p q = p.0 ∙ sym q.0

pub drive-lent·hear-lent·leaves-d : Leaves {B = Drive} (λ κ e. e.0.now) drive-lent·hear-lent-contract.Post
drive-lent·hear-lent·leaves-d κ a x y e e' p q = p.1 ∙ sym q.1
