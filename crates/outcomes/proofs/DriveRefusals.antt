-- Two outcomes that meet the contract of a public function of `drive_refusals` are equal. Written by tools/outcomes. Assumes nothing.
use mathlib.Core.Path.{sym, ◌∙◌}
use Rattle.outcomes.specs.Once.{Answers}
use Rattle.outcomes.proofs.Forms.{told-ok, told-one}
use Rattle.drive_refusals.proofs.judge.Reads as drive-refusals·judge-contract
use Rattle.drive_refusals.proofs.admit.Reads as drive-refusals·admit-contract

pub drive-refusals·judge : Answers drive-refusals·judge-contract.Post
drive-refusals·judge κ a x y e e' p q = told-one x y (p ∙ sym q)

pub drive-refusals·admit : Answers drive-refusals·admit-contract.Post
drive-refusals·admit κ a x y e e' p q = told-ok x y _ (p.0 ∙ sym q.0) p.1.0 q.1.0
