-- Two outcomes that meet the contract of a public function of `server_form` are equal. Written by tools/outcomes. Assumes nothing.
use mathlib.Core.Path.{sym, ◌∙◌}
use Rattle.outcomes.specs.Once.{Answers}
use Rattle.server_form.proofs.number.number_formed.Reads as server-form·number·number-formed-contract

pub server-form·number·number-formed : Answers server-form·number·number-formed-contract.Post
server-form·number·number-formed κ a x y e e' p q = p ∙ sym q
