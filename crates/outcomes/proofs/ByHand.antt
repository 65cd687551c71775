-- Two outcomes that meet the contract of a public function are equal: those whose contract says when nothing is given, and else what. Assumes nothing.
use mathlib.Core.Path.{sym, ◌∙◌}
use mathlib.Core.Bool.{true≢false}
use native.Mathlib.Omega.{arith}
use Rattle.outcomes.specs.Once.{Answers}
use Rattle.outcomes.proofs.Forms.{option-one, result-one}
use Rattle.graph.proofs.first_ready.Reads as graph·first-ready-contract
use Rattle.graph.proofs.next_group.Reads as graph·next-group-contract
use Rattle.server_form.proofs.log.read_log.Reads as server-form·log·read-log-contract
use Rattle.server_read.proofs.form.read_form.Reads as server-read·form·read-form-contract

pub graph·first-ready : Answers graph·first-ready-contract.Post
graph·first-ready κ a x y e e' p q = option-one x y (λ t below is none. omega (arith, below, is, none)) p q

pub graph·next-group : Answers graph·next-group-contract.Post
graph·next-group κ a x y e e' p q = option-one x y (λ g some is none. some (is ∙ none)) p q

pub server-form·log·read-log : Answers server-form·log·read-log-contract.Post
server-form·log·read-log κ a x y e e' p q = option-one x y (λ w fine is broken. true≢false (sym fine ∙ broken)) p q

pub server-read·form·read-form : Answers server-read·form·read-form-contract.Post
server-read·form·read-form κ a x y e e' p q = result-one _ _ x y (λ fine broken. true≢false (sym fine ∙ broken)) p q
