-- Two outcomes that meet the contract of a public function of `server_step` are equal. Written by tools/outcomes. Assumes nothing.
use mathlib.Core.Path.{sym, ◌∙◌}
use Rattle.outcomes.specs.Once.{Answers}
use Rattle.outcomes.proofs.Forms.{told-one}
use Rattle.server_step.proofs.refusals.refuse.Reads as server-step·refusals·refuse-contract
use Rattle.server_step.proofs.refusals.commits.Reads as server-step·refusals·commits-contract
use Rattle.server_step.proofs.record.place_of.Reads as server-step·record·place-of-contract
use Rattle.server_step.proofs.record.came_earlier.Reads as server-step·record·came-earlier-contract

pub server-step·refusals·refuse : Answers server-step·refusals·refuse-contract.Post
server-step·refusals·refuse κ a x y e e' p q = told-one x y (p ∙ sym q)

pub server-step·refusals·commits : Answers server-step·refusals·commits-contract.Post
server-step·refusals·commits κ a x y e e' p q = p ∙ sym q

pub server-step·record·place-of : Answers server-step·record·place-of-contract.Post
server-step·record·place-of κ a x y e e' p q = p.0 ∙ sym q.0

pub server-step·record·came-earlier : Answers server-step·record·came-earlier-contract.Post
server-step·record·came-earlier κ a x y e e' p q = p ∙ sym q
