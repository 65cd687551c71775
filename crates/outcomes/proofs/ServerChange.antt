-- Two outcomes that meet the contract of a public function of `server_change` are equal. Written by tools/outcomes. Assumes nothing.
use mathlib.Core.Path.{sym, ◌∙◌}
use Rattle.outcomes.specs.Once.{Answers}
use Rattle.server_change.proofs.changes.change.Reads as server-change·changes·change-contract

pub server-change·changes·change : Answers server-change·changes·change-contract.Post
server-change·changes·change κ a x y e e' p q = p ∙ sym q
