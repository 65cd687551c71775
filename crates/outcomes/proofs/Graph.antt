-- Two outcomes that meet the contract of a public function of `graph` are equal. Written by tools/outcomes. Assumes nothing.
use mathlib.Core.Path.{sym, ◌∙◌}
use mathlib.Core.List.{List}
use Prim.Native.Nat.{ℕ}
use Rattle.outcomes.specs.Once.{Answers, Leaves}
use Rattle.graph.proofs.close.Reads as graph·close-contract
use Rattle.graph.proofs.group.Reads as graph·group-contract

pub graph·close : Leaves {B = List ℕ} (λ κ e. e.0.now) graph·close-contract.Post
graph·close κ a x y e e' p q = p ∙ sym q

pub graph·group : Answers graph·group-contract.Post
graph·group κ a x y e e' p q = p ∙ sym q
