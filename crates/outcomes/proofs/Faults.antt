-- Two outcomes that meet the contract of a public function of `faults` are equal. Written by tools/outcomes. Assumes nothing.
use mathlib.Core.Path.{sym, ◌∙◌}
use Rattle.outcomes.specs.Once.{Answers}
use Rattle.faults.proofs.over_count.Reads as faults·over-count-contract
use Rattle.faults.proofs.bad_numbers.Reads as faults·bad-numbers-contract
use Rattle.faults.proofs.bad_pieces.Reads as faults·bad-pieces-contract
use Rattle.faults.proofs.bad_sets.Reads as faults·bad-sets-contract

pub faults·over-count : Answers faults·over-count-contract.Post
faults·over-count κ a x y e e' p q = p ∙ sym q

pub faults·bad-numbers : Answers faults·bad-numbers-contract.Post
faults·bad-numbers κ a x y e e' p q = p ∙ sym q

pub faults·bad-pieces : Answers faults·bad-pieces-contract.Post
faults·bad-pieces κ a x y e e' p q = p ∙ sym q

pub faults·bad-sets : Answers faults·bad-sets-contract.Post
faults·bad-sets κ a x y e e' p q = p ∙ sym q
