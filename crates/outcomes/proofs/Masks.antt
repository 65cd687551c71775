-- Two outcomes that meet the contract of a public function of `masks` are equal. Written by tools/outcomes. Assumes nothing.
use mathlib.Core.Path.{sym, ◌∙◌}
use Rattle.outcomes.specs.Once.{Answers}
use Rattle.masks.proofs.has.Reads as masks·has-contract
use Rattle.masks.proofs.insert.Reads as masks·insert-contract
use Rattle.masks.proofs.put.Reads as masks·put-contract
use Rattle.masks.proofs.union.Reads as masks·union-contract
use Rattle.masks.proofs.both.Reads as masks·both-contract
use Rattle.masks.proofs.without.Reads as masks·without-contract
use Rattle.masks.proofs.within.Reads as masks·within-contract
use Rattle.masks.proofs.is_empty.Reads as masks·is-empty-contract
use Rattle.masks.proofs.size.Reads as masks·size-contract

pub masks·has : Answers masks·has-contract.Post
masks·has κ a x y e e' p q = p ∙ sym q

pub masks·insert : Answers masks·insert-contract.Post
masks·insert κ a x y e e' p q = p ∙ sym q

pub masks·put : Answers masks·put-contract.Post
masks·put κ a x y e e' p q = p ∙ sym q

pub masks·union : Answers masks·union-contract.Post
masks·union κ a x y e e' p q = p ∙ sym q

pub masks·both : Answers masks·both-contract.Post
masks·both κ a x y e e' p q = p ∙ sym q

pub masks·without : Answers masks·without-contract.Post
masks·without κ a x y e e' p q = p ∙ sym q

pub masks·within : Answers masks·within-contract.Post
masks·within κ a x y e e' p q = p ∙ sym q

pub masks·is-empty : Answers masks·is-empty-contract.Post
masks·is-empty κ a x y e e' p q = p ∙ sym q

pub masks·size : Answers masks·size-contract.Post
masks·size κ a x y e e' p q = p ∙ sym q
