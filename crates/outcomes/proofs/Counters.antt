-- Two outcomes that meet the contract of a public function of `counters` are equal. Written by tools/outcomes. Assumes nothing.
use mathlib.Core.Path.{sym, ◌∙◌}
use Rattle.outcomes.specs.Once.{Answers}
use Rattle.counters.proofs.kept_of.Reads as counters·kept-of-contract
use Rattle.counters.proofs.effect.Reads as counters·effect-contract
use Rattle.counters.proofs.place_of.Reads as counters·place-of-contract
use Rattle.counters.proofs.run_at.Reads as counters·run-at-contract

pub counters·kept-of : Answers counters·kept-of-contract.Post
counters·kept-of κ a x y e e' p q = p ∙ sym q

pub counters·effect : Answers counters·effect-contract.Post
counters·effect κ a x y e e' p q = p ∙ sym q

pub counters·place-of : Answers counters·place-of-contract.Post
counters·place-of κ a x y e e' p q = p ∙ sym q

pub counters·run-at : Answers counters·run-at-contract.Post
counters·run-at κ a x y e e' p q = p ∙ sym q
