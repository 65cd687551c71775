-- Two outcomes that meet the contract of a public function of `player` are equal. Written by tools/outcomes. Assumes nothing.
use mathlib.Core.Path.{sym, ◌∙◌}
use mathlib.Core.List.{List}
use Prim.Native.Nat.{ℕ}
use Rattle.outcomes.specs.Once.{Answers, Leaves}
use Rattle.player.proofs.chewing.first.Reads as player·chewing·first-contract
use Rattle.player.proofs.chewing.chew.Reads as player·chewing·chew-contract
use Rattle.player.proofs.chewing.finish.Reads as player·chewing·finish-contract

pub player·chewing·first : Answers player·chewing·first-contract.Post
player·chewing·first κ a x y e e' p q = p ∙ sym q

pub player·chewing·chew : Answers player·chewing·chew-contract.Post
player·chewing·chew κ a x y e e' p q = p.0 ∙ sym q.0

pub player·chewing·chew·leaves-out : Leaves {B = List ℕ} (λ κ e. e.1.1.0.now) player·chewing·chew-contract.Post
player·chewing·chew·leaves-out κ a x y e e' p q = p.1 ∙ sym q.1

pub player·chewing·finish : Answers player·chewing·finish-contract.Post
player·chewing·finish κ a x y e e' p q = p.0 ∙ sym q.0

pub player·chewing·finish·leaves-out : Leaves {B = List ℕ} (λ κ e. e.1.0.now) player·chewing·finish-contract.Post
player·chewing·finish·leaves-out κ a x y e e' p q = p.1 ∙ sym q.1
