-- Two outcomes that meet the contract of a public function of `encoding` are equal. Written by tools/outcomes. Assumes nothing.
use mathlib.Core.Path.{sym, ◌∙◌}
use mathlib.Core.List.{List}
use Prim.Native.Nat.{ℕ}
use Rattle.outcomes.specs.Once.{Answers, Leaves}
use Rattle.outcomes.proofs.Forms.{told_of-one}
use Rattle.encoding.proofs.EncodedFromResultU32Refusal.from.Reads as encoding·EncodedFromResultU32Refusal·from-contract
use Rattle.encoding.proofs.cost.Reads as encoding·cost-contract
use Rattle.encoding.proofs.front_length.Reads as encoding·front-length-contract
use Rattle.encoding.proofs.bare.Reads as encoding·bare-contract
use Rattle.encoding.proofs.asked.Reads as encoding·asked-contract
use Rattle.encoding.proofs.answered.Reads as encoding·answered-contract
use Rattle.encoding.proofs.shapes.has_rest.Reads as encoding·shapes·has-rest-contract
use Rattle.encoding.proofs.shapes.bare.Reads as encoding·shapes·bare-contract
use Rattle.encoding.proofs.shapes.asked.Reads as encoding·shapes·asked-contract
use Rattle.encoding.proofs.shapes.answered.Reads as encoding·shapes·answered-contract
use Rattle.encoding.proofs.shapes.asked_shape.Reads as encoding·shapes·asked-shape-contract
use Rattle.encoding.proofs.shapes.answered_shape.Reads as encoding·shapes·answered-shape-contract

pub encoding·EncodedFromResultU32Refusal·from : Answers encoding·EncodedFromResultU32Refusal·from-contract.Post
encoding·EncodedFromResultU32Refusal·from κ a x y e e' p q = p ∙ sym q

pub encoding·cost : Answers encoding·cost-contract.Post
encoding·cost κ a x y e e' p q = p.0 ∙ sym q.0

pub encoding·front-length : Answers encoding·front-length-contract.Post
encoding·front-length κ a x y e e' p q = p.0 ∙ sym q.0

pub encoding·bare : Answers encoding·bare-contract.Post
encoding·bare κ a x y e e' p q = told_of-one x y (p.0 ∙ sym q.0)

pub encoding·bare·leaves-out : Leaves {B = List ℕ} (λ κ e. e.0.now) encoding·bare-contract.Post
encoding·bare·leaves-out κ a x y e e' p q = p.1 ∙ sym q.1

pub encoding·asked : Answers encoding·asked-contract.Post
encoding·asked κ a x y e e' p q = told_of-one x y (p.0 ∙ sym q.0)

pub encoding·asked·leaves-out : Leaves {B = List ℕ} (λ κ e. e.0.now) encoding·asked-contract.Post
encoding·asked·leaves-out κ a x y e e' p q = p.1 ∙ sym q.1

pub encoding·answered : Answers encoding·answered-contract.Post
encoding·answered κ a x y e e' p q = told_of-one x y (p.0 ∙ sym q.0)

pub encoding·answered·leaves-out : Leaves {B = List ℕ} (λ κ e. e.0.now) encoding·answered-contract.Post
encoding·answered·leaves-out κ a x y e e' p q = p.1 ∙ sym q.1

pub encoding·shapes·has-rest : Answers encoding·shapes·has-rest-contract.Post
encoding·shapes·has-rest κ a x y e e' p q = p ∙ sym q

pub encoding·shapes·bare : Answers encoding·shapes·bare-contract.Post
encoding·shapes·bare κ a x y e e' p q = p ∙ sym q

pub encoding·shapes·asked : Answers encoding·shapes·asked-contract.Post
encoding·shapes·asked κ a x y e e' p q = p ∙ sym q

pub encoding·shapes·answered : Answers encoding·shapes·answered-contract.Post
encoding·shapes·answered κ a x y e e' p q = p ∙ sym q

pub encoding·shapes·asked-shape : Answers encoding·shapes·asked-shape-contract.Post
encoding·shapes·asked-shape κ a x y e e' p q = p ∙ sym q

pub encoding·shapes·answered-shape : Answers encoding·shapes·answered-shape-contract.Post
encoding·shapes·answered-shape κ a x y e e' p q = p ∙ sym q
