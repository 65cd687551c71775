-- Two outcomes that meet the contract of a public function of `codec` are equal. Written by tools/outcomes. Assumes nothing.
use mathlib.Core.Path.{sym, ◌∙◌}
use mathlib.Core.List.{List}
use Prim.Native.Nat.{ℕ}
use Rattle.outcomes.specs.Once.{Answers, Leaves}
use Rattle.outcomes.proofs.Forms.{told_of-one}
use Rattle.codec.proofs.decode.Reads as codec·decode-contract
use Rattle.codec.proofs.encode.Reads as codec·encode-contract
use Rattle.codec.proofs.write.Reads as codec·write-contract

pub codec·decode : Answers codec·decode-contract.Post
codec·decode κ a x y e e' p q = p ∙ sym q

pub codec·encode : Answers codec·encode-contract.Post
codec·encode κ a x y e e' p q = p.0 ∙ sym q.0

pub codec·encode·leaves-out : Leaves {B = List ℕ} (λ κ e. e.1.0.now) codec·encode-contract.Post
codec·encode·leaves-out κ a x y e e' p q = p.1 ∙ sym q.1

pub codec·write : Answers codec·write-contract.Post
codec·write κ a x y e e' p q = told_of-one x y (p.0 ∙ sym q.0)

pub codec·write·leaves-out : Leaves {B = List ℕ} (λ κ e. e.1.0.now) codec·write-contract.Post
codec·write·leaves-out κ a x y e e' p q = p.1 ∙ sym q.1
