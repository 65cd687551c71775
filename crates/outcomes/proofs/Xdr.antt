-- Two outcomes that meet the contract of a public function of `xdr` are equal. Written by tools/outcomes. Assumes nothing.
use mathlib.Core.Path.{sym, ◌∙◌}
use mathlib.Core.List.{List}
use Prim.Native.Nat.{ℕ}
use Rattle.outcomes.specs.Once.{Answers, Leaves}
use Rattle.xdr.proofs.put_u32.Reads as xdr·put-u32-contract
use Rattle.xdr.proofs.put_u64.Reads as xdr·put-u64-contract
use Rattle.xdr.proofs.put_i32.Reads as xdr·put-i32-contract
use Rattle.xdr.proofs.put_bool.Reads as xdr·put-bool-contract
use Rattle.xdr.proofs.word_at.Reads as xdr·word-at-contract
use Rattle.xdr.proofs.hyper_at.Reads as xdr·hyper-at-contract
use Rattle.xdr.proofs.get_u32.Reads as xdr·get-u32-contract
use Rattle.xdr.proofs.get_u64.Reads as xdr·get-u64-contract
use Rattle.xdr.proofs.judge.Reads as xdr·judge-contract
use Rattle.xdr.proofs.get_i32.Reads as xdr·get-i32-contract
use Rattle.xdr.proofs.get_bool.Reads as xdr·get-bool-contract
use Rattle.xdr.proofs.get_count.Reads as xdr·get-count-contract

pub xdr·put-u32 : Leaves {B = List ℕ} (λ κ e. e.0.now) xdr·put-u32-contract.Post
xdr·put-u32 κ a x y e e' p q = p ∙ sym q

pub xdr·put-u64 : Leaves {B = List ℕ} (λ κ e. e.0.now) xdr·put-u64-contract.Post
xdr·put-u64 κ a x y e e' p q = p ∙ sym q

pub xdr·put-i32 : Leaves {B = List ℕ} (λ κ e. e.0.now) xdr·put-i32-contract.Post
xdr·put-i32 κ a x y e e' p q = p ∙ sym q

pub xdr·put-bool : Leaves {B = List ℕ} (λ κ e. e.0.now) xdr·put-bool-contract.Post
xdr·put-bool κ a x y e e' p q = p ∙ sym q

pub xdr·word-at : Answers xdr·word-at-contract.Post
xdr·word-at κ a x y e e' p q = p ∙ sym q

pub xdr·hyper-at : Answers xdr·hyper-at-contract.Post
xdr·hyper-at κ a x y e e' p q = p ∙ sym q

pub xdr·get-u32 : Answers xdr·get-u32-contract.Post
xdr·get-u32 κ a x y e e' p q = λ i. record { v = (p.value ∙ sym q.value) i; next = (p.next ∙ sym q.next) i }

pub xdr·get-u64 : Answers xdr·get-u64-contract.Post
xdr·get-u64 κ a x y e e' p q = λ i. record { v = (p.value ∙ sym q.value) i; next = (p.next ∙ sym q.next) i }

pub xdr·judge : Answers xdr·judge-contract.Post
xdr·judge κ a x y e e' p q = p ∙ sym q

pub xdr·get-i32 : Answers xdr·get-i32-contract.Post
xdr·get-i32 κ a x y e e' p q = λ i. record { v = (p.value ∙ sym q.value) i; next = (p.next ∙ sym q.next) i }

pub xdr·get-bool : Answers xdr·get-bool-contract.Post
xdr·get-bool κ a x y e e' p q = λ i. record { v = (p.value ∙ sym q.value) i; next = (p.next ∙ sym q.next) i }

pub xdr·get-count : Answers xdr·get-count-contract.Post
xdr·get-count κ a x y e e' p q = λ i. record { v = (p.value ∙ sym q.value) i; next = (p.next ∙ sym q.next) i }
