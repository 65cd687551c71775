-- Two outcomes that meet the contract of a public function of `capture` are equal. Written by tools/outcomes. Assumes nothing.
use mathlib.Core.Path.{sym, ◌∙◌}
use mathlib.Core.List.{List}
use Prim.Native.Nat.{ℕ}
use Rattle.outcomes.specs.Once.{Answers, Leaves}
use Rattle.capture.proofs.pcap.header.Reads as capture·pcap·header-contract
use Rattle.capture.proofs.pcap.head.Reads as capture·pcap·head-contract
use Rattle.capture.proofs.text.put_decimal.Reads as capture·text·put-decimal-contract
use Rattle.capture.proofs.text.put_line.Reads as capture·text·put-line-contract

pub capture·pcap·header : Answers capture·pcap·header-contract.Post
capture·pcap·header κ a x y e e' p q = p ∙ sym q

pub capture·pcap·head : Answers capture·pcap·head-contract.Post
capture·pcap·head κ a x y e e' p q = p ∙ sym q

pub capture·text·put-decimal : Answers capture·text·put-decimal-contract.Post
capture·text·put-decimal κ a x y e e' p q = p.next ∙ sym q.next

pub capture·text·put-decimal·leaves-out : Leaves {B = List ℕ} (λ κ e. e.0.now) capture·text·put-decimal-contract.Post
capture·text·put-decimal·leaves-out κ a x y e e' p q = p.bytes ∙ sym q.bytes

pub capture·text·put-line : Answers capture·text·put-line-contract.Post
capture·text·put-line κ a x y e e' p q = p.next ∙ sym q.next

pub capture·text·put-line·leaves-out : Leaves {B = List ℕ} (λ κ e. e.0.now) capture·text·put-line-contract.Post
capture·text·put-line·leaves-out κ a x y e e' p q = p.bytes ∙ sym q.bytes
