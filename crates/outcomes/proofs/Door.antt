-- Two outcomes that meet the contract of a public function of `door` are equal. Written by tools/outcomes. Assumes nothing.
use mathlib.Core.Path.{sym, ◌∙◌}
use mathlib.Core.List.{List}
use Prim.Native.Nat.{ℕ}
use Rattle.outcomes.specs.Once.{Answers, Leaves}
use Rattle.outcomes.proofs.Forms.{told-ok}
use Rattle.drive.specs.declared.Drive.{Drive}
use Rattle.door.proofs.AnswerFromResultU32Refusal.from.Reads as door·AnswerFromResultU32Refusal·from-contract
use Rattle.door.proofs.DueFromResultPostedRefusal.from.Reads as door·DueFromResultPostedRefusal·from-contract
use Rattle.door.proofs.CountedFromResultU32Refusal.from.Reads as door·CountedFromResultU32Refusal·from-contract
use Rattle.door.proofs.exchange.write.Reads as door·exchange·write-contract
use Rattle.door.proofs.exchange.take_reply.Reads as door·exchange·take-reply-contract
use Rattle.door.proofs.exchange.post.Reads as door·exchange·post-contract
use Rattle.door.proofs.Reading.none.Reads as door·Reading·none-contract
use Rattle.door.proofs.readings.counter.Reads as door·readings·counter-contract
use Rattle.door.proofs.readings.log_entry.Reads as door·readings·log-entry-contract
use Rattle.door.proofs.readings.result.Reads as door·readings·result-contract

pub door·AnswerFromResultU32Refusal·from : Answers door·AnswerFromResultU32Refusal·from-contract.Post
door·AnswerFromResultU32Refusal·from κ a x y e e' p q = p ∙ sym q

pub door·DueFromResultPostedRefusal·from : Answers door·DueFromResultPostedRefusal·from-contract.Post
door·DueFromResultPostedRefusal·from κ a x y e e' p q = p ∙ sym q

pub door·CountedFromResultU32Refusal·from : Answers door·CountedFromResultU32Refusal·from-contract.Post
door·CountedFromResultU32Refusal·from κ a x y e e' p q = p ∙ sym q

pub door·exchange·write : Answers door·exchange·write-contract.Post
door·exchange·write κ a x y e e' p q = told-ok x y _ (p.0 ∙ sym q.0) p.1.0 q.1.0

pub door·exchange·write·leaves-output : Leaves {B = List ℕ} (λ κ e. e.1.0.now) door·exchange·write-contract.Post
door·exchange·write·leaves-output κ a x y e e' p q = p.1.1.0 ∙ sym q.1.1.0

pub door·exchange·take-reply : Answers door·exchange·take-reply-contract.Post
door·exchange·take-reply κ a x y e e' p q = p.0 ∙ sym q.0

pub door·exchange·take-reply·leaves-d : Leaves {B = Drive} (λ κ e. e.0.now) door·exchange·take-reply-contract.Post
door·exchange·take-reply·leaves-d κ a x y e e' p q = p.1 ∙ sym q.1

pub door·exchange·post : Answers door·exchange·post-contract.Post
door·exchange·post κ a x y e e' p q = p.0 ∙ sym q.0

pub door·exchange·post·leaves-output : Leaves {B = List ℕ} (λ κ e. e.1.0.now) door·exchange·post-contract.Post
door·exchange·post·leaves-output κ a x y e e' p q = p.1 ∙ sym q.1

pub door·Reading·none : Answers door·Reading·none-contract.Post
door·Reading·none κ a x y e e' p q = p ∙ sym q

pub door·readings·counter : Answers door·readings·counter-contract.Post
door·readings·counter κ a x y e e' p q = p ∙ sym q

pub door·readings·log-entry : Answers door·readings·log-entry-contract.Post
door·readings·log-entry κ a x y e e' p q = p ∙ sym q

pub door·readings·result : Answers door·readings·result-contract.Post
door·readings·result κ a x y e e' p q = p ∙ sym q
