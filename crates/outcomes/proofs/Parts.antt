-- Two outcomes that meet the contract of a public function of `parts` are equal. Written by tools/outcomes. Assumes nothing.
use mathlib.Core.Path.{sym, ◌∙◌}
use mathlib.Core.List.{List}
use Prim.Native.Nat.{ℕ}
use Rattle.outcomes.specs.Once.{Answers, Leaves}
use Rattle.parts.proofs.arrays.PieceItem.get.Reads as parts·arrays·PieceItem·get-contract
use Rattle.parts.proofs.arrays.PieceItem.put.Reads as parts·arrays·PieceItem·put-contract
use Rattle.parts.proofs.arrays.PiecesItem.get.Reads as parts·arrays·PiecesItem·get-contract
use Rattle.parts.proofs.arrays.PiecesItem.put.Reads as parts·arrays·PiecesItem·put-contract
use Rattle.parts.proofs.arrays.ValueItem.get.Reads as parts·arrays·ValueItem·get-contract
use Rattle.parts.proofs.arrays.ValueItem.put.Reads as parts·arrays·ValueItem·put-contract
use Rattle.parts.proofs.arrays.ValuesItem.get.Reads as parts·arrays·ValuesItem·get-contract
use Rattle.parts.proofs.arrays.ValuesItem.put.Reads as parts·arrays·ValuesItem·put-contract
use Rattle.parts.proofs.item.U32Item.get.Reads as parts·item·U32Item·get-contract
use Rattle.parts.proofs.item.U32Item.put.Reads as parts·item·U32Item·put-contract
use Rattle.parts.proofs.item.U64Item.get.Reads as parts·item·U64Item·get-contract
use Rattle.parts.proofs.item.U64Item.put.Reads as parts·item·U64Item·put-contract
use Rattle.parts.proofs.item.I32Item.get.Reads as parts·item·I32Item·get-contract
use Rattle.parts.proofs.item.I32Item.put.Reads as parts·item·I32Item·put-contract
use Rattle.parts.proofs.item.BoolItem.get.Reads as parts·item·BoolItem·get-contract
use Rattle.parts.proofs.item.BoolItem.put.Reads as parts·item·BoolItem·put-contract
use Rattle.parts.proofs.item.put_if.Reads as parts·item·put-if-contract
use Rattle.parts.proofs.item.get_if.Reads as parts·item·get-if-contract
use Rattle.parts.proofs.item.put_all.Reads as parts·item·put-all-contract
use Rattle.parts.proofs.item.get_all.Reads as parts·item·get-all-contract
use Rattle.parts.proofs.item.put_rows.Reads as parts·item·put-rows-contract
use Rattle.parts.proofs.item.get_rows.Reads as parts·item·get-rows-contract
use Rattle.parts.proofs.parts.SetItem.get.Reads as parts·parts·SetItem·get-contract
use Rattle.parts.proofs.parts.SetItem.put.Reads as parts·parts·SetItem·put-contract
use Rattle.parts.proofs.parts.MaybeWordItem.get.Reads as parts·parts·MaybeWordItem·get-contract
use Rattle.parts.proofs.parts.MaybeWordItem.put.Reads as parts·parts·MaybeWordItem·put-contract
use Rattle.parts.proofs.parts.MaybeVoteItem.get.Reads as parts·parts·MaybeVoteItem·get-contract
use Rattle.parts.proofs.parts.MaybeVoteItem.put.Reads as parts·parts·MaybeVoteItem·put-contract
use Rattle.parts.proofs.parts.Tuple2MaybeWordMaybeVoteItem.get.Reads as parts·parts·Tuple2MaybeWordMaybeVoteItem·get-contract
use Rattle.parts.proofs.parts.Tuple2MaybeWordMaybeVoteItem.put.Reads as parts·parts·Tuple2MaybeWordMaybeVoteItem·put-contract

pub parts·arrays·PieceItem·get : Answers parts·arrays·PieceItem·get-contract.Post
parts·arrays·PieceItem·get κ a x y e e' p q = λ i. record { v = (p.value ∙ sym q.value) i; next = (p.next ∙ sym q.next) i }

pub parts·arrays·PieceItem·put : Answers parts·arrays·PieceItem·put-contract.Post
parts·arrays·PieceItem·put κ a x y e e' p q = p.next ∙ sym q.next

pub parts·arrays·PieceItem·put·leaves-out : Leaves {B = List ℕ} (λ κ e. e.1.0.now) parts·arrays·PieceItem·put-contract.Post
parts·arrays·PieceItem·put·leaves-out κ a x y e e' p q = p.bytes ∙ sym q.bytes

pub parts·arrays·PiecesItem·get : Answers parts·arrays·PiecesItem·get-contract.Post
parts·arrays·PiecesItem·get κ a x y e e' p q = λ i. record { v = (p.value ∙ sym q.value) i; next = (p.next ∙ sym q.next) i }

pub parts·arrays·PiecesItem·put : Answers parts·arrays·PiecesItem·put-contract.Post
parts·arrays·PiecesItem·put κ a x y e e' p q = p.next ∙ sym q.next

pub parts·arrays·PiecesItem·put·leaves-out : Leaves {B = List ℕ} (λ κ e. e.1.0.now) parts·arrays·PiecesItem·put-contract.Post
parts·arrays·PiecesItem·put·leaves-out κ a x y e e' p q = p.bytes ∙ sym q.bytes

pub parts·arrays·ValueItem·get : Answers parts·arrays·ValueItem·get-contract.Post
parts·arrays·ValueItem·get κ a x y e e' p q = λ i. record { v = (p.value ∙ sym q.value) i; next = (p.next ∙ sym q.next) i }

pub parts·arrays·ValueItem·put : Answers parts·arrays·ValueItem·put-contract.Post
parts·arrays·ValueItem·put κ a x y e e' p q = p.next ∙ sym q.next

pub parts·arrays·ValueItem·put·leaves-out : Leaves {B = List ℕ} (λ κ e. e.1.0.now) parts·arrays·ValueItem·put-contract.Post
parts·arrays·ValueItem·put·leaves-out κ a x y e e' p q = p.bytes ∙ sym q.bytes

pub parts·arrays·ValuesItem·get : Answers parts·arrays·ValuesItem·get-contract.Post
parts·arrays·ValuesItem·get κ a x y e e' p q = λ i. record { v = (p.value ∙ sym q.value) i; next = (p.next ∙ sym q.next) i }

pub parts·arrays·ValuesItem·put : Answers parts·arrays·ValuesItem·put-contract.Post
parts·arrays·ValuesItem·put κ a x y e e' p q = p.next ∙ sym q.next

pub parts·arrays·ValuesItem·put·leaves-out : Leaves {B = List ℕ} (λ κ e. e.1.0.now) parts·arrays·ValuesItem·put-contract.Post
parts·arrays·ValuesItem·put·leaves-out κ a x y e e' p q = p.bytes ∙ sym q.bytes

pub parts·item·U32Item·get : Answers parts·item·U32Item·get-contract.Post
parts·item·U32Item·get κ a x y e e' p q = λ i. record { v = (p.value ∙ sym q.value) i; next = (p.next ∙ sym q.next) i }

pub parts·item·U32Item·put : Answers parts·item·U32Item·put-contract.Post
parts·item·U32Item·put κ a x y e e' p q = p.next ∙ sym q.next

pub parts·item·U32Item·put·leaves-out : Leaves {B = List ℕ} (λ κ e. e.1.0.now) parts·item·U32Item·put-contract.Post
parts·item·U32Item·put·leaves-out κ a x y e e' p q = p.bytes ∙ sym q.bytes

pub parts·item·U64Item·get : Answers parts·item·U64Item·get-contract.Post
parts·item·U64Item·get κ a x y e e' p q = λ i. record { v = (p.value ∙ sym q.value) i; next = (p.next ∙ sym q.next) i }

pub parts·item·U64Item·put : Answers parts·item·U64Item·put-contract.Post
parts·item·U64Item·put κ a x y e e' p q = p.next ∙ sym q.next

pub parts·item·U64Item·put·leaves-out : Leaves {B = List ℕ} (λ κ e. e.1.0.now) parts·item·U64Item·put-contract.Post
parts·item·U64Item·put·leaves-out κ a x y e e' p q = p.bytes ∙ sym q.bytes

pub parts·item·I32Item·get : Answers parts·item·I32Item·get-contract.Post
parts·item·I32Item·get κ a x y e e' p q = λ i. record { v = (p.value ∙ sym q.value) i; next = (p.next ∙ sym q.next) i }

pub parts·item·I32Item·put : Answers parts·item·I32Item·put-contract.Post
parts·item·I32Item·put κ a x y e e' p q = p.next ∙ sym q.next

pub parts·item·I32Item·put·leaves-out : Leaves {B = List ℕ} (λ κ e. e.1.0.now) parts·item·I32Item·put-contract.Post
parts·item·I32Item·put·leaves-out κ a x y e e' p q = p.bytes ∙ sym q.bytes

pub parts·item·BoolItem·get : Answers parts·item·BoolItem·get-contract.Post
parts·item·BoolItem·get κ a x y e e' p q = λ i. record { v = (p.value ∙ sym q.value) i; next = (p.next ∙ sym q.next) i }

pub parts·item·BoolItem·put : Answers parts·item·BoolItem·put-contract.Post
parts·item·BoolItem·put κ a x y e e' p q = p.next ∙ sym q.next

pub parts·item·BoolItem·put·leaves-out : Leaves {B = List ℕ} (λ κ e. e.1.0.now) parts·item·BoolItem·put-contract.Post
parts·item·BoolItem·put·leaves-out κ a x y e e' p q = p.bytes ∙ sym q.bytes

pub parts·item·put-if : (T : _) (L : _) (C : _) (G : _) (d : _) (K : _) (d' : _) (F : _) (d'' : _) → Answers (parts·item·put-if-contract.Post T L C G d K d' F d'')
parts·item·put-if T L C G d K d' F d'' κ a x y e e' p q = p.next ∙ sym q.next

pub parts·item·put-if·leaves-out : (T : _) (L : _) (C : _) (G : _) (d : _) (K : _) (d' : _) (F : _) (d'' : _) → Leaves {B = List ℕ} (λ κ e. e.0.now) (parts·item·put-if-contract.Post T L C G d K d' F d'')
parts·item·put-if·leaves-out T L C G d K d' F d'' κ a x y e e' p q = p.bytes ∙ sym q.bytes

pub parts·item·get-if : (T : _) (L : _) (C : _) (G : _) (d : _) (K : _) (d' : _) (F : _) (d'' : _) → Answers (parts·item·get-if-contract.Post T L C G d K d' F d'')
parts·item·get-if T L C G d K d' F d'' κ a x y e e' p q = λ i. record { v = (p.value ∙ sym q.value) i; next = (p.next ∙ sym q.next) i }

pub parts·item·put-all : (T : _) (L : _) (C : _) (G : _) (d : _) (K : _) (d' : _) (F : _) (d'' : _) → Answers (parts·item·put-all-contract.Post T L C G d K d' F d'')
parts·item·put-all T L C G d K d' F d'' κ a x y e e' p q = p.next ∙ sym q.next

pub parts·item·put-all·leaves-out : (T : _) (L : _) (C : _) (G : _) (d : _) (K : _) (d' : _) (F : _) (d'' : _) → Leaves {B = List ℕ} (λ κ e. e.0.now) (parts·item·put-all-contract.Post T L C G d K d' F d'')
parts·item·put-all·leaves-out T L C G d K d' F d'' κ a x y e e' p q = p.bytes ∙ sym q.bytes

pub parts·item·get-all : (T : _) (L : _) (C : _) (G : _) (d : _) (K : _) (d' : _) (F : _) (d'' : _) → Answers (parts·item·get-all-contract.Post T L C G d K d' F d'')
parts·item·get-all T L C G d K d' F d'' κ a x y e e' p q = p.1 ∙ sym q.1

pub parts·item·get-all·leaves-items : (T : _) (L : _) (C : _) (G : _) (d : _) (K : _) (d' : _) (F : _) (d'' : _) → Leaves {B = List T.Denot} (λ κ e. e.1.1.0.now) (parts·item·get-all-contract.Post T L C G d K d' F d'')
parts·item·get-all·leaves-items T L C G d K d' F d'' κ a x y e e' p q = p.0 ∙ sym q.0

pub parts·item·put-rows : (T : _) (L : _) (C : _) (G : _) (d : _) (K : _) (d' : _) (F : _) (d'' : _) → Answers (parts·item·put-rows-contract.Post T L C G d K d' F d'')
parts·item·put-rows T L C G d K d' F d'' κ a x y e e' p q = p.next ∙ sym q.next

pub parts·item·put-rows·leaves-out : (T : _) (L : _) (C : _) (G : _) (d : _) (K : _) (d' : _) (F : _) (d'' : _) → Leaves {B = List ℕ} (λ κ e. e.0.now) (parts·item·put-rows-contract.Post T L C G d K d' F d'')
parts·item·put-rows·leaves-out T L C G d K d' F d'' κ a x y e e' p q = p.bytes ∙ sym q.bytes

pub parts·item·get-rows : (T : _) (L : _) (C : _) (G : _) (d : _) (K : _) (d' : _) (F : _) (d'' : _) → Answers (parts·item·get-rows-contract.Post T L C G d K d' F d'')
parts·item·get-rows T L C G d K d' F d'' κ a x y e e' p q = λ i. record { v = ((p.value ∙ sym q.value) i).0; next = (p.next ∙ sym q.next) i }

pub parts·item·get-rows·leaves-list : (T : _) (L : _) (C : _) (G : _) (d : _) (K : _) (d' : _) (F : _) (d'' : _) → Leaves {B = List T.Denot} (λ κ e. e.1.1.0.now) (parts·item·get-rows-contract.Post T L C G d K d' F d'')
parts·item·get-rows·leaves-list T L C G d K d' F d'' κ a x y e e' p q = λ i. ((p.value ∙ sym q.value) i).1

pub parts·parts·SetItem·get : Answers parts·parts·SetItem·get-contract.Post
parts·parts·SetItem·get κ a x y e e' p q = λ i. record { v = (p.value ∙ sym q.value) i; next = (p.next ∙ sym q.next) i }

pub parts·parts·SetItem·put : Answers parts·parts·SetItem·put-contract.Post
parts·parts·SetItem·put κ a x y e e' p q = p.next ∙ sym q.next

pub parts·parts·SetItem·put·leaves-out : Leaves {B = List ℕ} (λ κ e. e.1.0.now) parts·parts·SetItem·put-contract.Post
parts·parts·SetItem·put·leaves-out κ a x y e e' p q = p.bytes ∙ sym q.bytes

pub parts·parts·MaybeWordItem·get : Answers parts·parts·MaybeWordItem·get-contract.Post
parts·parts·MaybeWordItem·get κ a x y e e' p q = λ i. record { v = (p.value ∙ sym q.value) i; next = (p.next ∙ sym q.next) i }

pub parts·parts·MaybeWordItem·put : Answers parts·parts·MaybeWordItem·put-contract.Post
parts·parts·MaybeWordItem·put κ a x y e e' p q = p.next ∙ sym q.next

pub parts·parts·MaybeWordItem·put·leaves-out : Leaves {B = List ℕ} (λ κ e. e.1.0.now) parts·parts·MaybeWordItem·put-contract.Post
parts·parts·MaybeWordItem·put·leaves-out κ a x y e e' p q = p.bytes ∙ sym q.bytes

pub parts·parts·MaybeVoteItem·get : Answers parts·parts·MaybeVoteItem·get-contract.Post
parts·parts·MaybeVoteItem·get κ a x y e e' p q = λ i. record { v = (p.value ∙ sym q.value) i; next = (p.next ∙ sym q.next) i }

pub parts·parts·MaybeVoteItem·put : Answers parts·parts·MaybeVoteItem·put-contract.Post
parts·parts·MaybeVoteItem·put κ a x y e e' p q = p.next ∙ sym q.next

pub parts·parts·MaybeVoteItem·put·leaves-out : Leaves {B = List ℕ} (λ κ e. e.1.0.now) parts·parts·MaybeVoteItem·put-contract.Post
parts·parts·MaybeVoteItem·put·leaves-out κ a x y e e' p q = p.bytes ∙ sym q.bytes

pub parts·parts·Tuple2MaybeWordMaybeVoteItem·get : Answers parts·parts·Tuple2MaybeWordMaybeVoteItem·get-contract.Post
parts·parts·Tuple2MaybeWordMaybeVoteItem·get κ a x y e e' p q = λ i. record { v = (p.value ∙ sym q.value) i; next = (p.next ∙ sym q.next) i }

pub parts·parts·Tuple2MaybeWordMaybeVoteItem·put : Answers parts·parts·Tuple2MaybeWordMaybeVoteItem·put-contract.Post
parts·parts·Tuple2MaybeWordMaybeVoteItem·put κ a x y e e' p q = p.next ∙ sym q.next

pub parts·parts·Tuple2MaybeWordMaybeVoteItem·put·leaves-out : Leaves {B = List ℕ} (λ κ e. e.1.0.now) parts·parts·Tuple2MaybeWordMaybeVoteItem·put-contract.Post
parts·parts·Tuple2MaybeWordMaybeVoteItem·put·leaves-out κ a x y e e' p q = p.bytes ∙ sym q.bytes
