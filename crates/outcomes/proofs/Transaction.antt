-- Two outcomes that meet the contract of a public function of `transaction` are equal. Written by tools/outcomes. Assumes nothing.
use mathlib.Core.Path.{sym, ◌∙◌}
use Rattle.outcomes.specs.Once.{Answers}
use Rattle.transaction.proofs.place.Reads as transaction·place-contract
use Rattle.transaction.proofs.piece_kept.Reads as transaction·piece-kept-contract
use Rattle.transaction.proofs.touched.Reads as transaction·touched-contract
use Rattle.transaction.proofs.pieces_kept.Reads as transaction·pieces-kept-contract
use Rattle.transaction.proofs.too_many.Reads as transaction·too-many-contract
use Rattle.transaction.proofs.any_pieces.Reads as transaction·any-pieces-contract
use Rattle.transaction.proofs.on_shard.Reads as transaction·on-shard-contract
use Rattle.transaction.proofs.touches.Reads as transaction·touches-contract
use Rattle.transaction.proofs.used.Reads as transaction·used-contract
use Rattle.transaction.proofs.pieces_on.Reads as transaction·pieces-on-contract
use Rattle.transaction.proofs.put_below.Reads as transaction·put-below-contract
use Rattle.transaction.proofs.shards_of.Reads as transaction·shards-of-contract
use Rattle.transaction.proofs.same_piece.Reads as transaction·same-piece-contract
use Rattle.transaction.proofs.same_pieces.Reads as transaction·same-pieces-contract
use Rattle.transaction.proofs.conflicts.keys_on.Reads as transaction·conflicts·keys-on-contract
use Rattle.transaction.proofs.conflicts.clashes.Reads as transaction·conflicts·clashes-contract
use Rattle.transaction.proofs.conflicts.conflict.Reads as transaction·conflicts·conflict-contract

pub transaction·place : Answers transaction·place-contract.Post
transaction·place κ a x y e e' p q = p ∙ sym q

pub transaction·piece-kept : Answers transaction·piece-kept-contract.Post
transaction·piece-kept κ a x y e e' p q = p ∙ sym q

pub transaction·touched : Answers transaction·touched-contract.Post
transaction·touched κ a x y e e' p q = p ∙ sym q

pub transaction·pieces-kept : Answers transaction·pieces-kept-contract.Post
transaction·pieces-kept κ a x y e e' p q = p ∙ sym q

pub transaction·too-many : Answers transaction·too-many-contract.Post
transaction·too-many κ a x y e e' p q = p ∙ sym q

pub transaction·any-pieces : Answers transaction·any-pieces-contract.Post
transaction·any-pieces κ a x y e e' p q = p ∙ sym q

pub transaction·on-shard : Answers transaction·on-shard-contract.Post
transaction·on-shard κ a x y e e' p q = p ∙ sym q

pub transaction·touches : Answers transaction·touches-contract.Post
transaction·touches κ a x y e e' p q = p ∙ sym q

pub transaction·used : Answers transaction·used-contract.Post
transaction·used κ a x y e e' p q = p ∙ sym q

pub transaction·pieces-on : Answers transaction·pieces-on-contract.Post
transaction·pieces-on κ a x y e e' p q = p ∙ sym q

pub transaction·put-below : Answers transaction·put-below-contract.Post
transaction·put-below κ a x y e e' p q = p ∙ sym q

pub transaction·shards-of : Answers transaction·shards-of-contract.Post
transaction·shards-of κ a x y e e' p q = p ∙ sym q

pub transaction·same-piece : Answers transaction·same-piece-contract.Post
transaction·same-piece κ a x y e e' p q = p ∙ sym q

pub transaction·same-pieces : Answers transaction·same-pieces-contract.Post
transaction·same-pieces κ a x y e e' p q = p ∙ sym q

pub transaction·conflicts·keys-on : Answers transaction·conflicts·keys-on-contract.Post
transaction·conflicts·keys-on κ a x y e e' p q = p ∙ sym q

pub transaction·conflicts·clashes : Answers transaction·conflicts·clashes-contract.Post
transaction·conflicts·clashes κ a x y e e' p q = p ∙ sym q

pub transaction·conflicts·conflict : Answers transaction·conflicts·conflict-contract.Post
transaction·conflicts·conflict κ a x y e e' p q = p ∙ sym q
