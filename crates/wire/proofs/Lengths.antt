-- How many bytes each part of a message takes. Assumes nothing.
use mathlib.Core.Path.{◌≡◌, refl}
use mathlib.Core.Bool.{Bool, true, false}
use mathlib.Core.List.{◌++◌}
use Prim.Native.Nat.{ℕ, ◌+◌, ◌*◌, ◌≤◌}
use native.Mathlib.Omega.{arith}
use lib.IntN.{ℤ}
use lib.ListN.{length, length-append}
use Rattle.xdr.specs.Word.{be}
use Rattle.xdr.specs.Array.{flat-first}
use Rattle.xdr.specs.Form.{u32, u64, int, flag as bool, ◌then◌, when}
use Rattle.rules.specs.declared.Piece.{Piece}
use Rattle.rules.specs.declared.Pieces.{Pieces}
use Rattle.rules.specs.declared.Set.{Set}
use Rattle.rules.specs.declared.Value.{Value}
use Rattle.rules.specs.declared.Values.{Values}
use Rattle.rules.specs.declared.MaybeWord.{MaybeWord}
use Rattle.rules.specs.declared.MaybeVote.{MaybeVote}
use Rattle.rules.specs.Flags.{there}
use Rattle.rules.specs.Sets.{no_set}
use Rattle.wire.specs.Parts.{piece, pieces, set4, value, values, maybe_word, maybe_vote}

pub int-length : (z : ℤ) → length (int.put z) ≡ 4
unfolding int be
int-length z = refl

pub bool_length : (b : Bool) → length (bool.put b) ≡ 4
unfolding bool be
bool_length b = refl

pub piece-length : (p : Piece) → length (piece.put p) ≡ 16
unfolding piece int be
piece-length p = refl

pub value-length : (v : Value) → length (value.put v) ≡ 8
unfolding value int bool be
value-length v = refl

pub set-length : (v : Set) → length (set4.put v) ≡ 32
unfolding set4 be
set-length v = refl

pub pieces-length : (p : Pieces) → p.count ≤ length p.list → length (pieces.put p) ≡ 4 + p.count * 16
unfolding pieces be
pieces-length p h = omega (arith, flat-first piece 16 piece-length p.list p.count h)

pub values_length : (r : Values) → r.count ≤ length r.list → length (values.put r) ≡ 4 + r.count * 8
unfolding values be
values_length r h = omega (arith, flat-first value 8 value-length r.list r.count h)

pub maybe-word-length : (a : MaybeWord) → length (maybe_word.put a) ≡ 4 + length ((when 0 u64 (there a.some)).put a.word)
unfolding maybe_word
maybe-word-length a = simp (length-append, bool_length)

-- a ballot and a set are both there or neither is
pub both-put : (b : Bool) (t : ℕ) (v : Set) → (when (0, no_set) (u32 then set4) b).put (t, v) ≡ (when 0 u32 b).put t ++ (when no_set set4 b).put v
both-put true t v = refl
both-put false t v = refl

pub maybe-vote-length : (a : MaybeVote) → length (maybe_vote.put a) ≡ 4 + (length ((when 0 u32 (there a.some)).put a.ballot) + length ((when no_set set4 (there a.some)).put a.set))
unfolding maybe_vote
maybe-vote-length a = simp (length-append, bool_length, both-put)
