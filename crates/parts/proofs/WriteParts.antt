-- What writers in a row show of the part that they write together. Assumes nothing.
use mathlib.Core.Path.{◌≡◌}
use mathlib.Core.List.{List, ◌++◌}
use Prim.Native.Nat.{ℕ, ◌+◌, ◌≤◌}
use native.Mathlib.Omega.{arith}
use lib.ListN.{length, length-append}
use Rattle.xdr.specs.Word.{be, be-length}
use Rattle.xdr.specs.Over.{Put, put-put}
use Rattle.xdr.specs.Form.{u32, u64, int, flag as bool, when}
use Rattle.rules.specs.declared.Piece.{Piece}
use Rattle.rules.specs.declared.Set.{Set}
use Rattle.rules.specs.declared.Value.{Value}
use Rattle.rules.specs.declared.MaybeWord.{MaybeWord}
use Rattle.rules.specs.declared.MaybeVote.{MaybeVote}
use Rattle.rules.specs.Flags.{there}
use Rattle.rules.specs.Sets.{no_set}
use Rattle.wire.specs.Parts.{piece, set4, value, maybe_word, maybe_vote}
use Rattle.wire.proofs.Lengths.{int-length, bool_length, both-put, maybe-word-length, maybe-vote-length}

module _ (at : ℕ) (z : List ℕ) where
  pub piece-put : (p : Piece) {a b c r : ℕ} {z₁ z₂ z₃ z₄ : List ℕ} → at + 16 ≤ length z
      → Put at (be 4 p.shard) z a z₁ → Put a (be 4 p.key) z₁ b z₂ → Put b (be 4 p.kind) z₂ c z₃ → Put c (int.put p.operand) z₃ r z₄
      → Put at (piece.put p) z r z₄
  unfolding piece
  piece-put p h q₁ q₂ q₃ q₄ =
      let s = be 4 p.shard in
      let k = be 4 p.key in
      let d = be 4 p.kind in
      let l₁ = be-length 4 p.shard in
      let l₂ = length-append s k in
      let l₃ = length-append (s ++ k) d in
      let l₄ = be-length 4 p.key in
      let l₅ = be-length 4 p.kind in
      let e₁ = put-put at s k z (omega arith) q₁ q₂ in
      let e₂ = put-put at (s ++ k) d z (omega arith) e₁ q₃ in
      put-put at (s ++ k ++ d) (int.put p.operand) z (omega arith) e₂ q₄

  pub set-put : (v : Set) {a b c r : ℕ} {z₁ z₂ z₃ z₄ : List ℕ} → at + 32 ≤ length z
      → Put at (be 8 v.w0) z a z₁ → Put a (be 8 v.w1) z₁ b z₂ → Put b (be 8 v.w2) z₂ c z₃ → Put c (be 8 v.w3) z₃ r z₄
      → Put at (set4.put v) z r z₄
  unfolding set4
  set-put v h q₁ q₂ q₃ q₄ =
      let l₀ = be-length 8 v.w0 in
      let l₁ = length-append (be 8 v.w0) (be 8 v.w1) in
      let l₂ = length-append (be 8 v.w0 ++ be 8 v.w1) (be 8 v.w2) in
      let l₃ = be-length 8 v.w1 in
      let l₄ = be-length 8 v.w2 in
      let e₁ = put-put at (be 8 v.w0) (be 8 v.w1) z (omega arith) q₁ q₂ in
      let e₂ = put-put at (be 8 v.w0 ++ be 8 v.w1) (be 8 v.w2) z (omega arith) e₁ q₃ in
      put-put at (be 8 v.w0 ++ be 8 v.w1 ++ be 8 v.w2) (be 8 v.w3) z (omega arith) e₂ q₄

  pub value-put : (v : Value) {a r : ℕ} {z₁ z₂ : List ℕ} → at + 8 ≤ length z
      → Put at (int.put v.value) z a z₁ → Put a (bool.put (there v.kept)) z₁ r z₂ → Put at (value.put v) z r z₂
  unfolding value
  value-put v h q₁ q₂ = put-put at (int.put v.value) (bool.put (there v.kept)) z (omega (arith, int-length v.value)) q₁ q₂

  pub maybe-word-put : (v : MaybeWord) {a r : ℕ} {z₁ z₂ : List ℕ} → at + length (maybe_word.put v) ≤ length z
      → Put at (bool.put (there v.some)) z a z₁ → Put a ((when 0 u64 (there v.some)).put v.word) z₁ r z₂ → Put at (maybe_word.put v) z r z₂
  unfolding maybe_word
  maybe-word-put v h q₁ q₂ =
      let b = there v.some in
      put-put at (bool.put b) ((when 0 u64 b).put v.word) z (omega (arith, bool_length b, maybe-word-length v)) q₁ q₂

  pub maybe-vote-put : (v : MaybeVote) {a b r : ℕ} {z₁ z₂ z₃ : List ℕ} → at + length (maybe_vote.put v) ≤ length z
      → Put at (bool.put (there v.some)) z a z₁ → Put a ((when 0 u32 (there v.some)).put v.ballot) z₁ b z₂ → Put b ((when no_set set4 (there v.some)).put v.set) z₂ r z₃
      → length z₁ ≡ length z
      → Put at (maybe_vote.put v) z r z₃
  unfolding maybe_vote
  maybe-vote-put v {a} {r = r} {z₁} {z₃ = z₃} h q₁ q₂ q₃ e =
      let b = there v.some in
      let l = maybe-vote-length v in
      let f = bool_length b in
      let n = q₁.next in
      let p : Put a ((when 0 u32 b).put v.ballot ++ (when no_set set4 b).put v.set) z₁ r z₃ = put-put a _ _ z₁ (omega arith) q₂ q₃ in
      rw (both-put b v.ballot v.set) (put-put at (bool.put b) _ z (omega arith) q₁ p)
