-- A message that can be written is at most 176 bytes long, and one of 176 there is. Assumes nothing.
use mathlib.Core.Path.{◌≡◌, refl, ap, ◌∙◌}
use mathlib.Core.Bool.{Bool, true, false, cond, not, ◌&&◌, ◌||◌, false≢true}
use Prim.Native.Nat.{ℕ, ◌+◌, ◌≤◌}
use native.Mathlib.Omega.{arith}
use lib.Dec.{eqb, ltb}
use lib.ListN.{length, length-append, replicate}
use borrow.Author.Tests.{ltb-false}
use Rattle.masks.proofs.Bools.{or_no_l, or_no_r, not_no}
use Rattle.xdr.specs.Word.{be, be-length}
use Rattle.xdr.specs.Form.{Form, u32, u64, int, when}
use Rattle.xdr.proofs.Windows.{cost}
use Rattle.rules.specs.declared.MaybeWord.{MaybeWord}
use Rattle.rules.specs.declared.MaybeVote.{MaybeVote}
use Rattle.rules.specs.Flags.{there}
use Rattle.rules.specs.Pieces.{no_piece, no_pieces}
use Rattle.rules.specs.Sets.{no_set}
use Rattle.rules.specs.Maybe.{no_word, no_vote}
use Rattle.rules.specs.Values.{no_values}
use Rattle.wire.specs.declared.Message.{Message}
use Rattle.wire.specs.declared.Shape.{Shape}
use Rattle.wire.specs.Codes.{has, shape_of}
use Rattle.wire.specs.Messages.{accept}
use Rattle.wire.specs.Parts.{piece, pieces, set4, prepared, values, maybe_word, maybe_vote}
use Rattle.wire.specs.Bytes.{Body, body, body_of, code, bytes, known, unwritable}
use Rattle.wire.specs.Holding.{Sized}
use Rattle.wire.proofs.Lengths.{set-length, pieces-length, values_length, maybe-word-length, maybe-vote-length}

-- what a shape's fields take at most, the code and T among them
abbrev pub most : Shape → ℕ
most h = 8 + cost h.server 4 + cost h.ballot 4 + cost h.promise 4 + cost h.ran 4 + cost h.pieces 132 + cost h.set 32 + cost h.word 8 + cost h.prepared 52 + cost h.values 68

record Small (h : Shape) : Type 0 where
  small : most h ≤ 176

either : (b : Bool) (x y : Shape) → Small x → Small y → Small (cond b x y)
either true x y p q = p
either false x y p q = q

-- each row of the table
row : (a b c n d e f g h : Bool) → most (has a b c n d e f g h) ≤ 176 → Small (has a b c n d e f g h)
row a b c n d e f g h k = record { small = k }

all_small : (k : ℕ) → Small (shape_of k)
unfolding shape_of
all_small k =
    either (eqb k 0) _ _ (row false true false false true false false false false (omega arith)) (
    either (eqb k 1) _ _ (row false true false false true true false false false (omega arith)) (
    either (eqb k 2) _ _ (row false false false false true true false false false (omega arith)) (
    either (eqb k 3) _ _ (row false true false false true false false false false (omega arith)) (
    either (eqb k 4) _ _ (row false false false false false false false false false (omega arith)) (
    either (eqb k 5) _ _ (row false false false false false false false false false (omega arith)) (
    either (eqb k 16) _ _ (row true true false false false false true false false (omega arith)) (
    either (eqb k 17) _ _ (row true true false false false false false false false (omega arith)) (
    either (eqb k 18) _ _ (row true false false true false false false false false (omega arith)) (
    either (eqb k 19) _ _ (row true true false false false false false true false (omega arith)) (
    either (eqb k 20) _ _ (row false false false false true true false false false (omega arith)) (
    either (eqb k 21) _ _ (row true true true false false false false false false (omega arith)) (
    either (eqb k 22) _ _ (row true false false false false false false false false (omega arith)) (
    either (eqb k 23) _ _ (row true false false false false false false false true (omega arith)) (
    record { small = omega arith }))))))))))))))

pub most_small : (k : ℕ) → most (shape_of k) ≤ 176
most_small k = (all_small k).small

-- the length, field by field
pub body-length : (h : Shape) (b : Body) → length ((body h).put b)
    ≡ ((((((((4 + length ((when 0 u32 h.server).put b.0.0.0.0.0.0.0.0.1)) + length ((when 0 u32 h.ballot).put b.0.0.0.0.0.0.0.1)) + length ((when 0 u32 h.promise).put b.0.0.0.0.0.0.1))
    + length ((when 0 u32 h.ran).put b.0.0.0.0.0.1))
    + length ((when no_pieces pieces h.pieces).put b.0.0.0.0.1)) + length ((when no_set set4 h.set).put b.0.0.0.1)) + length ((when 0 u64 h.word).put b.0.0.1))
    + length ((when (no_word, no_vote) prepared h.prepared).put b.0.1)) + length ((when no_values values h.values).put b.1)
unfolding body
body-length h b = simp (length-append, be-length)

pub put-length : (m : Message) → length (bytes.put m) ≡ 4 + length ((body (shape_of m.code)).put (body_of m))
unfolding bytes code
put-length m = length-append (be 4 m.code) ((body (shape_of m.code)).put (body_of m)) ∙ ap (λ (k : ℕ). k + length ((body (shape_of m.code)).put (body_of m))) (be-length 4 m.code)

when_cost : {A : Type 0} (d : A) (F : Form A) (b : Bool) (a : A) (n : ℕ) → (b ≡ true → length (F.put a) ≤ n) → length ((when d F b).put a) ≤ cost b n
when_cost d F true a n h = h refl
when_cost d F false a n h = omega arith

pub cost_le : (b : Bool) (n : ℕ) → cost b n ≤ n
cost_le true n = omega arith
cost_le false n = omega arith

prepared-most : (a : MaybeWord) (v : MaybeVote) → length (prepared.put (a, v)) ≤ 52
prepared-most a v =
    let l = length-append (maybe_word.put a) (maybe_vote.put v) in
    let c₁ = when_cost 0 u64 (there a.some) a.word 8 (λ _. omega (arith, be-length 8 a.word)) in
    let c₂ = when_cost 0 u32 (there v.some) v.ballot 4 (λ _. omega (arith, be-length 4 v.ballot)) in
    let c₃ = when_cost no_set set4 (there v.some) v.set 32 (λ _. omega (arith, set-length v.set)) in
    omega (arith, maybe-word-length a, maybe-vote-length v, cost_le (there a.some) 8, cost_le (there v.some) 4, cost_le (there v.some) 32)

-- the counts of what can be written
pub record Writable (m : Message) : Type 0 where
  pub known : known m.code ≡ true
  pub pieces : (shape_of m.code).pieces ≡ true → m.pieces.count ≤ 8
  pub values : (shape_of m.code).values ≡ true → m.values.count ≤ 8

within : (b : Bool) (n : ℕ) → (b && ltb 8 n) ≡ false → b ≡ true → n ≤ 8
within true n h e = ltb-false 8 n h
within false n h e = absurd (false≢true e)

pub writable_is : (m : Message) → unwritable m ≡ false → Writable m
unfolding unwritable
writable_is m h =
    let s = shape_of m.code in
    let p = s.pieces && ltb 8 m.pieces.count in
    let v = s.values && ltb 8 m.values.count in
    let n = not s.known in
    let c = or_no_l (n || p) v h in
    record {
      known = not_no s.known (or_no_l n p c);
      pieces = within s.pieces m.pieces.count (or_no_r n p c);
      values = within s.values m.values.count (or_no_r (n || p) v h);
    }

pub longest : (m : Message) → Sized m → Writable m → length (bytes.put m) ≤ 176
longest m z w =
    let h = shape_of m.code in
    let a₁ = when_cost 0 u32 h.server m.server 4 (λ _. omega (arith, be-length 4 m.server)) in
    let a₂ = when_cost 0 u32 h.ballot m.ballot 4 (λ _. omega (arith, be-length 4 m.ballot)) in
    let a₃ = when_cost 0 u32 h.promise m.promise 4 (λ _. omega (arith, be-length 4 m.promise)) in
    let a₄ = when_cost 0 u32 h.ran m.ran 4 (λ _. omega (arith, be-length 4 m.ran)) in
    let a₅ = when_cost no_pieces pieces h.pieces m.pieces 132 (λ e. omega (arith, w.pieces e, pieces-length m.pieces (omega (arith, w.pieces e, z.pieces)))) in
    let a₆ = when_cost no_set set4 h.set m.set 32 (λ _. omega (arith, set-length m.set)) in
    let a₇ = when_cost 0 u64 h.word m.word 8 (λ _. omega (arith, be-length 8 m.word)) in
    let a₈ = when_cost (no_word, no_vote) prepared h.prepared (m.arrival, m.accepted) 52 (λ _. prepared-most _ _) in
    let a₉ = when_cost no_values values h.values m.values 68 (λ e. omega (arith, w.values e, values_length m.values (omega (arith, w.values e, z.values)))) in
    omega (arith, put-length m, body-length h (body_of m), most_small m.code)

-- an Accept with eight pieces
pub longest_there_is : length (bytes.put (accept 9 8 (record { list = replicate 8 no_piece; count = 8 }) no_set)) ≡ 176
unfolding bytes code body shape_of pieces piece set4 int be
longest_there_is = refl
