-- The normal form of a message that code can hold and encode has the same bytes, and it is a value that its format is for. Assumes nothing.
use mathlib.Core.Path.{◌≡◌, refl, ap, ◌∙◌}
use mathlib.Core.Bool.{Bool, true, false, cond}
use mathlib.Core.List.{List, [], ◌∷◌, ◌++◌, map}
use Prim.Native.Nat.{ℕ, zero, suc, ◌-◌, ◌≤◌, ◌<◌, ◌^◌}
use native.Mathlib.Omega.{arith}
use lib.ListN.{length, take, replicate, length-map}
use lib.Seq.{take_at, length-take-le}
use borrow.Author.Tests.{le-leb}
use Rattle.xdr.specs.Word.{be}
use Rattle.xdr.specs.Form.{Form, u32, u64, int, flag as bool, ◌then◌, when, flat, All, rows}
use Rattle.rules.specs.declared.Piece.{Piece}
use Rattle.rules.specs.declared.Pieces.{Pieces}
use Rattle.rules.specs.declared.Set.{Set}
use Rattle.rules.specs.declared.Value.{Value}
use Rattle.rules.specs.declared.Values.{Values}
use Rattle.rules.specs.declared.MaybeWord.{MaybeWord}
use Rattle.rules.specs.declared.MaybeVote.{MaybeVote}
use Rattle.rules.specs.Flags.{there, flag}
use Rattle.rules.specs.Pieces.{no_piece, no_pieces}
use Rattle.rules.specs.Sets.{no_set}
use Rattle.rules.specs.Maybe.{no_word, some_word, no_vote, some_vote}
use Rattle.rules.specs.Values.{no_value, no_values}
use Rattle.wire.specs.declared.Message.{Message}
use Rattle.wire.specs.Codes.{shape_of}
use Rattle.wire.specs.Parts.{there_flag, piece, pieces, set4, value, values, maybe_word, maybe_vote, prepared}
use Rattle.wire.specs.Bytes.{body, code, bytes}
use Rattle.wire.specs.Holding.{Sized, Each, PieceFits, ValueFits, SetFits, Fits}
use Rattle.wire.specs.Normal.{normal_pieces, normal_value, normal_values, normal_word, normal_vote, normal}
use Rattle.wire.proofs.Longest.{Writable}

-- ---- the same bytes, section by section

when_same : {A : Type 0} (d : A) (F : Form A) (b : Bool) (a a' : A) → (b ≡ true → F.put a' ≡ F.put a) → (when d F b).put (cond b a' d) ≡ (when d F b).put a
when_same d F true a a' h = h refl
when_same d F false a a' h = refl

pieces_same : (p : Pieces) → p.count ≤ length p.list → pieces.put (normal_pieces p) ≡ pieces.put p
unfolding pieces
pieces_same p h = ap (λ (l : List Piece). be 4 p.count ++ flat piece l) (take_at (take p.count p.list) (replicate (8 - p.count) no_piece) p.count (length-take-le p.count p.list h))

value_same : (v : Value) → value.put (normal_value v) ≡ value.put v
unfolding value
value_same v = rw (there_flag (there v.kept))

flat_same : (l : List Value) → flat value (map normal_value l) ≡ flat value l
flat_same [] = refl
flat_same (v ∷ l) = λ i. value_same v i ++ flat_same l i

values_same : (r : Values) → r.count ≤ length r.list → values.put (normal_values r) ≡ values.put r
unfolding values
values_same r h =
    let n = r.count in
    let l = take n r.list in
    let e : length (map normal_value l) ≡ n = length-map l normal_value ∙ length-take-le n r.list h in
    ap (λ (x : List Value). be 4 n ++ flat value x) (take_at (map normal_value l) (replicate (8 - n) no_value) n e) ∙ ap (λ (x : List ℕ). be 4 n ++ x) (flat_same l)

word_same : (a : MaybeWord) → maybe_word.put (normal_word a) ≡ maybe_word.put a
unfolding maybe_word
word_same a = go (there a.some) a.word
  where
    go : (b : Bool) (w : ℕ) → maybe_word.put (cond b (some_word w) no_word) ≡ bool.put b ++ (when 0 u64 b).put w
    go true w = refl
    go false w = refl

vote_same : (a : MaybeVote) → maybe_vote.put (normal_vote a) ≡ maybe_vote.put a
unfolding maybe_vote
vote_same a = go (there a.some) a.ballot a.set
  where
    go : (b : Bool) (t : ℕ) (v : Set) → maybe_vote.put (cond b (some_vote t v) no_vote) ≡ bool.put b ++ (when (0, no_set) (u32 then set4) b).put (t, v)
    go true t v = refl
    go false t v = refl

-- both are there or neither is
pair : (b : Bool) {A B : Type 0} (a d : A) (c e : B) → ◌≡◌ {A = A × B} (cond b a d, cond b c e) (cond b (a, c) (d, e))
pair true a d c e = refl
pair false a d c e = refl

pub normal-bytes : (m : Message) → Sized m → Writable m → bytes.put (normal m) ≡ bytes.put m
unfolding bytes code body normal
normal-bytes m z w =
    let h = shape_of m.code in
    rw (
      when_same 0 u32 h.server m.server m.server (λ _. refl),
      when_same 0 u32 h.ballot m.ballot m.ballot (λ _. refl),
      when_same 0 u32 h.promise m.promise m.promise (λ _. refl),
      when_same 0 u32 h.ran m.ran m.ran (λ _. refl),
      when_same no_pieces pieces h.pieces m.pieces (normal_pieces m.pieces) (λ e. pieces_same m.pieces (omega (arith, w.pieces e, z.pieces))),
      when_same no_set set4 h.set m.set m.set (λ _. refl),
      when_same 0 u64 h.word m.word m.word (λ _. refl),
      pair h.prepared (normal_word m.arrival) no_word (normal_vote m.accepted) no_vote,
      when_same (no_word, no_vote) prepared h.prepared (m.arrival, m.accepted) (normal_word m.arrival, normal_vote m.accepted) (λ _ i. word_same m.arrival i ++ vote_same m.accepted i),
      when_same no_values values h.values m.values (normal_values m.values) (λ e. values_same m.values (omega (arith, w.values e, z.values))),
    )

-- ---- a value that the format is for, section by section

when_fine : {A : Type 0} (d : A) (F : Form A) (b : Bool) (a : A) → (b ≡ true → F.Ok a) → (when d F b).Ok (cond b a d)
when_fine d F true a h = h refl
when_fine d F false a h = refl

set-fine : (v : Set) → SetFits v → set4.Ok v
unfolding set4
set-fine v f = (((f.w0, f.w1), f.w2), f.w3)

pieces_all : (n : ℕ) (l : List Piece) → Each PieceFits l → All piece (take n l)
unfolding piece int
pieces_all zero l f = tt
pieces_all (suc n) [] f = tt
pieces_all (suc n) (p ∷ l) f = ((((f.0.shard, f.0.key), f.0.kind), f.0.operand), pieces_all n l f.1)

flag_small : (b : Bool) → flag b ≤ 1
flag_small true = omega arith
flag_small false = omega arith

values_all : (n : ℕ) (l : List Value) → Each ValueFits l → All value (map normal_value (take n l))
unfolding value int bool
values_all zero l f = tt
values_all (suc n) [] f = tt
values_all (suc n) (v ∷ l) f = (((f.0.value, tt), flag_small (there v.kept)), values_all n l f.1)

-- an array of which n are used
rows_fine : {A : Type 0} (d : A) (F : Form A) (n : ℕ) (xs : List A) → n ≤ 8 → length xs ≡ n → All F xs → (rows d F).Ok (n, xs ++ replicate (8 - n) d)
rows_fine d F n xs h e f =
    let t : take n (xs ++ replicate (8 - n) d) ≡ xs = take_at xs (replicate (8 - n) d) n e in
    (ap (λ (l : List _). (n, l ++ replicate (8 - n) d)) t, ((omega arith, le-leb n 8 h), rw t (e, f)))

pieces-fine : (p : Pieces) → length p.list ≡ 8 → p.count ≤ 8 → Each PieceFits p.list → pieces.Ok (normal_pieces p)
unfolding pieces
pieces-fine p l h f = rows_fine no_piece piece p.count (take p.count p.list) h (length-take-le p.count p.list (omega arith)) (pieces_all p.count p.list f)

values-fine : (r : Values) → length r.list ≡ 8 → r.count ≤ 8 → Each ValueFits r.list → values.Ok (normal_values r)
unfolding values
values-fine r l h f =
    rows_fine no_value value r.count (map normal_value (take r.count r.list)) h (length-map (take r.count r.list) normal_value ∙ length-take-le r.count r.list (omega arith)) (values_all r.count r.list f)

word-fine : (b : Bool) (w : ℕ) → w < 2 ^ 64 → maybe_word.Ok (cond b (some_word w) no_word)
unfolding maybe_word bool
word-fine true w h = ((tt, h), omega arith)
word-fine false w h = ((tt, refl), omega arith)

vote-fine : (b : Bool) (t : ℕ) (v : Set) → t < 2 ^ 32 → SetFits v → maybe_vote.Ok (cond b (some_vote t v) no_vote)
unfolding maybe_vote bool
vote-fine true t v h f = ((tt, (h, set-fine v f)), omega arith)
vote-fine false t v h f = ((tt, refl), omega arith)

pub normal-fine : (m : Message) → Fits m → Writable m → bytes.Ok (normal m)
unfolding bytes code body normal
normal-fine m f w =
    let h = shape_of m.code in
    let z = f.sized in (
      (f.code, w.known),
      (
        (
          (
            (
              (
                (
                  (
                    (
                      (f.t, when_fine 0 u32 h.server m.server (λ _. f.server)),
                      when_fine 0 u32 h.ballot m.ballot (λ _. f.ballot),
                    ),
                    when_fine 0 u32 h.promise m.promise (λ _. f.promise),
                  ),
                  when_fine 0 u32 h.ran m.ran (λ _. f.ran),
                ),
                when_fine no_pieces pieces h.pieces (normal_pieces m.pieces) (λ e. pieces-fine m.pieces z.pieces (w.pieces e) f.pieces),
              ),
              when_fine no_set set4 h.set m.set (λ _. set-fine m.set f.set),
            ),
            when_fine 0 u64 h.word m.word (λ _. f.word),
          ),
          rw (pair h.prepared (normal_word m.arrival) no_word (normal_vote m.accepted) no_vote)
              (when_fine (no_word, no_vote) prepared h.prepared (normal_word m.arrival, normal_vote m.accepted) (λ _. (word-fine (there m.arrival.some) m.arrival.word f.arrival, vote-fine (there m.accepted.some) m.accepted.ballot m.accepted.set f.vote f.accepted))),
        ),
        when_fine no_values values h.values (normal_values m.values) (λ e. values-fine m.values z.values (w.values e) f.values),
      ),
    )
