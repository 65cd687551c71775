-- A message that is exactly as long as its code and its count say is what its fields, read where they stand, make. Assumes nothing.
use mathlib.Core.Path.{◌≡◌, refl, sym, ap, ◌∙◌}
use mathlib.Core.Bool.{Bool, true, false, cond, true≢false}
use mathlib.Core.List.{List}
use Prim.Native.Nat.{ℕ, ◌+◌, ◌*◌, ◌≤◌}
use native.Mathlib.Omega.{arith}
use lib.IntN.{ℤ}
use mir.Syntax.{w32}
use mir.Val.{to_z}
use lib.Dec.{eqb, leb}
use lib.ListN.{length}
use borrow.Author.Tests.{eqb-true, le-leb, ne_eqb}
use Rattle.masks.proofs.Bools.{or_no, and_yes-l, and_yes_r}
use Rattle.xdr.specs.Read.{Got, judged, judged_true}
use Rattle.xdr.specs.Form.{u32, u64, int, count, when}
use Rattle.xdr.specs.Reading.{Reads, clean, word_read, hyper_read, reads_got, reads_then, reads_when, reads_none}
use Rattle.xdr.specs.Array.{Filled}
use Rattle.xdr.specs.declared.Cursor.{Cursor}
use Rattle.xdr.proofs.Windows.{cost}
use Rattle.parts.proofs.ReadParts.{pieces-read}
use Rattle.rules.specs.declared.Piece.{Piece}
use Rattle.rules.specs.declared.Set.{Set}
use Rattle.rules.specs.Pieces.{no_piece, no_pieces}
use Rattle.rules.specs.Sets.{no_set}
use Rattle.rules.specs.Maybe.{no_word, no_vote}
use Rattle.rules.specs.Values.{no_values}
use Rattle.wire.specs.declared.Shape.{Shape}
use Rattle.wire.specs.declared.Decoded.{Decoded}
use Rattle.wire.specs.Codes.{shape_of}
use Rattle.wire.specs.Messages.{message}
use Rattle.wire.specs.Parts.{piece, pieces, set4, prepared, values}
use Rattle.wire.specs.Bytes.{code, at_front, ended, decoded_as, decode}
use Rattle.encoding.specs.Sections.{Front, front, Rest, rest, no_rest, joined}
use Rattle.encoding.specs.ByKind.{bare, asked, answered, bare_shape, asked_shape, answered_shape, kind_shape}
use Rattle.codec.specs.Exact.{word_at, is_bare, ExactAsked, ExactAnswered}
use Rattle.encoding.proofs.ByKind.{kind_shape_lem}
use Rattle.codec.proofs.ReadWhole.{header_read, front_read, rest_read, message-read, as_good}

-- ---- the shape of each kind

bare_shape_lem : (k : ℕ) → bare k ≡ true → bare_shape ≡ shape_of k
unfolding kind_shape
bare_shape_lem k h = sym (sym (kind_shape_lem k) ∙ rw h)

-- what neither code of a bare message has
not_bare : (k : ℕ) (p : ℕ → Bool) → p 4 ≡ false → p 5 ≡ false → p k ≡ true → bare k ≡ false
not_bare k p e₄ e₅ h =
    or_no (eqb k 4) (eqb k 5)
    (ne_eqb k 4 (λ e. true≢false (sym h ∙ ap p e ∙ e₄)))
    (ne_eqb k 5 (λ e. true≢false (sym h ∙ ap p e ∙ e₅)))

asked_shape_lem : (k : ℕ) → asked k ≡ true → asked_shape k ≡ shape_of k
unfolding kind_shape
asked_shape_lem k h = sym (sym (kind_shape_lem k) ∙ rw (not_bare k asked refl refl h, h))

answered_shape_lem : (k : ℕ) → answered k ≡ true → asked k ≡ false → answered_shape k ≡ shape_of k
unfolding kind_shape
answered_shape_lem k h g = sym (sym (kind_shape_lem k) ∙ rw (not_bare k answered refl refl h, g, h))

-- ---- the parts, read where they stand

module _ (s : List ℕ) where
  code_read : {k : ℕ} (h : Shape) → h ≡ shape_of k → h.known ≡ true → 4 ≤ length s → k ≡ word_at s 0 → Reads code s at_front k (clean 4)
  unfolding judged
  code_read {k} h e n l w =
      let p = header_read s at_front h (word_read s 0 l w) e refl in
      rw n at p

  count-read : (at : ℕ) {n : ℕ} → at + 4 ≤ length s → n ≡ word_at s at → n ≤ 8 → Reads count s (clean at) n (clean (at + 4))
  unfolding judged
  count-read at {n} l w few =
      let p = word_read s at l w in
      let g : ◌≡◌ {A = Got ℕ} (u32.get s (clean at)) (record { v = n; next = clean (at + 4) }) = λ i. record { v = sym p.value i; next = sym p.next i } in
      reads_got count s (clean at) (ap (λ (x : Got ℕ). record { v = cond (leb x.v 8) x.v 0; next = judged (leb x.v 8) 12 x.next }) g ∙ rw (le-leb n 8 few))

  -- the whole, where nothing is left behind the rest
  exact-decoded : {k : ℕ} {c₀ : Cursor} {f : Front} {c₁ : Cursor} {x : Rest} (h : Shape) → h ≡ shape_of k → Reads code s at_front k c₀ → Reads (front h) s c₀ f c₁ → Reads (rest h) s c₁ x (clean (length s))
      → ◌≡◌ {A = Decoded} (record { refusal = 0; message = joined k f x }) (decode s)
  unfolding decode ended
  exact-decoded {k} {f = f} {x = x} h e p q r =
      let n = length s in
      let m = message-read s at_front h e p q r in
      let c : ended s (clean n) ≡ clean n = rw (le-leb n n (omega arith)) (judged_true 11 (clean n)) in
      as_good (joined k f x) (ended s (clean n)) 0 (ap (λ (a : Cursor). a.fault) (sym c)) refl ∙ (λ i. decoded_as (m.value i) (ended s (m.next i)))

-- ---- the parts that are no words

module _ (s : List ℕ) where
  -- the next word, at a place that is written in another way
  word-to : (at to : ℕ) {v : ℕ} → at + 4 ≡ to → to ≤ length s → v ≡ word_at s at → Reads u32 s (clean at) v (clean to)
  word-to at to e l w = rw e at (word_read s at (omega arith) w)

  hyper-to : (at to : ℕ) {v : ℕ} → at + 8 ≡ to → to ≤ length s → v ≡ word_at s at * 4294967296 + word_at s (at + 4) → Reads u64 s (clean at) v (clean to)
  hyper-to at to e l w = rw e at (hyper_read s at (omega arith) w)

  pub set-read : (at : ℕ) {a b c d : ℕ} → at + 32 ≤ length s
      → a ≡ word_at s at * 4294967296 + word_at s (at + 4)
      → b ≡ word_at s (at + 8) * 4294967296 + word_at s (at + 8 + 4)
      → c ≡ word_at s (at + 16) * 4294967296 + word_at s (at + 16 + 4)
      → d ≡ word_at s (at + 24) * 4294967296 + word_at s (at + 24 + 4)
      → Reads set4 s (clean at) (record { w0 = a; w1 = b; w2 = c; w3 = d }) (clean (at + 32))
  unfolding set4
  set-read at l p q r t =
      let x =
      reads_then (reads_then (reads_then (hyper-to at (at + 8) refl (omega arith) p) (hyper-to (at + 8) (at + 16) (omega arith) (omega arith) q)) (hyper-to (at + 16) (at + 24) (omega arith) (omega arith) r)) (hyper-to (at + 24) (at + 32) (omega arith) l t) in
      record {
        value = ap (λ (v : ((ℕ × ℕ) × ℕ) × ℕ). record { w0 = v.0.0.0; w1 = v.0.0.1; w2 = v.0.1; w3 = v.1 }) x.value;
        next = x.next;
      }

  pub piece-read : (at : ℕ) {a b k n : ℕ} {z : ℤ} → at + 16 ≤ length s
      → a ≡ word_at s at → b ≡ word_at s (at + 4) → k ≡ word_at s (at + 8) → n ≡ word_at s (at + 12) → z ≡ to_z w32 n
      → Reads piece s (clean at) (record { shard = a; key = b; kind = k; operand = z }) (clean (at + 16))
  unfolding piece int
  piece-read at {z = z} l p q r t e =
      let o = word-to (at + 12) (at + 16) (omega arith) l t in
      let i : Reads int s (clean (at + 12)) z (clean (at + 16)) = record { value = e ∙ ap (to_z w32) o.value; next = o.next } in
      let x =
      reads_then (reads_then (reads_then (word-to at (at + 4) refl (omega arith) p) (word-to (at + 4) (at + 8) (omega arith) (omega arith) q)) (word-to (at + 8) (at + 12) (omega arith) (omega arith) r)) i in
      record {
        value = ap (λ (v : ((ℕ × ℕ) × ℕ) × ℤ). record { shard = v.0.0.0; key = v.0.0.1; kind = v.0.1; operand = v.1 }) x.value;
        next = x.next;
      }

-- ---- each kind

pub bare-long : (s : List ℕ) → is_bare s ≡ true → length s ≡ 8
bare-long s b = eqb-true (length s) 8 (and_yes-l (eqb (length s) 8) (bare (word_at s 0)) b)

module _ (s : List ℕ) where
  pub bare-decoded : {k t : ℕ} → is_bare s ≡ true → k ≡ word_at s 0 → t ≡ word_at s 4 → ◌≡◌ {A = Decoded} (record { refusal = 0; message = message k t 0 0 0 no_pieces no_set }) (decode s)
  bare-decoded {k} b w v =
      let n = bare-long s b in
      let h : bare k ≡ true = rw w (and_yes_r (eqb (length s) 8) (bare (word_at s 0)) b) in
      let e = bare_shape_lem k h in
      let f = front_read bare_shape s (clean 4) (word_read s 4 (omega arith) v) (reads_none 0 u32 s (clean 8) refl) (reads_none 0 u32 s (clean 8) refl) (reads_none 0 u32 s (clean 8) refl) (reads_none 0 u32 s (clean 8) refl) in
      let r : Reads (rest bare_shape) s (clean 8) no_rest (clean (length s)) =
      rw n (rest_read bare_shape s (clean 8) (reads_none no_pieces pieces s (clean 8) refl) (reads_none no_set set4 s (clean 8) refl) (reads_none 0 u64 s (clean 8) refl) (reads_none (no_word, no_vote) prepared s (clean 8) refl) (reads_none no_values values s (clean 8) refl)) in
      exact-decoded s bare_shape e (code_read s bare_shape e refl (omega arith) w) f r

  module _ {k at n : ℕ} (x : ExactAsked s k at n) where
    abbrev A : Shape
    A = asked_shape k

    pub asked-decoded : {t b : ℕ} {l : List Piece} {v : Set} → t ≡ word_at s 4
        → Reads (when 0 u32 A.ballot) s (clean 8) b (clean (8 + cost A.ballot 4))
        → Filled piece no_piece s (clean (at + 4)) n l (clean ((at + 4) + n * 16))
        → Reads (when no_set set4 A.set) s (clean (at + (4 + n * 16))) v (clean ((at + (4 + n * 16)) + cost A.set 32))
        → ◌≡◌ {A = Decoded} (record { refusal = 0; message = message k t 0 b 0 (record { list = l; count = n }) v }) (decode s)
    asked-decoded {b = b} {l} {v} w p q r =
        let e = asked_shape_lem k x.kind in
        let long = x.exact in
        let place = x.place in
        let end : Cursor = clean (at + (4 + n * 16)) in
        let p' : Reads (when 0 u32 A.ballot) s (clean 8) b (clean at) = rw x.place p in
        let f = front_read A s (clean 4) (word_read s 4 (omega arith) w) (reads_none 0 u32 s (clean 8) refl) p' (reads_none 0 u32 s (clean at) refl) (reads_none 0 u32 s (clean at) refl) in
        let same : (at + 4) + n * 16 ≡ at + (4 + n * 16) = omega arith in
        let ps : Reads pieces s (clean at) (record { list = l; count = n }) end = rw same at (pieces-read s (clean at) (count-read s at (omega arith) x.count x.few) q) in
        let last : Cursor = clean (length s) in
        let r' : Reads (when no_set set4 A.set) s end v last = rw x.exact r in
        exact-decoded s A e (code_read s A e refl (omega arith) x.code) f
        (rest_read A s (clean at) (reads_when no_pieces refl ps) r' (reads_none 0 u64 s last refl) (reads_none (no_word, no_vote) prepared s last refl) (reads_none no_values values s last refl))

  module _ {k : ℕ} (x : ExactAnswered s k) where
    abbrev B : Shape
    B = answered_shape k

    pub answered-decoded : {t sv b p n w : ℕ} → t ≡ word_at s 4 → sv ≡ word_at s 8
        → Reads (when 0 u32 B.ballot) s (clean 12) b (clean (12 + cost B.ballot 4))
        → Reads (when 0 u32 B.promise) s (clean (12 + cost B.ballot 4)) p (clean ((12 + cost B.ballot 4) + cost B.promise 4))
        → Reads (when 0 u32 B.ran) s (clean ((12 + cost B.ballot 4) + cost B.promise 4)) n (clean (((12 + cost B.ballot 4) + cost B.promise 4) + cost B.ran 4))
        → Reads (when 0 u64 B.word) s (clean (((12 + cost B.ballot 4) + cost B.promise 4) + cost B.ran 4)) w (clean ((((12 + cost B.ballot 4) + cost B.promise 4) + cost B.ran 4) + cost B.word 8))
        → ◌≡◌ {A = Decoded} (record { refusal = 0; message = joined k ((((t, sv), b), p), n) ((((no_pieces, no_set), w), (no_word, no_vote)), no_values) }) (decode s)
    answered-decoded {w = w} m sv b p n q =
        let e = answered_shape_lem k x.kind x.other in
        let long = x.exact in
        let mid : Cursor = clean (((12 + cost B.ballot 4) + cost B.promise 4) + cost B.ran 4) in
        let last : Cursor = clean (length s) in
        let f = front_read B s (clean 4) (word_read s 4 (omega arith) m) (reads_when 0 refl (word_read s 8 (omega arith) sv)) b p n in
        let end : length s ≡ (((12 + cost B.ballot 4) + cost B.promise 4) + cost B.ran 4) + cost B.word 8 = omega arith in
        let q' : Reads (when 0 u64 B.word) s mid w last = rw end q in
        exact-decoded s B e (code_read s B e refl (omega arith) x.code) f
        (rest_read B s mid (reads_none no_pieces pieces s mid refl) (reads_none no_set set4 s mid refl) q' (reads_none (no_word, no_vote) prepared s last x.unprepared) (reads_none no_values values s last x.unrun))
