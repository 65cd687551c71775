-- A message read in sections is the message that its format reads: the header, the front and the rest, and the front alone where there is no rest.
-- Assumes nothing.
use mathlib.Core.Path.{◌≡◌, refl, sym, ap, ◌∙◌, subst}
use mathlib.Core.Bool.{false, cond, ◌||◌}
use mathlib.Core.List.{List}
use Prim.Native.Nat.{ℕ}
use lib.Dec.{leb}
use lib.ListN.{length}
use borrow.Author.Tests.{eq-eqb, ne_eqb}
use Rattle.masks.proofs.Bools.{or_no_l, or_no_r}
use Rattle.xdr.specs.Read.{Got, judged}
use Rattle.xdr.specs.Form.{u32, u64, when}
use Rattle.xdr.specs.Reading.{Reads, reads_then, reads_by, reads_none}
use Rattle.xdr.specs.declared.Cursor.{Cursor}
use Rattle.rules.specs.declared.Pieces.{Pieces}
use Rattle.rules.specs.declared.Set.{Set}
use Rattle.rules.specs.declared.MaybeWord.{MaybeWord}
use Rattle.rules.specs.declared.MaybeVote.{MaybeVote}
use Rattle.rules.specs.declared.Values.{Values}
use Rattle.rules.specs.Pieces.{no_pieces}
use Rattle.rules.specs.Sets.{no_set}
use Rattle.rules.specs.Maybe.{no_word, no_vote}
use Rattle.rules.specs.Values.{no_values}
use Rattle.wire.specs.declared.Message.{Message}
use Rattle.wire.specs.declared.Shape.{Shape}
use Rattle.wire.specs.declared.Decoded.{Decoded}
use Rattle.wire.specs.Codes.{shape_of}
use Rattle.wire.specs.Messages.{blank}
use Rattle.wire.specs.Parts.{pieces, set4, prepared, values}
use Rattle.wire.specs.Bytes.{Body, body, known, code, bytes, with_body, at_front, ended, decoded_as, decode}
use Rattle.encoding.specs.Sections.{Front, front, Rest, rest, no_rest, long, joined}

-- ---- the header: a number whose shape is known

pub header_read : (s : List ℕ) (c : Cursor) {k : ℕ} {mid next : Cursor} (h : Shape) → Reads u32 s c k mid → h ≡ shape_of k → next ≡ judged h.known 12 mid → Reads code s c (cond h.known k 0) next
unfolding code
header_read s c {k} {mid} h p e n =
    let g : ◌≡◌ {A = Got ℕ} (record { v = k; next = mid }) (u32.get s c) = λ i. record { v = p.value i; next = p.next i } in
    record {
      value = (λ i. cond (e i).known k 0) ∙ ap (λ (x : Got ℕ). cond (known x.v) x.v 0) g;
      next = n ∙ (λ i. judged (e i).known 12 mid) ∙ ap (λ (x : Got ℕ). judged (known x.v) 12 x.next) g;
    }

-- ---- the sections, each reader's value and cursor in a row

pub front_read : (h : Shape) (s : List ℕ) (c : Cursor) {t sv b p n : ℕ} {c₁ c₂ c₃ c₄ c₅ : Cursor}
    → Reads u32 s c t c₁ → Reads (when 0 u32 h.server) s c₁ sv c₂ → Reads (when 0 u32 h.ballot) s c₂ b c₃ → Reads (when 0 u32 h.promise) s c₃ p c₄
    → Reads (when 0 u32 h.ran) s c₄ n c₅
    → Reads (front h) s c ((((t, sv), b), p), n) c₅
unfolding front
front_read h s c p₁ p₂ p₃ p₄ p₅ = reads_then (reads_then (reads_then (reads_then p₁ p₂) p₃) p₄) p₅

pub rest_read : (h : Shape) (s : List ℕ) (c : Cursor) {ps : Pieces} {st : Set} {w : ℕ} {pr : MaybeWord × MaybeVote} {vs : Values} {c₁ c₂ c₃ c₄ c₅ : Cursor}
    → Reads (when no_pieces pieces h.pieces) s c ps c₁
    → Reads (when no_set set4 h.set) s c₁ st c₂
    → Reads (when 0 u64 h.word) s c₂ w c₃
    → Reads (when (no_word, no_vote) prepared h.prepared) s c₃ pr c₄
    → Reads (when no_values values h.values) s c₄ vs c₅
    → Reads (rest h) s c ((((ps, st), w), pr), vs) c₅
unfolding rest
rest_read h s c p₁ p₂ p₃ p₄ p₅ = reads_then (reads_then (reads_then (reads_then p₁ p₂) p₃) p₄) p₅

-- no part of the rest is there
pub record NoRest (h : Shape) : Type 0 where
  pub pieces : h.pieces ≡ false
  pub set : h.set ≡ false
  pub word : h.word ≡ false
  pub prepared : h.prepared ≡ false
  pub values : h.values ≡ false

pub no_rest_lem : (h : Shape) → long h ≡ false → NoRest h
unfolding long
no_rest_lem h n =
    let upto3 = (h.pieces || h.set) || h.word in
    let upto4 = upto3 || h.prepared in
    let a = or_no_l upto4 h.values n in
    let b = or_no_l upto3 h.prepared a in
    let d = or_no_l (h.pieces || h.set) h.word b in
    record {
      pieces = or_no_l h.pieces h.set d;
      set = or_no_r h.pieces h.set d;
      word = or_no_r (h.pieces || h.set) h.word b;
      prepared = or_no_r upto3 h.prepared a;
      values = or_no_r upto4 h.values n;
    }

none_read : (h : Shape) (s : List ℕ) (c : Cursor) → long h ≡ false → Reads (rest h) s c no_rest c
none_read h s c n =
    let z = no_rest_lem h n in
    rest_read h s c (reads_none no_pieces pieces s c z.pieces) (reads_none no_set set4 s c z.set) (reads_none 0 u64 s c z.word)
    (reads_none (no_word, no_vote) prepared s c z.prepared) (reads_none no_values values s c z.values)

-- the fields after the code, from the two sections
regroup : Front → Rest → Body
regroup f x = (((((f, x.0.0.0.0), x.0.0.0.1), x.0.0.1), x.0.1), x.1)

body-read : (h : Shape) (s : List ℕ) (c : Cursor) {f : Front} {k : Cursor} {x : Rest} {l : Cursor} → Reads (front h) s c f k → Reads (rest h) s k x l → Reads (body h) s c (regroup f x) l
unfolding body front rest regroup
body-read h s c {f} {k} {x} {l} p q =
    let e : ◌≡◌ {A = Got Front} (record { v = f; next = k }) ((front h).get s c) = λ i. record { v = p.value i; next = p.next i } in
    record {
      value = (λ i. regroup f (q.value i)) ∙ ap (λ (g : Got Front). regroup g.v ((rest h).get s g.next).v) e;
      next = q.next ∙ ap (λ (g : Got Front). ((rest h).get s g.next).next) e;
    }

pub message-read : (s : List ℕ) (c : Cursor) {k : ℕ} {c₀ : Cursor} {f : Front} {c₁ : Cursor} {x : Rest} {l : Cursor} (h : Shape) → h ≡ shape_of k
    → Reads code s c k c₀ → Reads (front h) s c₀ f c₁ → Reads (rest h) s c₁ x l → Reads bytes s c (joined k f x) l
unfolding bytes regroup
message-read s c {k} {c₀} {f} {c₁} {x} {l} h e p q r =
    let b = body-read h s c₀ q r in
    let m = reads_by (λ j. body (shape_of j)) p (subst (λ (g : Shape). Reads (body g) s c₀ (regroup f x) l) e b) in
    record { value = ap with_body m.value; next = m.next }

-- ---- the answer

-- a fault, and the blank message
pub as_bad : (m : Message) (c : Cursor) (f : ℕ) → f ≡ c.fault → (f ≡ 0 → ⊥) → ◌≡◌ {A = Decoded} (record { refusal = f; message = blank }) (decoded_as m c)
unfolding decoded_as
as_bad m c f e h = rw (ne_eqb c.fault 0 (λ z. h (e ∙ z)), e)

-- no fault, and the message
pub as_good : (m : Message) (c : Cursor) (f : ℕ) → f ≡ c.fault → f ≡ 0 → ◌≡◌ {A = Decoded} (record { refusal = 0; message = m }) (decoded_as m c)
unfolding decoded_as
as_good m c f e h = rw (eq-eqb c.fault 0 (sym e ∙ h))

-- the same of a message whose rest was read
module _ (s : List ℕ) (h : Shape) (c : Cursor) (k : ℕ) (f : Front) {x : Rest} {l : Cursor} (r : Reads (rest h) s c x l) (u : ℕ) (e : u ≡ (judged (leb (length s) l.at) 11 l).fault) where
  pub long-bad : (u ≡ 0 → ⊥) → ◌≡◌ {A = Decoded} (record { refusal = u; message = blank }) (decoded_as (joined k f ((rest h).get s c).v) (ended s ((rest h).get s c).next))
  unfolding ended
  long-bad n = as_bad (joined k f x) (ended s l) u e n ∙ (λ i. decoded_as (joined k f (r.value i)) (ended s (r.next i)))

  pub long-good : u ≡ 0 → ◌≡◌ {A = Decoded} (record { refusal = 0; message = joined k f x }) (decoded_as (joined k f ((rest h).get s c).v) (ended s ((rest h).get s c).next))
  unfolding ended
  long-good z = as_good (joined k f x) (ended s l) u e z ∙ (λ i. decoded_as (joined k f (r.value i)) (ended s (r.next i)))

module _ (s : List ℕ) {k : ℕ} {c₀ : Cursor} {f : Front} {c₁ : Cursor} (h : Shape) (e : h ≡ shape_of k) (p : Reads code s at_front k c₀) (q : Reads (front h) s c₀ f c₁) where
  pub long-decoded : decoded_as (joined k f ((rest h).get s c₁).v) (ended s ((rest h).get s c₁).next) ≡ decode s
  unfolding decode
  long-decoded =
      let r = message-read s at_front h e p q (record { value = refl; next = refl }) in
      λ i. decoded_as (r.value i) (ended s (r.next i))

  -- without a rest nothing is read after the front
  pub short-decoded : long h ≡ false → decoded_as (joined k f no_rest) (judged (leb (length s) c₁.at) 11 c₁) ≡ decode s
  unfolding decode ended
  short-decoded n =
      let r = message-read s at_front h e p q (none_read h s c₁ n) in
      λ i. decoded_as (r.value i) (ended s (r.next i))
