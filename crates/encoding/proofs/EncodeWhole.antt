-- What is sent of each kind of message is what the definition of encoding says. Assumes nothing.
use mathlib.Core.Path.{◌≡◌, refl, sym, ap, ◌∙◌}
use mathlib.Core.Bool.{Bool, true, false, not, cond, ◌&&◌, ◌||◌, or-false}
use mathlib.Core.List.{List, [], ◌∷◌, append_assoc, append-nil}
use Rattle.std.proofs.Common.{Result, Ok, Err}
use Rattle.std.specs.Prelude.{IsErrAnd}
use Prim.Native.Nat.{ℕ, ◌+◌, ◌*◌, ◌≤◌, ◌<◌}
use native.Mathlib.Omega.{arith}
use lib.Dec.{ltb, eqb}
use lib.ListN.{length, take, drop, length-append, length-take}
use lib.Seq.{take_at}
use borrow.Author.Tests.{lt-ltb, le-ltb}
use Rattle.xdr.specs.Word.{be-length}
use Rattle.xdr.specs.Over.{over, Put}
use Rattle.xdr.specs.Form.{Form, u32, u64, when}
use Rattle.xdr.specs.Array.{flat-length}
use Rattle.xdr.proofs.Windows.{cost}
use Rattle.rules.specs.declared.Pieces.{Pieces}
use Rattle.rules.specs.declared.MaybeWord.{MaybeWord}
use Rattle.rules.specs.declared.MaybeVote.{MaybeVote}
use Rattle.rules.specs.declared.Values.{Values}
use Rattle.rules.specs.Flags.{there}
use Rattle.rules.specs.Sets.{no_set}
use Rattle.rules.specs.Maybe.{no_word, no_vote}
use Rattle.rules.specs.Values.{no_values}
use Rattle.wire.specs.declared.Message.{Message}
use Rattle.wire.specs.declared.Shape.{Shape}
use Rattle.wire.specs.Codes.{shape_of, unknown}
use Rattle.wire.specs.Parts.{piece, pieces, value, set4, prepared, values}
use Rattle.wire.specs.Bytes.{body, code, bytes, unwritable, encode_refusal}
use Rattle.wire.specs.Encoding.{Encoding, refused, written, encode}
use Rattle.wire.proofs.Longest.{cost_le}
use Rattle.wire.proofs.Lengths.{piece-length, value-length, set-length, maybe-word-length, maybe-vote-length}
use Rattle.rules.specs.declared.refusals.Refusal.{Refusal}
use Rattle.rules.specs.declared.refusals.Refusal.TheVariants.{NoRoom}
use Rattle.encoding.specs.Answers.{sent, told_of}
use Rattle.encoding.specs.Sections.{front, front_length, cat}
use Rattle.encoding.specs.ByKind.{bare, asked, answered, bare_shape, asked_shape, answered_shape, kind_shape, bare_sections, asked_sections, answered_sections}
use Rattle.encoding.proofs.ByKind.{kind_shape_lem}

-- ---- how many bytes a section takes

when_length : {A : Type 0} (d : A) (F : Form A) (b : Bool) (x : A) {n : ℕ} → (b ≡ true → length (F.put x) ≡ n) → length ((when d F b).put x) ≡ cost b n
when_length d F true x e = e refl
when_length d F false x e = refl

front_length_lem : (h : Shape) (t s b p n : ℕ) → length ((front h).put ((((t, s), b), p), n)) ≡ front_length h
unfolding front
front_length_lem h t s b p n =
    let has : (c : Bool) (v : ℕ) → length ((when 0 u32 c).put v) ≡ cost c 4 = λ c v. when_length 0 u32 c v (λ _. be-length 4 v) in
    simp length-append (omega (arith, be-length 4 t, has h.server s, has h.ballot b, has h.promise p, has h.ran n))

both-cost : (b : Bool) → cost b 4 + cost b 32 ≡ cost b 36
both-cost true = refl
both-cost false = refl

prepared-length : (a : MaybeWord) (v : MaybeVote) → length (prepared.put (a, v)) ≡ (4 + cost (there a.some) 8) + (4 + cost (there v.some) 36)
prepared-length a v =
    let w = when_length 0 u64 (there a.some) a.word (λ _. be-length 8 a.word) in
    let b = when_length 0 u32 (there v.some) v.ballot (λ _. be-length 4 v.ballot) in
    let s = when_length no_set set4 (there v.some) v.set (λ _. set-length v.set) in
    simp length-append (omega (arith, maybe-word-length a, maybe-vote-length v, both-cost (there v.some)))

pub pieces-bytes : (p : Pieces) → length (pieces.put p) ≡ 4 + length (take p.count p.list) * 16
unfolding pieces
pieces-bytes p = simp length-append (omega (arith, be-length 4 p.count, flat-length piece 16 piece-length (take p.count p.list)))

pub values-bytes : (r : Values) → length (values.put r) ≡ 4 + length (take r.count r.list) * 8
unfolding values
values-bytes r = simp length-append (omega (arith, be-length 4 r.count, flat-length value 8 value-length (take r.count r.list)))

pub results-bytes : (b : Bool) (r : Values) → b ≡ true → 4 + length (take r.count r.list) * 8 ≡ length ((when no_values values b).put r)
results-bytes b r e = sym (values-bytes r) ∙ ap (λ (c : Bool). length ((when no_values values c).put r)) (sym e)

-- ---- and how many at most

pub pieces-most : (p : Pieces) → p.count ≤ 8 → length (pieces.put p) ≤ 132
pieces-most p h = omega (arith, pieces-bytes p, length-take p.count p.list)

pub values-most : (r : Values) → r.count ≤ 8 → length (values.put r) ≤ 68
values-most r h = omega (arith, values-bytes r, length-take r.count r.list)

when-most : {A : Type 0} (d : A) (F : Form A) (b : Bool) (x : A) (n : ℕ) → (b ≡ true → length (F.put x) ≤ n) → length ((when d F b).put x) ≤ n
when-most d F true x n e = e refl
when-most d F false x n e = omega arith

-- no server, no promise and no count of what ran: eight bytes before the count of pieces
pub asked_small : (k : ℕ) (h : Shape) → h ≡ asked_shape k → front_length h ≤ 8
asked_small k h e = rw e (omega (arith, cost_le (asked_shape k).ballot 4))

module _ (m : Message) where
  abbrev pub front_of : Shape → List ℕ
  front_of h = (front h).put ((((m.t, m.server), m.ballot), m.promise), m.ran)

  abbrev pub bare_built : List (List ℕ)
  bare_built = bare_sections m.code m.t

  abbrev pub asked_built : Shape → List (List ℕ)
  asked_built h = code.put m.code ∷ front_of h ∷ pieces.put m.pieces ∷ (when no_set set4 h.set).put m.set ∷ []

  abbrev pub answered_built : Shape → List (List ℕ)
  answered_built h = answered_sections h m.code m.t m.server m.ballot m.promise m.ran m.word m.arrival m.accepted m.values

  pub bare-length : length (cat bare_built) ≡ 8
  unfolding code
  bare-length = simp (length-append, be-length)

  pub asked-length : (h : Shape) → length (cat (asked_built h)) ≡ ((4 + front_length h) + length (pieces.put m.pieces)) + cost h.set 32
  unfolding code
  asked-length h =
      let s = when_length no_set set4 h.set m.set (λ _. set-length m.set) in
      simp length-append (omega (arith, be-length 4 m.code, front_length_lem h m.t m.server m.ballot m.promise m.ran))

  pub answered-length : (h : Shape) → length (cat (answered_built h))
      ≡ (((4 + front_length h) + cost h.word 8) + cost h.prepared ((4 + cost (there m.arrival.some) 8) + (4 + cost (there m.accepted.some) 36))) + length ((when no_values values h.values).put m.values)
  unfolding code
  answered-length h =
      let x = when_length 0 u64 h.word m.word (λ _. be-length 8 m.word) in
      let y = when_length (no_word, no_vote) prepared h.prepared (m.arrival, m.accepted) (λ _. prepared-length m.arrival m.accepted) in
      simp length-append (omega (arith, be-length 4 m.code, front_length_lem h m.t m.server m.ballot m.promise m.ran))

  pub bare-room : 0 + length (cat bare_built) ≤ 176
  bare-room = omega (arith, bare-length)

  pub asked-room : (h : Shape) → h ≡ asked_shape m.code → m.pieces.count ≤ 8 → 0 + length (cat (asked_built h)) ≤ 176
  asked-room h e few = omega (arith, asked-length h, asked_small m.code h e, pieces-most m.pieces few, cost_le h.set 32)

  pub answered-room : (h : Shape) → (h.values ≡ true → m.values.count ≤ 8) → 0 + length (cat (answered_built h)) ≤ 176
  answered-room h few =
      let z = when-most no_values values h.values m.values 68 (λ g. values-most m.values (few g)) in
      let l₁ = cost_le h.server 4 in
      let l₂ = cost_le h.ballot 4 in
      let l₃ = cost_le h.promise 4 in
      let l₄ = cost_le h.ran 4 in
      let l₅ = cost_le h.word 8 in
      let l₆ = cost_le h.prepared ((4 + cost (there m.arrival.some) 8) + (4 + cost (there m.accepted.some) 36)) in
      let l₇ = cost_le (there m.arrival.some) 8 in
      let l₈ = cost_le (there m.accepted.some) 36 in
      omega (arith, answered-length h)

  -- what these have no server, promise and count of what ran
  pub asked-same : (h : Shape) → h ≡ asked_shape m.code → cat (asked_built h) ≡ cat (asked_sections h m.code m.t m.ballot m.pieces.list m.pieces.count m.set)
  unfolding front pieces
  asked-same h e = rw e (simp (append-nil, append_assoc))

-- ---- what is sent

built_first : (s : List ℕ) {n : ℕ} {z₀ : List ℕ} {r : ℕ} {b : List ℕ} → length s ≡ n → Put 0 s z₀ r b → take n b ≡ s
unfolding over
built_first s {n} {z₀} l p = ap (take n) p.bytes ∙ take_at s (drop (length s) z₀) n l

module _ (s z : List ℕ) {u : Bool} where
  pub sent-12 : u ≡ true → refused 12 z ≡ sent u s z
  unfolding sent
  sent-12 e = rw e

  module _ {n : ℕ} (e : u ≡ false) (l : length s ≡ n) where
    pub sent-14 : length z < n → refused 14 z ≡ sent u s z
    unfolding sent
    sent-14 h = rw (e, l, lt-ltb (length z) n h)

    -- built in another buffer, and then copied
    pub sent-all : n ≤ length z → {z₀ : List ℕ} {r : ℕ} {b z' : List ℕ} → Put 0 s z₀ r b → z' ≡ over (take n b) z → ◌≡◌ {A = Encoding} (record { refusal = 0; size = n; buffer = z' }) (sent u s z)
    unfolding sent
    sent-all h p q =
        let all = q ∙ ap (λ (x : List ℕ). over x z) (built_first s l p) in
        rw (e, l, le-ltb (length z) n h, all)

-- what `?` hands on of an output without room is told as 14
pub none-written : (r : Result ℕ Refusal) (x : Refusal) → IsErrAnd r (λ e. e ≡ x) → x ≡ NoRoom → told_of r ≡ record { refusal = 14; length = 0 }
none-written (Ok n) x f h = absurd f
none-written (Err e) x f h = rw (f ∙ h)

-- ---- and the definition

-- 12, of the fields that a shape says
abbrev unwritable_as : Shape → Message → Bool
unwritable_as h m = not h.known || (h.pieces && ltb 8 m.pieces.count) || (h.values && ltb 8 m.values.count)

module _ (m : Message) (z : List ℕ) where
  abbrev k : ℕ
  k = m.code

  encode-sent : sent (unwritable m) (bytes.put m) z ≡ encode m z
  unfolding sent encode encode_refusal
  encode-sent = go (unwritable m) (ltb (length z) (length (bytes.put m)))
    where
      go : (a b : Bool) → cond a (refused 12 z) (cond b (refused 14 z) (written (bytes.put m) z)) ≡ cond (eqb (cond a 12 (cond b 14 0)) 0) (written (bytes.put m) z) (refused (cond a 12 (cond b 14 0)) z)
      go true b = refl
      go false true = refl
      go false false = refl

  by_shape : (h : Shape) {u : Bool} {s : List ℕ} → shape_of k ≡ h → u ≡ unwritable_as h m → s ≡ bytes.put m → sent u s z ≡ encode m z
  unfolding unwritable
  by_shape h e p q = (λ i. sent ((p ∙ ap (λ (g : Shape). unwritable_as g m) (sym e)) i) (q i) z) ∙ encode-sent

  pub encode-bare : bare k ≡ true → sent false (cat (bare_sections k m.t)) z ≡ encode m z
  unfolding kind_shape bytes body
  encode-bare h =
      let e : shape_of k ≡ bare_shape = sym (kind_shape_lem k) ∙ rw h in
      by_shape bare_shape e refl (rw e (simp append-nil))

  pub encode-asked : bare k ≡ false → asked k ≡ true → sent (ltb 8 m.pieces.count) (cat (asked_sections (asked_shape k) k m.t m.ballot m.pieces.list m.pieces.count m.set)) z ≡ encode m z
  unfolding kind_shape bytes body front pieces
  encode-asked g h =
      let e : shape_of k ≡ asked_shape k = sym (kind_shape_lem k) ∙ rw (g, h) in
      by_shape (asked_shape k) e (sym (or-false (ltb 8 m.pieces.count))) (rw e (simp (append-nil, append_assoc)))

  pub encode-answered : bare k ≡ false → asked k ≡ false → answered k ≡ true
      → sent ((answered_shape k).values && ltb 8 m.values.count) (cat (answered_sections (answered_shape k) k m.t m.server m.ballot m.promise m.ran m.word m.arrival m.accepted m.values)) z ≡ encode m z
  unfolding kind_shape bytes body front
  encode-answered f g h =
      let e : shape_of k ≡ answered_shape k = sym (kind_shape_lem k) ∙ rw (f, g, h) in
      by_shape (answered_shape k) e refl (rw e (simp (append-nil, append_assoc)))

  pub encode-12 : bare k ≡ false → asked k ≡ false → answered k ≡ false → refused 12 z ≡ encode m z
  unfolding kind_shape unwritable
  encode-12 f g h =
      let e : shape_of k ≡ unknown = sym (kind_shape_lem k) ∙ rw (f, g, h) in
      sent-12 (bytes.put m) z (ap (λ (g : Shape). unwritable_as g m) e) ∙ encode-sent
