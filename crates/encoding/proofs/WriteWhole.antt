-- Sections written in a row, each in the part after the last, are written as one. Assumes nothing.
use mathlib.Core.Path.{◌≡◌, sym, ap, ◌∙◌}
use mathlib.Core.List.{List, [], ◌∷◌, ◌++◌, append_assoc, append-nil}
use Prim.Native.Nat.{ℕ, zero, suc, ◌+◌, ◌^◌, ◌≤◌, ◌<◌}
use native.Mathlib.Omega.{arith}
use lib.ListN.{length, take, get_or, replicate, length-append, length-take, length-drop}
use Rattle.xdr.specs.Word.{be}
use Rattle.xdr.specs.Form.{u32, when}
use Rattle.xdr.specs.Over.{over, Put, put-none, put-put, room_right}
use Rattle.wire.specs.declared.Shape.{Shape}
use Rattle.encoding.specs.Sections.{front, cat}

cat_more : (ss : List (List ℕ)) (i : ℕ) → i < length ss → cat (take (suc i) ss) ≡ cat (take i ss) ++ get_or ss i []
cat_more [] i h = absurd (omega arith)
cat_more (s ∷ ss) zero h = append-nil s
cat_more (s ∷ ss) (suc i) h = ap (λ (l : List ℕ). s ++ l) (cat_more ss i (omega arith)) ∙ sym (append_assoc s (cat (take i ss)) (get_or ss i []))

cat_first : (ss : List (List ℕ)) (i : ℕ) → length (cat (take i ss)) ≤ length (cat ss)
cat_first ss zero = omega arith
cat_first [] (suc i) = omega arith
cat_first (s ∷ ss) (suc i) = omega (arith, length-append s (cat (take i ss)), length-append s (cat ss), cat_first ss i)

-- a writer leaves as many bytes as there were
same_size : (a : ℕ) (ys z : List ℕ) {r : ℕ} {z' : List ℕ} → a + length ys ≤ length z → Put a ys z r z' → length z' ≡ length z
unfolding over
same_size a ys z h p = ap length p.bytes ∙ simp (length-append, length-take, length-drop) (omega arith)

-- where a message is built
abbrev pub cleared : List ℕ
cleared = replicate 176 0

module _ (ss : List (List ℕ)) (at : ℕ) (z : List ℕ) (room : at + length (cat ss) ≤ length z) where
  -- the first i were written
  abbrev pub Upto : ℕ → ℕ → List ℕ → Type 0
  Upto i a z₁ = Put at (cat (take i ss)) z a z₁

  room_for : (i : ℕ) → at + length (cat (take i ss)) ≤ length z
  room_for i = omega (arith, cat_first ss i)

  pub none-put : Upto 0 at z
  none-put = put-none at z

  pub section-room : (i : ℕ) → i < length ss → {a : ℕ} {z₁ : List ℕ} → Upto i a z₁ → a + length (get_or ss i []) ≤ length z₁
  section-room i h p = room_right at (cat (take i ss)) (get_or ss i []) z (rw (← cat_more ss i h) (room_for (suc i))) p (same_size at (cat (take i ss)) z (room_for i) p)

  pub section-put : (i : ℕ) → i < length ss → {a : ℕ} {z₁ : List ℕ} {r : ℕ} {z₂ : List ℕ} → Upto i a z₁ → Put a (get_or ss i []) z₁ r z₂ → Upto (suc i) r z₂
  section-put i h p q = rw (cat_more ss i h) (put-put at (cat (take i ss)) (get_or ss i []) z (room_for i) p q)

-- what was built stands in the buffer
pub built-fits : (ss : List (List ℕ)) → 0 + length (cat ss) ≤ 176 → {n : ℕ} {z : List ℕ} → Put 0 (cat ss) cleared n z → (n ≤ length z) × (n < 2 ^ 32)
built-fits ss room p =
    let l = same_size 0 (cat ss) cleared room p in
    (omega (arith, p.next), omega (arith, p.next))

-- ---- the front: T, server, ballot, promise and the count of what ran

abbrev pub front_sections : Shape → (t s b p n : ℕ) → List (List ℕ)
front_sections h t s b p n = be 4 t ∷ (when 0 u32 h.server).put s ∷ (when 0 u32 h.ballot).put b ∷ (when 0 u32 h.promise).put p ∷ (when 0 u32 h.ran).put n ∷ []

pub front_is : (h : Shape) (t s b p n : ℕ) → cat (front_sections h t s b p n) ≡ (front h).put ((((t, s), b), p), n)
unfolding front
front_is h t s b p n = simp (append-nil, append_assoc)
