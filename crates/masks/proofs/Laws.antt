-- A word as a set: membership in the sets made from sets, as a fact and as a test; words with the same members are equal, and
-- a part is at most the whole, as numbers. Assumes nothing.
use mathlib.Core.Path.{◌≡◌, refl, sym, ap, ◌∙◌, subst}
use mathlib.Core.Logic.{◌⊎◌, inl, inr, ⊎_elim}
use mathlib.Core.Bool.{Bool, true, false, not, cond, ◌&&◌, ◌||◌, or-false}
use borrow.Author.Tests.{eqb-true, eq-eqb, ne_eqb}
use Prim.Native.Nat.{ℕ, zero, suc, ◌+◌, ◌-◌, ◌/◌, ◌%◌, ◌^◌, ◌≤◌, ◌<◌, min, max}
use native.Mathlib.Nat.{le_antisymm, le_refl, lt_of_le_of_lt, add_comm}
use native.Mathlib.Decide.{dec_lt, ℕ_discrete}
use native.Mathlib.Omega.{arith}
use lib.Dec.{eqb}
use lib.Arith.{lt-one}
use lib.Pow.{pow_pos, pow-lt}
use lib.Bits.{or_disjoint, or_comm, and_le_l, bit_and, or_lt}
use Rattle.masks.specs.Bits.{bit, In, has, none, insert, union, both, without, within}
use Rattle.masks.proofs.Bools.{or_yes, or_yes-l, or_yes_r, and_yes, and_yes-l, and_yes_r, and_no_l, not_yes, true_and_false}
use Rattle.masks.proofs.Digits.{bit_lt, bit-zero, bit_past, bit_or_lem, bit_and_lem, bit_not, bit_low, bit-half, half_lt_pow, bit_pow_same, bit_pow_other}

-- ---- membership as a fact, and as a test

pub in_dec : (w t : ℕ) → Dec (In w t)
in_dec w t = go (ℕ_discrete (bit w t) 1)
  where
    go : Dec (bit w t ≡ 1) → Dec (In w t)
    go (yes p) = yes (record { is = p })
    go (no n) = no (λ i. n i.is)

pub out-bit : (w t : ℕ) → (In w t → ⊥) → bit w t ≡ 0
out-bit w t h = go (ℕ_discrete (bit w t) 1)
  where
    go : Dec (bit w t ≡ 1) → bit w t ≡ 0
    go (yes p) = absurd (h (record { is = p }))
    go (no n) = omega (arith, bit_lt w t, n)

pub has_in : {w t : ℕ} → has w t ≡ true → In w t
has_in {w} {t} e = record { is = eqb-true (bit w t) 1 e }

pub in_has : {w t : ℕ} → In w t → has w t ≡ true
in_has {w} {t} i = eq-eqb (bit w t) 1 i.is

pub not_has : {w t : ℕ} → (In w t → ⊥) → has w t ≡ false
not_has {w} {t} n = ne_eqb (bit w t) 1 (λ e. n (record { is = e }))

pub has_not : {w t : ℕ} → has w t ≡ false → In w t → ⊥
has_not e i = true_and_false (in_has i) e

-- ---- the test of each set

or_digit : (p q : ℕ) → p < 2 → q < 2 → eqb (max p q) 1 ≡ (eqb p 1 || eqb q 1)
or_digit zero zero hp hq = refl
or_digit zero (suc zero) hp hq = refl
or_digit (suc zero) zero hp hq = refl
or_digit (suc zero) (suc zero) hp hq = refl
or_digit zero (suc (suc q)) hp hq = absurd (omega arith)
or_digit (suc zero) (suc (suc q)) hp hq = absurd (omega arith)
or_digit (suc (suc p)) q hp hq = absurd (omega arith)

and_digit : (p q : ℕ) → p < 2 → q < 2 → eqb (min p q) 1 ≡ (eqb p 1 && eqb q 1)
and_digit zero zero hp hq = refl
and_digit zero (suc zero) hp hq = refl
and_digit (suc zero) zero hp hq = refl
and_digit (suc zero) (suc zero) hp hq = refl
and_digit zero (suc (suc q)) hp hq = absurd (omega arith)
and_digit (suc zero) (suc (suc q)) hp hq = absurd (omega arith)
and_digit (suc (suc p)) q hp hq = absurd (omega arith)

not_digit : (p : ℕ) → p < 2 → eqb (1 - p) 1 ≡ not (eqb p 1)
not_digit zero hp = refl
not_digit (suc zero) hp = refl
not_digit (suc (suc p)) hp = absurd (omega arith)

pub has-none : (t : ℕ) → has none t ≡ false
has-none t = ap (λ (x : ℕ). eqb x 1) (bit-zero t)

-- nothing from the width on is in a word
pub has-past : (k w t : ℕ) → w < 2 ^ k → k ≤ t → has w t ≡ false
has-past k w t h g = ap (λ (x : ℕ). eqb x 1) (bit_past k w t h g)

pub has_one : (u t : ℕ) → has (2 ^ u) t ≡ eqb u t
has_one u t = go (ℕ_discrete u t)
  where
    go : Dec (u ≡ t) → has (2 ^ u) t ≡ eqb u t
    go (yes e) = subst (λ (n : ℕ). has (2 ^ u) n ≡ eqb u n) e (ap (λ (x : ℕ). eqb x 1) (bit_pow_same u) ∙ sym (eq-eqb u u refl))
    go (no ne) = ap (λ (x : ℕ). eqb x 1) (bit_pow_other u t (λ e. ne (sym e))) ∙ sym (ne_eqb u t ne)

pub has-union : (a b t : ℕ) → has (union a b) t ≡ (has a t || has b t)
unfolding union
has-union a b t = ap (λ (x : ℕ). eqb x 1) (bit_or_lem a b t) ∙ or_digit (bit a t) (bit b t) (bit_lt a t) (bit_lt b t)

pub has_both : (a b t : ℕ) → has (both a b) t ≡ (has a t && has b t)
unfolding both
has_both a b t = ap (λ (x : ℕ). eqb x 1) (bit_and_lem a b t) ∙ and_digit (bit a t) (bit b t) (bit_lt a t) (bit_lt b t)

pub has-without : (a b t : ℕ) → b < 2 ^ 64 → t < 64 → has (without a b) t ≡ (has a t && not (has b t))
unfolding without
has-without a b t h l =
    unfold both in (has_both a (2 ^ 64 - 1 - b) t)
    ∙ ap (λ (x : Bool). has a t && x) (ap (λ (x : ℕ). eqb x 1) (bit_not 64 b t h l) ∙ not_digit (bit b t) (bit_lt b t))

pub has-insert : (w u t : ℕ) → has (insert w u) t ≡ (has w t || eqb u t)
unfolding insert
has-insert w u t = unfold union in (has-union w (2 ^ u) t) ∙ ap (λ (b : Bool). has w t || b) (has_one u t)

-- of a word where a test says whether u is put into it
pub has-put : (w u t : ℕ) (b : Bool) → has (cond b (insert w u) w) t ≡ (has w t || (b && eqb u t))
has-put w u t true = has-insert w u t
has-put w u t false = sym (or-false (has w t))

-- ---- the same as facts

pub in_or_left : {a t : ℕ} (b : ℕ) → In a t → In (union a b) t
in_or_left {a} {t} b i = has_in (has-union a b t ∙ or_yes-l (has a t) (has b t) (in_has i))

pub in_or_right : (a : ℕ) {b t : ℕ} → In b t → In (union a b) t
in_or_right a {b} {t} i = has_in (has-union a b t ∙ or_yes_r (has a t) (has b t) (in_has i))

pub in_or_cases : (a b : ℕ) {t : ℕ} → In (union a b) t → In a t ⊎ In b t
in_or_cases a b {t} i =
    ⊎_elim (λ e. inl (has_in e)) (λ e. inr (has_in e)) (or_yes (has a t) (has b t) (sym (has-union a b t) ∙ in_has i))

pub in_and : {a b t : ℕ} → In a t → In b t → In (both a b) t
in_and {a} {b} {t} i j = has_in (has_both a b t ∙ and_yes (has a t) (has b t) (in_has i) (in_has j))

pub in_and_left : (a b : ℕ) {t : ℕ} → In (both a b) t → In a t
in_and_left a b {t} i = has_in (and_yes-l (has a t) (has b t) (sym (has_both a b t) ∙ in_has i))

pub in_and_right : (a b : ℕ) {t : ℕ} → In (both a b) t → In b t
in_and_right a b {t} i = has_in (and_yes_r (has a t) (has b t) (sym (has_both a b t) ∙ in_has i))

pub not_in_none : {t : ℕ} → In none t → ⊥
not_in_none {t} i = has_not (has-none t) i

pub in_lt : (k : ℕ) {w t : ℕ} → w < 2 ^ k → In w t → t < k
in_lt k {w} {t} h i = go (dec_lt t k)
  where
    go : Dec (t < k) → t < k
    go (yes p) = p
    go (no p) = absurd (has_not (has-past k w t h (omega (arith, p))) i)

pub in_one : (k : ℕ) → In (2 ^ k) k
in_one k = record { is = bit_pow_same k }

pub in_one_eq : (k : ℕ) {t : ℕ} → In (2 ^ k) t → t ≡ k
in_one_eq k {t} i = sym (eqb-true k t (sym (has_one k t) ∙ in_has i))

pub in_insert_old : (u : ℕ) {w t : ℕ} → In w t → In (insert w u) t
in_insert_old u {w} {t} i = has_in (has-insert w u t ∙ or_yes-l (has w t) (eqb u t) (in_has i))

pub in_insert_new : (w u : ℕ) → In (insert w u) u
in_insert_new w u = has_in (has-insert w u u ∙ or_yes_r (has w u) (eqb u u) (eq-eqb u u refl))

pub in_insert_cases : (w u : ℕ) {t : ℕ} → In (insert w u) t → In w t ⊎ (t ≡ u)
in_insert_cases w u {t} i =
    ⊎_elim
    (λ e. inl (has_in e))
    (λ e. inr (sym (eqb-true u t e)))
    (or_yes (has w t) (eqb u t) (sym (has-insert w u t) ∙ in_has i))

pub in_without : {a b t : ℕ} → b < 2 ^ 64 → t < 64 → In a t → (In b t → ⊥) → In (without a b) t
in_without {a} {b} {t} h l i n =
    has_in (has-without a b t h l ∙ and_yes (has a t) (not (has b t)) (in_has i) (ap not (not_has n)))

pub in_without_left : (a b : ℕ) {t : ℕ} → In (without a b) t → In a t
unfolding without
in_without_left a b {t} i = unfold both in (in_and_left a (2 ^ 64 - 1 - b) i)

pub in_without_right : (a b : ℕ) {t : ℕ} → b < 2 ^ 64 → In (without a b) t → In b t → ⊥
in_without_right a b {t} h i j =
    has_not
    (not_yes (has b t) (and_yes_r (has a t) (not (has b t)) (sym (has-without a b t h (in_lt 64 h j)) ∙ in_has i)))
    j

-- a word that holds something is not 0
pub in_pos : {w t : ℕ} → In w t → 0 < w
in_pos {w} {t} i = go (ℕ_discrete w 0)
  where
    go : Dec (w ≡ 0) → 0 < w
    go (yes e) = absurd (not_in_none (subst (λ (x : ℕ). In x t) e i))
    go (no n) = omega (arith, n)

-- ---- a word stays a word

pub one_lt : (k t : ℕ) → t < k → 2 ^ t < 2 ^ k
one_lt k t h = pow-lt h

pub union_lt : (k a b : ℕ) → a < 2 ^ k → b < 2 ^ k → union a b < 2 ^ k
unfolding union
union_lt k a b ha hb = or_lt k a b ha hb

pub insert_lt : (k w t : ℕ) → w < 2 ^ k → t < k → insert w t < 2 ^ k
unfolding insert
insert_lt k w t h l = or_lt k w (2 ^ t) h (pow-lt l)

pub put_lt : (k w t : ℕ) (b : Bool) → w < 2 ^ k → t < k → cond b (insert w t) w < 2 ^ k
put_lt k w t true h l = insert_lt k w t h l
put_lt k w t false h l = h

pub both_le : (a b : ℕ) → both a b ≤ a
unfolding both
both_le a b = and_le_l a b

pub both_lt : (k a b : ℕ) → a < 2 ^ k → both a b < 2 ^ k
both_lt k a b h = lt_of_le_of_lt (both_le a b) h

pub without_le : (a b : ℕ) → without a b ≤ a
unfolding without
without_le a b = and_le_l a (2 ^ 64 - 1 - b)

pub without_lt : (k a b : ℕ) → a < 2 ^ k → without a b < 2 ^ k
without_lt k a b h = lt_of_le_of_lt (without_le a b) h

-- of two words, at every number
pub has_difference : (a b t : ℕ) → a < 2 ^ 64 → b < 2 ^ 64 → has (without a b) t ≡ (has a t && not (has b t))
has_difference a b t ha hb = go (dec_lt t 64)
  where
    go : Dec (t < 64) → has (without a b) t ≡ (has a t && not (has b t))
    go (yes p) = has-without a b t hb p
    go (no p) =
        has-past 64 (without a b) t (without_lt 64 a b ha) (omega (arith, p))
        ∙ sym (and_no_l (has a t) (not (has b t)) (has-past 64 a t ha (omega (arith, p))))

-- ---- parts, and words with the same members

-- what is in a is in b
abbrev pub Sub : ℕ → ℕ → Type 0
Sub a b = (t : ℕ) → In a t → In b t

pub sub-bit : (a b : ℕ) → Sub a b → (t : ℕ) → bit a t ≤ bit b t
sub-bit a b s t = go (in_dec a t)
  where
    go : Dec (In a t) → bit a t ≤ bit b t
    go (yes p) = omega (arith, s t p)
    go (no n) = omega (arith, out-bit a t n)

digits_le : (k a b : ℕ) → a < 2 ^ k → ((t : ℕ) → bit a t ≤ bit b t) → a ≤ b
digits_le zero a b ha h = omega (arith, lt-one ha)
digits_le (suc k) a b ha h =
    let r : a / 2 ≤ b / 2 =
    digits_le k (a / 2) (b / 2) (half_lt_pow k ha) (λ t. omega (arith, h (suc t), bit-half a t, bit-half b t)) in
    let l : a % 2 ≤ b % 2 = omega (arith, h zero, bit_low a, bit_low b) in
    omega arith

-- a part is at most the whole, and less where the whole has more: a measure that grows with each number added
pub part_le : (k a b : ℕ) → a < 2 ^ k → Sub a b → a ≤ b
part_le k a b ha s = digits_le k a b ha (sub-bit a b s)

pub part_lt : (k a b u : ℕ) → a < 2 ^ k → Sub a b → In b u → (In a u → ⊥) → a < b
part_lt k a b u ha s i n = go (ℕ_discrete a b)
  where
    go : Dec (a ≡ b) → a < b
    go (yes e) = absurd (n (subst (λ (x : ℕ). In x u) (sym e) i))
    go (no d) = omega (arith, part_le k a b ha s, d)

-- words with the same members are equal
pub same : (k a b : ℕ) → a < 2 ^ k → b < 2 ^ k → Sub a b → Sub b a → a ≡ b
same k a b ha hb s r = le_antisymm (part_le k a b ha s) (part_le k b a hb r)

-- it is enough to look below the width
pub sub_below : (k a b : ℕ) → a < 2 ^ k → ((t : ℕ) → t < k → has a t ≡ true → has b t ≡ true) → Sub a b
sub_below k a b ha h t i = has_in (h t (in_lt k ha i) (in_has i))

pub same_word : (k a b : ℕ) → a < 2 ^ k → b < 2 ^ k → ((t : ℕ) → t < k → has a t ≡ has b t) → a ≡ b
same_word k a b ha hb h =
    same k a b ha hb (sub_below k a b ha (λ t l e. sym (h t l) ∙ e)) (sub_below k b a hb (λ t l e. h t l ∙ e))

-- a word with no member is 0
pub empty_word : (k w : ℕ) → w < 2 ^ k → ((t : ℕ) → In w t → ⊥) → w ≡ none
empty_word k w h n = same k w none h (pow_pos k) (λ t i. absurd (n t i)) (λ t i. absurd (not_in_none i))

pub sub_refl : (a : ℕ) → Sub a a
sub_refl a t i = i

pub sub_trans : {a b c : ℕ} → Sub a b → Sub b c → Sub a c
sub_trans s r t i = r t (s t i)

pub sub_left : (a b : ℕ) → Sub a (union a b)
sub_left a b t i = in_or_left b i

pub sub_right : (a b : ℕ) → Sub b (union a b)
sub_right a b t i = in_or_right a i

pub union-sub : (a b c : ℕ) → Sub a c → Sub b c → Sub (union a b) c
union-sub a b c s r t i = ⊎_elim (s t) (r t) (in_or_cases a b i)

pub insert-sub : (w u c : ℕ) → Sub w c → In c u → Sub (insert w u) c
insert-sub w u c s j t i = ⊎_elim (s t) (λ e. subst (λ (x : ℕ). In c x) (sym e) j) (in_insert_cases w u i)

-- the test of a part says so, both ways
pub within-sub : (a b : ℕ) → within a b ≡ true → Sub a b
unfolding within
within-sub a b e t i =
    unfold both in (in_and_right a b (subst (λ (x : ℕ). In x t) (sym (eqb-true (bit_and a b) a e)) i))

pub sub_within : (k a b : ℕ) → a < 2 ^ k → Sub a b → within a b ≡ true
unfolding within
sub_within k a b h s =
    eq-eqb (bit_and a b) a
    (unfold both in (same k (both a b) a (both_lt k a b h) h (λ t i. in_and_left a b i) (λ t i. in_and i (s t i))))

pub within_has : (a b t : ℕ) → within a b ≡ true → has a t ≡ true → has b t ≡ true
within_has a b t e h = in_has (within-sub a b e t (has_in h))

pub has_within : (k a b : ℕ) → a < 2 ^ k → ((t : ℕ) → t < k → has a t ≡ true → has b t ≡ true) → within a b ≡ true
has_within k a b h s = sub_within k a b h (sub_below k a b h s)

-- a number that is in a word is put into it for nothing
pub insert_same : (k w t : ℕ) → w < 2 ^ k → In w t → insert w t ≡ w
insert_same k w t h i =
    same k (insert w t) w (insert_lt k w t h (in_lt k h i)) h (insert-sub w t w (sub_refl w) i) (λ u j. in_insert_old t j)

-- two words that share nothing
pub apart_none : (k a b : ℕ) → a < 2 ^ k → ((t : ℕ) → In a t → In b t → ⊥) → both a b ≡ none
apart_none k a b h n = empty_word k (both a b) (both_lt k a b h) (λ t i. n t (in_and_left a b i) (in_and_right a b i))

pub union_apart : (k a b : ℕ) → a < 2 ^ k → ((t : ℕ) → In a t → In b t → ⊥) → union a b ≡ a + b
unfolding union both
union_apart k a b h n = or_disjoint a b (apart_none k a b h n)

-- a word that lacks t, with t, is 2 ^ t more
pub or_new : (w t : ℕ) → (In w t → ⊥) → insert w t ≡ w + 2 ^ t
unfolding insert union
or_new w t n =
    or_comm w (2 ^ t)
    ∙ union_apart (suc t) (2 ^ t) w (pow-lt (le_refl (suc t))) (λ u i j. n (subst (λ (x : ℕ). In w x) (in_one_eq t i) j))
    ∙ add_comm (2 ^ t) w
