-- How many: the laws of a count, that the machine counts the same, and the size of the sets made from sets. Assumes nothing.
use mathlib.Core.Path.{◌≡◌, refl, sym, ap, ap₂, ◌∙◌, subst}
use mathlib.Core.Logic.{⊎_elim}
use mathlib.Core.Bool.{Bool, true, false, not, cond, ◌&&◌, ◌||◌}
use Prim.Native.Nat.{ℕ, zero, suc, ◌+◌, ◌-◌, ◌*◌, ◌%◌, ◌^◌, ◌≤◌, ◌<◌}
use native.Mathlib.Nat.{mod-lt, mod-eq_of_lt, mod-one, add-zero}
use native.Mathlib.Numerals.{one-add}
use native.Mathlib.Omega.{arith}
use borrow.Author.Tests.{eq-eqb, ne_eqb}
use lib.Dec.{eqb, lit<}
use lib.Pow.{pow_pos, mod-pow-add}
use lib.Count.{ones_in, ones, ones_cat}
use Rattle.masks.specs.Bits.{bit, In, has, none, insert, union, both}
use Rattle.masks.specs.Folds.{any_below, count_below, mask_of, size}
use Rattle.masks.proofs.Bools.{and_yes-l, and_yes_r, not_no, true_or_false, not_true_false}
use Rattle.masks.proofs.Digits.{bit_lt}
use Rattle.masks.proofs.Laws.{has_in, in_has, not_has, has-none, has-past, has_one, has-union, has_both, in_and_left, in_and_right, in_lt, in_one_eq, Sub, insert-sub, empty_word}
use Rattle.masks.proofs.FoldLaws.{below_or_last, any_at, any_no, has_mask_below, mask_bound}

-- ---- a count

-- what a turn adds
abbrev digit : Bool → ℕ
digit b = cond b 1 0

count_turn : (f : ℕ → Bool) (n : ℕ) → count_below f (suc n) ≡ count_below f n + digit (f n)
unfolding count_below
count_turn f n = go (f n)
  where
    go : (b : Bool) → cond b (count_below f n + 1) (count_below f n) ≡ count_below f n + digit b
    go true = refl
    go false = sym (add-zero (count_below f n))

digit_le : (b : Bool) → digit b ≤ 1
digit_le true = omega arith
digit_le false = omega arith

digit_mono : (a b : Bool) → (a ≡ true → b ≡ true) → digit a ≤ digit b
digit_mono true b h = omega (arith, ap digit (h refl))
digit_mono false b h = omega arith

digit-either : (a b : Bool) → digit (a || b) + digit (a && b) ≡ digit a + digit b
digit-either true true = refl
digit-either true false = refl
digit-either false true = refl
digit-either false false = refl

digit_not : (b : Bool) → digit b + digit (not b) ≡ 1
digit_not true = refl
digit_not false = refl

zero-count : (f : ℕ → Bool) → count_below f 0 ≡ 0
unfolding count_below
zero-count f = refl

pub count_cong : (f g : ℕ → Bool) (n : ℕ) → ((i : ℕ) → i < n → f i ≡ g i) → count_below f n ≡ count_below g n
unfolding count_below
count_cong f g zero h = refl
count_cong f g (suc n) h =
    ap₂ (λ (b : Bool) (c : ℕ). cond b (c + 1) c) (h n (omega arith)) (count_cong f g n (λ i l. h i (omega arith)))

pub count_le : (f : ℕ → Bool) (n : ℕ) → count_below f n ≤ n
count_le f zero = omega (arith, zero-count f)
count_le f (suc n) = omega (arith, count_turn f n, count_le f n, digit_le (f n))

pub count_mono : (f g : ℕ → Bool) (n : ℕ) → ((i : ℕ) → i < n → f i ≡ true → g i ≡ true) → count_below f n ≤ count_below g n
count_mono f g zero h = omega (arith, zero-count f, zero-count g)
count_mono f g (suc n) h =
    omega (arith, count_turn f n, count_turn g n, count_mono f g n (λ i l. h i (omega arith)), digit_mono (f n) (g n) (h n (omega arith)))

-- of f and of g: as many together as apart
pub count-either : (f g : ℕ → Bool) (n : ℕ) → count_below (λ i. f i || g i) n + count_below (λ i. f i && g i) n ≡ count_below f n + count_below g n
count-either f g zero =
    omega (arith, zero-count f, zero-count g, zero-count (λ i. f i || g i), zero-count (λ i. f i && g i))
count-either f g (suc n) =
    omega (
      arith,
      count_turn f n,
      count_turn g n,
      count_turn (λ i. f i || g i) n,
      count_turn (λ i. f i && g i) n,
      count-either f g n,
      digit-either (f n) (g n),
    )

pub count_not : (f : ℕ → Bool) (n : ℕ) → count_below f n + count_below (λ i. not (f i)) n ≡ n
count_not f zero = omega (arith, zero-count f, zero-count (λ i. not (f i)))
count_not f (suc n) = omega (arith, count_turn f n, count_turn (λ i. not (f i)) n, count_not f n, digit_not (f n))

-- f of every number, and of none
pub count_yes : (f : ℕ → Bool) (n : ℕ) → ((i : ℕ) → i < n → f i ≡ true) → count_below f n ≡ n
count_yes f zero h = zero-count f
count_yes f (suc n) h =
    omega (arith, count_turn f n, count_yes f n (λ i l. h i (omega arith)), ap digit (h n (omega arith)))

pub count_no : (f : ℕ → Bool) (n : ℕ) → ((i : ℕ) → i < n → f i ≡ false) → count_below f n ≡ 0
count_no f zero h = zero-count f
count_no f (suc n) h =
    omega (arith, count_turn f n, count_no f n (λ i l. h i (omega arith)), ap digit (h n (omega arith)))

-- a count of two stretches
pub count-split : (f : ℕ → Bool) (n m : ℕ) → count_below f (n + m) ≡ count_below f n + count_below (λ i. f (n + i)) m
count-split f n zero = omega (arith, ap (count_below f) (add-zero n), zero-count (λ i. f (n + i)))
count-split f n (suc m) =
    let e : n + suc m ≡ suc (n + m) = omega arith in
    omega (
      arith,
      ap (count_below f) e,
      count_turn f (n + m),
      count_turn (λ i. f (n + i)) m,
      count-split f n m,
    )

pub count-pos : (f : ℕ → Bool) (n i : ℕ) → i < n → f i ≡ true → 0 < count_below f n
count-pos f zero i h e = absurd (omega (arith, h))
count-pos f (suc n) i h e =
    ⊎_elim
    (λ l. omega (arith, count_turn f n, count-pos f n i l e))
    (λ q. omega (arith, count_turn f n, ap digit (ap f (sym q) ∙ e)))
    (below_or_last i n h)

pub count-some : (f : ℕ → Bool) (n : ℕ) → 0 < count_below f n → (i : ℕ) × (i < n) × (f i ≡ true)
count-some f n h =
    ⊎_elim
    (any_at f n)
    (λ e. absurd (omega (arith, count_no f n (λ i l. any_no f n i e l))))
    (true_or_false (any_below f n))

pub count-zero : (f : ℕ → Bool) (n i : ℕ) → count_below f n ≡ 0 → i < n → f i ≡ false
count-zero f n i e h = not_true_false (f i) (λ p. omega (arith, count-pos f n i h p))

pub count-full : (f : ℕ → Bool) (n i : ℕ) → count_below f n ≡ n → i < n → f i ≡ true
count-full f n i e h = not_no (f i) (count-zero (λ j. not (f j)) n i (omega (arith, count_not f n)) h)

-- counts that are more than n together share a number
pub counts_meet : (f g : ℕ → Bool) (n : ℕ) → n < count_below f n + count_below g n → (i : ℕ) × (i < n) × (f i ≡ true) × (g i ≡ true)
counts_meet f g n h =
    let r = count-some (λ i. f i && g i) n (omega (arith, count-either f g n, count_le (λ i. f i || g i) n)) in
    (r.0, r.1, and_yes-l (f r.0) (g r.0) r.2, and_yes_r (f r.0) (g r.0) r.2)

-- one number is equal to u
pub count_one : (u n : ℕ) → u < n → count_below (eqb u) n ≡ 1
count_one u zero h = absurd (omega (arith, h))
count_one u (suc n) h =
    ⊎_elim
    (λ l. omega (arith, count_turn (eqb u) n, count_one u n l, ap digit (ne_eqb u n (λ e. omega arith))))
    (λ q. omega (arith, count_turn (eqb u) n, count_no (eqb u) n (λ i l. ne_eqb u i (λ e. omega arith)), ap digit (eq-eqb u n q)))
    (below_or_last u n h)

-- ---- the machine counts the digits that are 1

ones_of_digit : (d : ℕ) → d < 2 → ones d ≡ d
unfolding ones ones_in
ones_of_digit zero h = refl
ones_of_digit (suc zero) h = refl
ones_of_digit (suc (suc d)) h = absurd (omega (arith, h))

digit_of : (d : ℕ) → d < 2 → digit (eqb d 1) ≡ d
digit_of zero h = refl
digit_of (suc zero) h = refl
digit_of (suc (suc d)) h = absurd (omega (arith, h))

low_digits : (w n : ℕ) → w % 2 ^ suc n ≡ bit w n * 2 ^ n + w % 2 ^ n
unfolding bit
low_digits w n = ap (λ (k : ℕ). w % 2 ^ k) (sym (one-add n)) ∙ mod-pow-add w 1 n

-- of the numbers below n those in w are as many as the low n digits that are 1
count_ones : (w n : ℕ) → count_below (has w) n ≡ ones (w % 2 ^ n)
count_ones w zero = zero-count (has w) ∙ sym (ap ones (mod-one w) ∙ ones_of_digit 0 (lit< tt))
count_ones w (suc n) =
    omega (
      arith,
      count_turn (has w) n,
      digit_of (bit w n) (bit_lt w n),
      count_ones w n,
      ap ones (low_digits w n) ∙ ones_cat n (bit w n) (w % 2 ^ n) (mod-lt w (pow_pos n)),
      ones_of_digit (bit w n) (bit_lt w n),
    )

-- `u64::count_ones(w)` is the size
pub ones-size : (w : ℕ) → w < 2 ^ 64 → ones w ≡ size w
unfolding size
ones-size w h = sym (count_ones w 64 ∙ ap ones (mod-eq_of_lt h))

-- ---- the size of a set

pub size_le : (w : ℕ) → size w ≤ 64
unfolding size
size_le w = count_le (has w) 64

pub size_none : size none ≡ 0
unfolding size
size_none = count_no (has none) 64 (λ i l. has-none i)

pub size_one : (u : ℕ) → u < 64 → size (2 ^ u) ≡ 1
unfolding size
size_one u h = count_cong (has (2 ^ u)) (eqb u) 64 (λ i l. has_one u i) ∙ count_one u 64 h

pub size-union-both : (a b : ℕ) → size (union a b) + size (both a b) ≡ size a + size b
unfolding size
size-union-both a b =
    ap₂
    (λ (x y : ℕ). x + y)
    (count_cong (has (union a b)) (λ t. has a t || has b t) 64 (λ i l. has-union a b i))
    (count_cong (has (both a b)) (λ t. has a t && has b t) 64 (λ i l. has_both a b i))
    ∙ count-either (has a) (has b) 64

no_members : (w : ℕ) → ((t : ℕ) → In w t → ⊥) → size w ≡ 0
unfolding size
no_members w n = count_no (has w) 64 (λ i l. not_has (n i))

-- of two sets that share nothing
pub size_apart : (a b : ℕ) → ((t : ℕ) → In a t → In b t → ⊥) → size (union a b) ≡ size a + size b
size_apart a b n =
    omega (arith, size-union-both a b, no_members (both a b) (λ t i. n t (in_and_left a b i) (in_and_right a b i)))

-- with a new number
pub size-insert : (w t : ℕ) → t < 64 → (In w t → ⊥) → size (insert w t) ≡ size w + 1
unfolding insert
size-insert w t h n =
    unfold union in (size_apart w (2 ^ t) (λ u i j. n (subst (λ (x : ℕ). In w x) (in_one_eq t j) i)))
    ∙ ap (λ (x : ℕ). size w + x) (size_one t h)

pub size-pos : (w t : ℕ) → t < 64 → In w t → 0 < size w
unfolding size
size-pos w t h i = count-pos (has w) 64 t h (in_has i)

pub size-zero : (w : ℕ) → w < 2 ^ 64 → size w ≡ 0 → w ≡ none
size-zero w h e = empty_word 64 w h (λ t i. omega (arith, size-pos w t (in_lt 64 h i) i))

-- a part has at most as many, and fewer where the whole has more
pub part-size : (a b : ℕ) → Sub a b → size a ≤ size b
unfolding size
part-size a b s = count_mono (has a) (has b) 64 (λ t l e. in_has (s t (has_in e)))

pub part_fewer : (a b u : ℕ) → u < 64 → Sub a b → In b u → (In a u → ⊥) → size a < size b
part_fewer a b u h s i n = omega (arith, size-insert a u h n, part-size (insert a u) b (insert-sub a u b s i))

-- the set of those below n of which f holds has as many as are counted
pub size_mask : (f : ℕ → Bool) (n : ℕ) → n ≤ 64 → size (mask_of f n) ≡ count_below f n
unfolding size
size_mask f n h =
    let e : 64 ≡ n + (64 - n) = omega arith in
    ap (count_below (has (mask_of f n))) e
    ∙ count-split (has (mask_of f n)) n (64 - n)
    ∙ omega (
      arith,
      count_cong (has (mask_of f n)) f n (has_mask_below f n),
      count_no (λ i. has (mask_of f n) (n + i)) (64 - n) (λ i l. has-past n (mask_of f n) (n + i) (mask_bound f n) (omega arith)),
    )
