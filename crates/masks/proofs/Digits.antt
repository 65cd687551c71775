-- The binary digits of a word, once over the position: what the machine's or, and, not and shifts do to each. Assumes nothing.
use mathlib.Core.Path.{◌≡◌, sym, ap, ◌∙◌}
use Prim.Native.Nat.{ℕ, zero, suc, ◌+◌, ◌-◌, ◌*◌, ◌/◌, ◌%◌, ◌^◌, ◌≤◌, ◌<◌, min, max}
use native.Mathlib.Nat.{mod-lt, zero-lt-suc, le_refl, lt_of_lt_of_le, div_self, div-eq_of_lt, div-one, one-mul}
use native.Mathlib.Decide.{dec_lt}
use native.Mathlib.Numerals.{one-add}
use native.Mathlib.Omega.{arith}
use lib.Dec.{lit<}
use lib.Arith.{digits_mod}
use lib.Pow.{pow_pos, shl-shr, shl_exact, pow_mono, shr_le, pow-lt, shr-shr, pow-add}
use lib.Bits.{bit_and, bit_or, and_step, or_step, and_shr, or_shr, and_mask}
use Rattle.masks.specs.Bits.{bit}

pub bit_lt : (w t : ℕ) → bit w t < 2
unfolding bit
bit_lt w t = mod-lt (w / 2 ^ t) (zero-lt-suc 1)

-- `(w >> t) & 1` is the digit
pub shifted : (w t : ℕ) → bit_and (w / 2 ^ t) 1 ≡ bit w t
unfolding bit
shifted w t = and_mask (w / 2 ^ t) 1

-- `1 << t` is the word of t
pub one_shifted : (t : ℕ) → t < 64 → 1 * 2 ^ t % 2 ^ 64 ≡ 2 ^ t
one_shifted t h = shl_exact 1 t 64 (lit< tt) (omega arith) ∙ one-mul (2 ^ t)

max_lt2 : (a b : ℕ) → a < 2 → b < 2 → max a b < 2
max_lt2 a b ha hb = omega arith

min_lt2 : (a b : ℕ) → a < 2 → b < 2 → min a b < 2
min_lt2 a b ha hb = omega arith

or_low : (a b : ℕ) → bit_or a b % 2 ≡ max (a % 2) (b % 2)
or_low a b =
    ap (λ (x : ℕ). x % 2) (or_step a b)
    ∙ digits_mod (bit_or (a / 2) (b / 2)) (max_lt2 (a % 2) (b % 2) (mod-lt a (zero-lt-suc 1)) (mod-lt b (zero-lt-suc 1)))

and_low : (a b : ℕ) → bit_and a b % 2 ≡ min (a % 2) (b % 2)
and_low a b =
    ap (λ (x : ℕ). x % 2) (and_step a b)
    ∙ digits_mod (bit_and (a / 2) (b / 2)) (min_lt2 (a % 2) (b % 2) (mod-lt a (zero-lt-suc 1)) (mod-lt b (zero-lt-suc 1)))

pub bit_or_lem : (a b t : ℕ) → bit (bit_or a b) t ≡ max (bit a t) (bit b t)
unfolding bit
bit_or_lem a b t = ap (λ (x : ℕ). x % 2) (or_shr a b t) ∙ or_low (a / 2 ^ t) (b / 2 ^ t)

pub bit_and_lem : (a b t : ℕ) → bit (bit_and a b) t ≡ min (bit a t) (bit b t)
unfolding bit
bit_and_lem a b t = ap (λ (x : ℕ). x % 2) (and_shr a b t) ∙ and_low (a / 2 ^ t) (b / 2 ^ t)

bit_of_zero : (w t : ℕ) → w / 2 ^ t ≡ 0 → bit w t ≡ 0
unfolding bit
bit_of_zero w t e = ap (λ (x : ℕ). x % 2) e

pub bit-zero : (t : ℕ) → bit 0 t ≡ 0
bit-zero t = let b : 0 / 2 ^ t ≤ 0 = shr_le 0 t in bit_of_zero 0 t (omega arith)

-- a digit past the width is 0
pub bit_past : (k w t : ℕ) → w < 2 ^ k → k ≤ t → bit w t ≡ 0
bit_past k w t h g = bit_of_zero w t (div-eq_of_lt (lt_of_lt_of_le h (pow_mono g)))

-- the lowest digit, and the others as those of the half
pub bit_low : (w : ℕ) → bit w 0 ≡ w % 2
unfolding bit
bit_low w = ap (λ (x : ℕ). x % 2) (div-one w)

pub bit-half : (w t : ℕ) → bit w (suc t) ≡ bit (w / 2) t
unfolding bit
bit-half w t = ap (λ (x : ℕ). x % 2) (ap (λ (x : ℕ). w / 2 ^ x) (sym (one-add t)) ∙ sym (shr-shr w 1 t))

pub half_lt_pow : {a : ℕ} (k : ℕ) → a < 2 ^ suc k → a / 2 < 2 ^ k
half_lt_pow {a} k h = omega (arith, h)

-- the word of one number
pub bit_pow_same : (k : ℕ) → bit (2 ^ k) k ≡ 1
unfolding bit
bit_pow_same k = ap (λ (x : ℕ). x % 2) (div_self (pow_pos k))

even : (j : ℕ) → 2 ^ suc j % 2 ≡ 0
even j = omega arith

bit_pow_below : (j t : ℕ) → bit (2 ^ (suc j + t)) t ≡ 0
unfolding bit
bit_pow_below j t =
    ap (λ (x : ℕ). x / 2 ^ t % 2) (pow-add 2 (suc j) t) ∙ ap (λ (x : ℕ). x % 2) (shl-shr (2 ^ suc j) t) ∙ even j

pub bit_pow_other : (k t : ℕ) → (t ≡ k → ⊥) → bit (2 ^ k) t ≡ 0
bit_pow_other k t h = go (dec_lt t k)
  where
    go : Dec (t < k) → bit (2 ^ k) t ≡ 0
    go (yes p) = ap (λ (x : ℕ). bit (2 ^ x) t) (omega arith) ∙ bit_pow_below (k - suc t) t
    go (no p) = bit_past t (2 ^ k) t (pow-lt (omega (arith, h))) (le_refl t)

-- `!w` turns each digit round
half_not : (k w : ℕ) → w < 2 ^ suc k → (2 ^ suc k - 1 - w) / 2 ≡ 2 ^ k - 1 - w / 2
half_not k w h = omega (arith, pow_pos k)

low_not : (k w : ℕ) → w < 2 ^ suc k → (2 ^ suc k - 1 - w) % 2 ≡ 1 - w % 2
low_not k w h = omega (arith, pow_pos k)

pub bit_not : (k w t : ℕ) → w < 2 ^ k → t < k → bit (2 ^ k - 1 - w) t ≡ 1 - bit w t
bit_not zero w t h l = absurd (omega (arith, l))
bit_not (suc k) w zero h l = bit_low (2 ^ suc k - 1 - w) ∙ low_not k w h ∙ ap (λ (x : ℕ). 1 - x) (sym (bit_low w))
bit_not (suc k) w (suc t) h l =
    bit-half (2 ^ suc k - 1 - w) t ∙ ap (λ (x : ℕ). bit x t) (half_not k w h)
    ∙ bit_not k (w / 2) t (half_lt_pow k h) (omega (arith, l)) ∙ ap (λ (x : ℕ). 1 - x) (sym (bit-half w t))
