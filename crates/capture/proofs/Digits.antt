-- The decimal that the library prints is the decimal of a line. Assumes nothing.
use Rattle.std.proofs.Common.{◌≡◌, ℕ, zero, suc, false, ◌+◌, ◌/◌, ◌%◌, ◌^◌, ◌<◌, ◌≤◌, List, [], ◌∷◌, ◌++◌, sym, ◌∙◌, append_assoc, append-nil, arith, lt-ltb, le-ltb, eq-eqb, ne_eqb}
use native.Mathlib.Decide.{dec_le}
use Rattle.std.proofs.Math.Nat.{pow-suc}
use Rattle.std.specs.Fmt.{digits_onto}
use Rattle.std.specs.Fmt.{digits as printed}
use Rattle.std.specs.Fmt.{decimal as printed_decimal}
use Rattle.capture.specs.Text.{digits, decimal}

-- the digits of n before others, where there are at most k
pub digits_before : (j k n : ℕ) (more : List ℕ) → k ≤ j → 1 ≤ k → n < 10 ^ k → digits_onto j 10 false n more ≡ digits k n ++ more
unfolding digits
digits_before j zero n more a b h = absurd (omega (arith, b))
digits_before zero (suc k) n more a b h = absurd (omega (arith, a))
digits_before (suc j) (suc k) n more a b h = go (dec_le 10 n) (λ s q. digits_before j k (n / 10) ((48 + n % 10) ∷ more) (omega (arith, a)) s q)
  where
    some : (i : ℕ) → n < 10 ^ suc i → 10 ≤ n → 1 ≤ i
    some zero e l = absurd (omega (arith, e, l))
    some (suc i) e l = omega arith

    go : Dec (10 ≤ n) → (1 ≤ k → n / 10 < 10 ^ k → digits_onto j 10 false (n / 10) ((48 + n % 10) ∷ more) ≡ digits k (n / 10) ++ (48 + n % 10) ∷ more)
        → digits_onto (suc j) 10 false n more ≡ digits (suc k) n ++ more
    go (no l) tenth =
        let q : n / 10 ≡ 0 = omega (arith, l) in
        let r : n % 10 ≡ n = omega (arith, l) in
        rw (eq-eqb (n / 10) 0 q, lt-ltb n 10 (omega (arith, l)), r, lt-ltb n 10 (omega (arith, l)))
    go (yes l) tenth =
        rw (ne_eqb (n / 10) 0 (λ e. absurd (omega (arith, l, e))), le-ltb n 10 l, lt-ltb (n % 10) 10 (omega arith))
        (tenth (some k h l) (omega (arith, h, pow-suc 10 k)) ∙ sym (append_assoc (digits k (n / 10)) ((48 + n % 10) ∷ []) more))

pub decimal_is : (n : ℕ) → n < 2 ^ 64 → printed_decimal n ≡ decimal n
unfolding printed decimal
decimal_is n h = digits_before 64 20 n [] (omega arith) (omega arith) (omega arith) ∙ append-nil (digits 20 n)
