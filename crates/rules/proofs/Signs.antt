-- A signed number's tests, by the bits that the machine compares. Assumes nothing.
use Prim.Native.Nat.{zero, suc, ◌-◌, ◌^◌}
use mathlib.Core.Path.{◌≡◌, refl, sym, ◌∙◌}
use native.Mathlib.Omega.{arith}
use native.Mathlib.Decide.{ℕ_discrete}
use lib.Dec.{eqb}
use lib.IntN.{ℤ, pos, negsuc}
use mir.Syntax.{w32}
use mir.Val.{SFits, of_z}
use borrow.Author.Tests.{eq-eqb, ne_eqb}
use Rattle.rules.specs.Pieces.{is_zero, same_int}

pub zero_bits : (z : ℤ) → SFits w32 z → eqb (of_z w32 z) 0 ≡ is_zero z
unfolding is_zero
zero_bits (pos zero) h = refl
zero_bits (pos (suc n)) h = ne_eqb (suc n) 0 (λ e. omega arith)
zero_bits (negsuc n) h = ne_eqb (2 ^ 32 - suc n) 0 (λ e. omega arith)

-- two signed numbers are equal when their bits are
pub same_bits : (x y : ℤ) → SFits w32 x → SFits w32 y → eqb (of_z w32 x) (of_z w32 y) ≡ same_int x y
unfolding same_int
same_bits (pos m) (pos n) h k = refl
same_bits (pos m) (negsuc n) h k = ne_eqb m (2 ^ 32 - suc n) (λ e. omega arith)
same_bits (negsuc m) (pos n) h k = ne_eqb (2 ^ 32 - suc m) n (λ e. omega arith)
same_bits (negsuc m) (negsuc n) h k = dec (ℕ_discrete m n)
  where
    dec : Dec (m ≡ n) → eqb (2 ^ 32 - suc m) (2 ^ 32 - suc n) ≡ eqb m n
    dec (yes e) = eq-eqb (2 ^ 32 - suc m) (2 ^ 32 - suc n) (omega arith) ∙ sym (eq-eqb m n e)
    dec (no ne) = ne_eqb (2 ^ 32 - suc m) (2 ^ 32 - suc n) (λ e. ne (omega arith)) ∙ sym (ne_eqb m n ne)
