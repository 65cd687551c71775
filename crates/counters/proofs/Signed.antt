-- Sums of signed 32-bit numbers, made in 64 bits: what the code holds for a number, for it widened and for the sum is the number itself.
-- Assumes nothing.
use Prim.Native.Nat.{ℕ, suc, ◌+◌, ◌<◌, ◌≤◌}
use mathlib.Core.Path.{◌≡◌, ap, ap₂, ◌∙◌}
use mathlib.Core.Bool.{false}
use native.Mathlib.Omega.{arith}
use native.Mathlib.Decide.{dec_lt}
use lib.Dec.{ltb}
use lib.IntN.{ℤ, pos, negsuc, ◌+ℤ◌, sub_ℕ}
use lib.Signed.{mag}
use mir.Syntax.{w32, w64}
use mir.Val.{SFits, of_z, to_z}
use mir.Facts.{to_z-of_z, sfits_widen}
use borrow.Author.Tests.{lt-ltb, le-ltb, ltb-false}
use Rattle.masks.proofs.Bools.{or_no_l}
use Rattle.counters.specs.Effects.{leaves}

sub-mag : (a b : ℕ) → mag (sub_ℕ a b) ≤ a + b
sub-mag a b = go (dec_lt a b)
  where
    go : Dec (a < b) → mag (sub_ℕ a b) ≤ a + b
    go (yes l) = rw (lt-ltb a b l) (omega arith)
    go (no g) = rw (le-ltb a b (omega arith)) (omega arith)

sum_mag : (a b : ℤ) → mag (a +ℤ b) ≤ suc (mag a + mag b)
sum_mag (pos a) (pos b) = omega arith
sum_mag (pos a) (negsuc b) = let h = sub-mag a (suc b) in omega arith
sum_mag (negsuc a) (pos b) = let h = sub-mag b (suc a) in omega arith
sum_mag (negsuc a) (negsuc b) = omega arith

pub sum_fits : (a b : ℤ) → SFits w32 a → SFits w32 b → SFits w64 (a +ℤ b)
sum_fits a b h k = let s = sum_mag a b in omega arith

-- a number that does not leave the range fits
pub in_range : (z : ℤ) → leaves z ≡ false → SFits w32 z
unfolding leaves
in_range (pos n) e = let h = ltb-false 2147483647 n e in omega arith
in_range (negsuc n) e = let h = ltb-false 2147483647 n (or_no_l (ltb 2147483647 n) false e) in omega arith

-- what the code holds for a, for a widened, and for the sum
pub back : (a : ℤ) → SFits w32 a → to_z w32 (of_z w32 a) ≡ a
back a h = to_z-of_z h

pub wide : (a : ℤ) → SFits w32 a → to_z w64 (of_z w64 (to_z w32 (of_z w32 a))) ≡ a
wide a h = ap (λ (z : ℤ). to_z w64 (of_z w64 z)) (back a h) ∙ to_z-of_z {w = w64} (sfits_widen {w = w32} {w' = w64} (tt {0}) h)

pub summed : (a b : ℤ) → SFits w32 a → SFits w32 b
    → to_z w64 (of_z w64 (to_z w64 (of_z w64 (to_z w32 (of_z w32 a))) +ℤ to_z w64 (of_z w64 (to_z w32 (of_z w32 b))))) ≡ a +ℤ b
summed a b h k =
    ap₂ (λ (x y : ℤ). to_z w64 (of_z w64 (x +ℤ y))) (wide a h) (wide b k) ∙ to_z-of_z (sum_fits a b h k)
