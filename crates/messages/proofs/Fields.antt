-- The fields of a message, by its code: for each field the codes that have it, as the code of `shape_of` tests them, are the table by code.
-- Assumes nothing.
use mathlib.Core.Path.{◌≡◌, refl, sym, ◌∙◌, subst}
use mathlib.Core.Bool.{false, not, ◌&&◌, ◌||◌}
use Prim.Native.Nat.{ℕ, zero, suc, ◌≤◌, ◌<◌}
use native.Mathlib.Decide.{ℕ_discrete, dec_lt}
use native.Mathlib.Omega.{arith}
use borrow.Author.Tests.{ne_eqb, le-leb, lt-leb}
use lib.Dec.{eqb, leb, lit<}
use Rattle.wire.specs.declared.Shape.{Shape}
use Rattle.wire.specs.Codes.{shape_of, unknown}

-- a law of each number below n
unfoldable pub Each : (ℕ → Type 0) → ℕ → Type 0
Each P zero = Unit
Each P (suc n) = Each P n × P n

each : (P : ℕ → Type 0) (n k : ℕ) → Each P n → k < n → P k
unfolding Each
each P zero k e h = absurd (omega (arith, h))
each P (suc n) k e h = go (ℕ_discrete k n) (λ (p : k ≡ n → ⊥). each P n k e.0 (omega (arith, h, p)))
  where
    go : Dec (k ≡ n) → ((k ≡ n → ⊥) → P k) → P k
    go (yes p) f = subst P (sym p) e.1
    go (no p) f = f p

-- above all codes
module _ (k : ℕ) (h : 24 ≤ k) where
  pub other : (a : ℕ) → a < 24 → eqb k a ≡ false
  other a l = ne_eqb k a (λ e. omega (arith, h, l, e))

  above : shape_of k ≡ unknown
  unfolding shape_of
  above =
      rw (
        other 0 (lit< tt),
        other 1 (lit< tt),
        other 2 (lit< tt),
        other 3 (lit< tt),
        other 4 (lit< tt),
        other 5 (lit< tt),
        other 16 (lit< tt),
        other 17 (lit< tt),
        other 18 (lit< tt),
        other 19 (lit< tt),
        other 20 (lit< tt),
        other 21 (lit< tt),
        other 22 (lit< tt),
        other 23 (lit< tt),
      )

-- what says the table's shape of each code, and of no other number, is the table
pub table : (f : ℕ → Shape) → Each (λ (a : ℕ). f a ≡ shape_of a) 24 → ((k : ℕ) → 24 ≤ k → f k ≡ unknown) → (k : ℕ) → f k ≡ shape_of k
table f below rest k = go (dec_lt k 24)
  where
    go : Dec (k < 24) → f k ≡ shape_of k
    go (yes p) = each (λ (a : ℕ). f a ≡ shape_of a) 24 k below p
    go (no p) = let h : 24 ≤ k = omega (arith, p) in rest k h ∙ sym (above k h)

abbrev fields : ℕ → Shape
fields k = record {
  known = leb k 5 || (leb 16 k && leb k 23);
  server = (leb 16 k && leb k 23) && not (eqb k 20);
  ballot = (((((eqb k 0 || eqb k 1) || eqb k 3) || eqb k 16) || eqb k 17) || eqb k 19) || eqb k 21;
  promise = eqb k 21;
  ran = eqb k 18;
  pieces = ((eqb k 0 || eqb k 1) || eqb k 3) || (eqb k 2 || eqb k 20);
  set = eqb k 1 || (eqb k 2 || eqb k 20);
  word = eqb k 16;
  prepared = eqb k 19;
  values = eqb k 23;
}

pub fields_shape : (k : ℕ) → fields k ≡ shape_of k
unfolding Each shape_of
fields_shape =
    table fields
    ((((((((((((((((((((((((tt, refl), refl), refl), refl), refl), refl), refl), refl), refl), refl), refl), refl), refl), refl), refl), refl), refl), refl), refl), refl), refl), refl), refl), refl)
    (λ k h. rw (
      lt-leb k 5 (omega (arith, h)),
      lt-leb k 23 (omega (arith, h)),
      le-leb 16 k (omega (arith, h)),
      other k h 0 (lit< tt),
      other k h 1 (lit< tt),
      other k h 2 (lit< tt),
      other k h 3 (lit< tt),
      other k h 16 (lit< tt),
      other k h 17 (lit< tt),
      other k h 18 (lit< tt),
      other k h 19 (lit< tt),
      other k h 20 (lit< tt),
      other k h 21 (lit< tt),
      other k h 23 (lit< tt),
    ))
