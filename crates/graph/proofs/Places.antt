-- A loop that puts f of each element in its place, from the front: what it has done after n turns.
-- Assumes nothing.
use mathlib.Core.Path.{◌≡◌, refl, ap}
use mathlib.Core.List.{List, [], ◌∷◌, map}
use Prim.Native.Nat.{ℕ, zero, suc, ◌≤◌}
use native.Mathlib.Nat.{not-suc-le-zero, le_of_suc-le-suc}
use lib.ListN.{length, get_or, set}

module _ (f : ℕ → ℕ) where
  -- the first n elements are done
  pub upto : ℕ → List ℕ → List ℕ
  upto zero xs = xs
  upto (suc n) [] = []
  upto (suc n) (x ∷ xs) = f x ∷ upto n xs

  pub upto-none : (xs : List ℕ) → upto 0 xs ≡ xs
  unfolding upto
  upto-none xs = refl

  pub upto-length : (n : ℕ) (xs : List ℕ) → length (upto n xs) ≡ length xs
  unfolding upto
  upto-length zero xs = refl
  upto-length (suc n) [] = refl
  upto-length (suc n) (x ∷ xs) = ap suc (upto-length n xs)

  -- the next element is as it was
  pub upto_next : (n : ℕ) (xs : List ℕ) → get_or (upto n xs) n 0 ≡ get_or xs n 0
  unfolding upto
  upto_next zero xs = refl
  upto_next (suc n) [] = refl
  upto_next (suc n) (x ∷ xs) = upto_next n xs

  pub upto-more : (n : ℕ) (xs : List ℕ) → set (upto n xs) n (f (get_or xs n 0)) ≡ upto (suc n) xs
  unfolding upto
  upto-more zero [] = refl
  upto-more zero (x ∷ xs) = refl
  upto-more (suc n) [] = refl
  upto-more (suc n) (x ∷ xs) = ap (◌∷◌ (f x)) (upto-more n xs)

  pub upto_all : (n : ℕ) (xs : List ℕ) → length xs ≤ n → upto n xs ≡ map f xs
  unfolding upto
  upto_all zero [] h = refl
  upto_all zero (x ∷ xs) h = absurd (not-suc-le-zero h)
  upto_all (suc n) [] h = refl
  upto_all (suc n) (x ∷ xs) h = ap (◌∷◌ (f x)) (upto_all n xs (le_of_suc-le-suc h))
