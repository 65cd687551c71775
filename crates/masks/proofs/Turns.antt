-- A loop's start and its next turn, for each of the folds: what its invariant asks at 0 and at the code's n + 1.
-- Assumes nothing.
use Prim.Native.Nat.{ℕ, ◌+◌}
use mathlib.Core.Path.{◌≡◌, refl, sym, ap, ◌∙◌}
use mathlib.Core.Bool.{Bool, true, false, cond, ◌&&◌, ◌||◌}
use mathlib.Core.List.{[], ◌∷◌, ◌++◌}
use native.Mathlib.Numerals.{add-one}
use lib.Dec.{ltb}
use Rattle.masks.specs.Bits.{has, insert, union}
use Rattle.masks.specs.Folds.{all_below, any_below, count_below, mask_of, union_of, least, tab, iter, over}

module _ (f : ℕ → Bool) where
  pub all_none : true ≡ all_below f 0
  unfolding all_below
  all_none = refl

  pub all-step : (n : ℕ) → all_below f (n + 1) ≡ (all_below f n && f n)
  unfolding all_below
  all-step n = rw add-one

  pub any_none : false ≡ any_below f 0
  unfolding any_below
  any_none = refl

  pub any_step : (n : ℕ) → any_below f (n + 1) ≡ (any_below f n || f n)
  unfolding any_below
  any_step n = rw add-one

  pub count_none : 0 ≡ count_below f 0
  unfolding count_below
  count_none = refl

  pub count-step : (n : ℕ) → count_below f (n + 1) ≡ cond (f n) (count_below f n + 1) (count_below f n)
  unfolding count_below
  count-step n = ap (count_below f) (add-one n)

  pub mask-none : 0 ≡ mask_of f 0
  unfolding mask_of
  mask-none = refl

  pub mask_step : (n : ℕ) → mask_of f (n + 1) ≡ cond (f n) (insert (mask_of f n) n) (mask_of f n)
  unfolding mask_of
  mask_step n = ap (mask_of f) (add-one n)

  pub least-none : 0 ≡ least f 0
  unfolding least
  least-none = refl

  pub least_step : (n : ℕ) → least f (n + 1) ≡ cond (ltb (least f n) n) (least f n) (cond (f n) n (n + 1))
  unfolding least
  least_step n = ap (least f) (add-one n) ∙ ap (λ (x : ℕ). cond (ltb (least f n) n) (least f n) (cond (f n) n x)) (sym (add-one n))

module _ (f : ℕ → ℕ) where
  pub unions-none : 0 ≡ union_of f 0
  unfolding union_of
  unions-none = refl

  pub unions-step : (n : ℕ) → union_of f (n + 1) ≡ union (union_of f n) (f n)
  unfolding union_of
  unions-step n = ap (union_of f) (add-one n)

module _ {A : Type 0} (f : ℕ → A) where
  pub tab-none : [] ≡ tab f 0
  unfolding tab
  tab-none = refl

  pub tab-step : (n : ℕ) → tab f (n + 1) ≡ tab f n ++ (f n ∷ [])
  unfolding tab
  tab-step n = ap (tab f) (add-one n)

module _ {A : Type 0} (f : ℕ → A → A) (a : A) where
  pub iter-none : a ≡ iter f a 0
  unfolding iter
  iter-none = refl

  pub iter-step : (n : ℕ) → iter f a (n + 1) ≡ f n (iter f a n)
  unfolding iter
  iter-step n = ap (iter f a) (add-one n)

module _ {A : Type 0} (f : A → ℕ → A) (a : A) (w : ℕ) where
  pub over_none : a ≡ over f a w 0
  unfolding over
  over_none = refl

  pub over-step : (n : ℕ) → over f a w (n + 1) ≡ cond (has w n) (f (over f a w n) n) (over f a w n)
  unfolding over
  over-step n = ap (over f a w) (add-one n)

  -- the same where it is known whether n is in w
  pub over-with : (n : ℕ) → has w n ≡ true → over f a w (n + 1) ≡ f (over f a w n) n
  over-with n e = over-step n ∙ ap (λ (b : Bool). cond b (f (over f a w n) n) (over f a w n)) e

  pub over-without : (n : ℕ) → has w n ≡ false → over f a w (n + 1) ≡ over f a w n
  over-without n e = over-step n ∙ ap (λ (b : Bool). cond b (f (over f a w n) n) (over f a w n)) e
