-- An array filled from the front by a loop: the row of f so far, then what stood there. Assumes nothing.
use mathlib.Core.Path.{◌≡◌, refl, sym, ap, ◌∙◌}
use mathlib.Core.List.{List, ◌++◌, append-nil}
use Prim.Native.Nat.{ℕ, suc, ◌+◌, ◌≤◌, ◌<◌}
use native.Mathlib.Numerals.{add-one}
use lib.ListN.{length, get_or, set, drop, drop_of_length-le}
use lib.Seq.{drop-cons, set_at, append_snoc}
use Rattle.masks.specs.Folds.{tab}
use Rattle.masks.proofs.Turns.{tab-step}
use Rattle.masks.proofs.FoldLaws.{length-tab}

module _ {A : Type 0} (f : ℕ → A) (xs : List A) where
  pub fill_none : xs ≡ tab f 0 ++ drop 0 xs
  unfolding tab
  fill_none = refl

  -- the store at n makes the row one longer
  pub fill_step : (n : ℕ) → n < length xs → set (tab f n ++ drop n xs) n (f n) ≡ tab f (n + 1) ++ drop (n + 1) xs
  fill_step n h =
      ap (λ (l : List A). set (tab f n ++ l) n (f n)) (drop-cons xs n (f n) h)
      ∙ set_at (tab f n) (get_or xs n (f n)) (drop (suc n) xs) (f n) n (length-tab f n)
      ∙ sym (append_snoc (tab f n) (f n) (drop (suc n) xs))
      ∙ ap (λ (l : List A). l ++ drop (suc n) xs) (sym (tab-step f n))
      ∙ ap (λ (k : ℕ). tab f (n + 1) ++ drop k xs) (sym (add-one n))

  pub fill-all : (n : ℕ) → length xs ≤ n → tab f n ++ drop n xs ≡ tab f n
  fill-all n h = ap (λ (l : List A). tab f n ++ l) (drop_of_length-le xs h) ∙ append-nil (tab f n)
