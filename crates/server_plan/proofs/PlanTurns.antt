-- One number more of a group, and one run more of a plan. Assumes nothing.
use Prim.Native.Nat.{ℕ, zero, suc, ◌+◌, ◌-◌, ◌<◌, ◌≤◌}
use mathlib.Core.Path.{◌≡◌, refl, sym, ap, ◌∙◌}
use mathlib.Core.List.{List}
use mathlib.Core.Bool.{Bool, true, false, not, ◌&&◌}
use native.Mathlib.Omega.{arith}
use borrow.Author.Tests.{eq-eqb, ne_eqb, lt-ltb, le-ltb}
use Rattle.masks.specs.Bits.{has, union, within}
use Rattle.masks.proofs.Bools.{and_no_l, and_no_r}
use Rattle.masks.proofs.Laws.{within_has}
use Rattle.masks.proofs.FoldLaws.{least_all_no}
use Rattle.masks.proofs.Turns.{over-with, over-without}
use Rattle.masks.specs.Folds.{any_below}
use Rattle.graph.specs.Walk.{missing, closed, awaited, ready, first_ready, group_at, next_group}
use Rattle.server.specs.declared.Log.{Log}
use Rattle.server.specs.Held.{append}
use Rattle.server_plan.specs.Planning.{noted, logged_of, planned_log}

module _ (l₀ : Log) (g u : ℕ) (l : Log) (so_far : l ≡ logged_of l₀ g u) where
  pub logged_more : has g u ≡ true → l.count < 64 → append l u ≡ logged_of l₀ g (u + 1)
  unfolding logged_of noted
  logged_more p q = let here : noted l u ≡ append l u = rw (lt-ltb _ _ q) in sym here ∙ ap (λ (x : Log). noted x u) so_far ∙ sym (over-with noted l₀ g u p)

  pub logged-full : has g u ≡ true → 64 ≤ l.count → l ≡ logged_of l₀ g (u + 1)
  unfolding logged_of noted
  logged-full p q = let here : noted l u ≡ l = rw (le-ltb _ _ q) in sym here ∙ ap (λ (x : Log). noted x u) so_far ∙ sym (over-with noted l₀ g u p)

  pub logged-same : has g u ≡ false → l ≡ logged_of l₀ g (u + 1)
  unfolding logged_of
  logged-same p = so_far ∙ sym (over-without noted l₀ g u p)

module _ (rows : List ℕ) (committed : ℕ) where
  unready : (ran : ℕ) → within committed ran ≡ true → (t : ℕ) (b : Bool) → has committed t ≡ b → ready rows committed ran t ≡ false
  unfolding ready closed
  unready ran h t true e = and_no_l (closed rows committed t && not (has ran t)) (not (any_below (awaited rows ran t) 64)) (and_no_r (closed rows committed t) (not (has ran t)) (ap not (within_has committed ran t h e)))
  unready ran h t false e =
      and_no_l (closed rows committed t && not (has ran t)) (not (any_below (awaited rows ran t) 64))
      (and_no_l (closed rows committed t) (not (has ran t)) (and_no_l (has committed t) (not (any_below (missing rows committed t) 64)) e))

  -- where all that is committed has run, nothing runs next
  pub covered_none : (ran : ℕ) → within committed ran ≡ true → next_group rows committed ran ≡ 0
  unfolding next_group first_ready group_at
  covered_none ran h = rw (least_all_no (ready rows committed ran) 64 (λ t l. unready ran h t (has committed t) refl))

  pub planned-none : (left ran : ℕ) (l : Log) → left ≡ 0 → planned_log rows committed left ran l ≡ l
  unfolding planned_log
  planned-none left ran l e = rw e

  pub planned-stop : (left ran g : ℕ) (l : Log) → g ≡ next_group rows committed ran → g ≡ 0 → planned_log rows committed left ran l ≡ l
  unfolding planned_log
  planned-stop zero ran g l e z = refl
  planned-stop (suc n) ran g l e z = rw (eq-eqb _ _ (sym e ∙ z))

  pub planned-more : (left ran g : ℕ) (l : Log) → 0 < left → g ≡ next_group rows committed ran → (g ≡ 0 → ⊥)
      → planned_log rows committed left ran l ≡ planned_log rows committed (left - 1) (union ran g) (logged_of l g 64)
  unfolding planned_log
  planned-more zero ran g l h e ne = absurd (omega (arith, h))
  planned-more (suc n) ran g l h e ne =
      let k : suc n - 1 ≡ n = omega arith in
      rw (ne_eqb _ _ (λ z. ne (e ∙ z)), k, ← e)
