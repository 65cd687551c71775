-- What the search and the group ask of all numbers at once, by whole words.
-- Assumes nothing.
use mathlib.Core.Path.{◌≡◌, refl, sym, ap, ap₂, ◌∙◌}
use mathlib.Core.Bool.{Bool, true, false, cond, not, ◌&&◌, ◌||◌}
use mathlib.Core.List.{List}
use Prim.Native.Nat.{ℕ, ◌^◌, ◌≤◌, ◌<◌}
use native.Mathlib.Decide.{ℕ_discrete}
use native.Mathlib.Omega.{arith}
use borrow.Author.Tests.{eq-eqb, ne_eqb, eqb-true}
use lib.Dec.{eqb}
use lib.ListN.{get_or}
use Rattle.masks.specs.Bits.{has, none, insert, both, without}
use Rattle.masks.specs.Folds.{any_below, mask_of}
use Rattle.masks.proofs.Laws.{has-none, has-insert, has_both, has-without, same_word, insert_lt, both_lt}
use Rattle.masks.proofs.Turns.{any_none}
use Rattle.masks.proofs.FoldLaws.{no_any, has_mask_below, mask_bound}
use Rattle.graph.specs.Walk.{before, awaited, joins, group}

-- ---- the walk behind t starts past the last number, where nothing before t is left to run

module _ (rows : List ℕ) (ran t : ℕ) (small : ran < 2 ^ 64) where
  none-awaited : without (get_or rows t 0) ran ≡ none → (u : ℕ) → u < 64 → awaited rows ran t u ≡ false
  unfolding awaited before
  none-awaited e u l =
      flags (has (get_or rows t 0) u) (has (get_or rows u 0) t) (has ran u)
      (sym (has-without (get_or rows t 0) ran u small l) ∙ ap (λ (w : ℕ). has w u) e ∙ has-none u)
    where
      flags : (a b c : Bool) → (a && not c) ≡ false → (a && not b && not c) ≡ false
      flags true true c p = refl
      flags true false c p = p
      flags false b c p = refl

  pub walk-starts : (left : ℕ) → left ≡ without (get_or rows t 0) ran → (u : ℕ) → u ≡ cond (eqb left none) 64 0 → (u ≤ 64) × (any_below (awaited rows ran t) u ≡ false)
  walk-starts left p u q = go (eqb left none) refl q
    where
      go : (b : Bool) → eqb left none ≡ b → u ≡ cond b 64 0 → (u ≤ 64) × (any_below (awaited rows ran t) u ≡ false)
      go true e z = (omega (arith, z), rw z (no_any (awaited rows ran t) 64 (none-awaited (sym p ∙ eqb-true left none e))))
      go false e z = (omega (arith, z), rw z (sym (any_none (awaited rows ran t))))

-- ---- the group: what is before t and after it both, and t

eqb-sym : (a b : ℕ) → eqb a b ≡ eqb b a
eqb-sym a b = go (ℕ_discrete a b)
  where
    go : Dec (a ≡ b) → eqb a b ≡ eqb b a
    go (yes e) = eq-eqb a b e ∙ sym (eq-eqb b a (sym e))
    go (no n) = ne_eqb a b n ∙ sym (ne_eqb b a (λ e. n (sym e)))

pub group-word : (rows : List ℕ) (t : ℕ) → get_or rows t 0 < 2 ^ 64 → t < 64 → insert (both (get_or rows t 0) (mask_of (before rows t) 64)) t ≡ group rows t
unfolding group joins before
group-word rows t w l =
    same_word 64 _ _ (insert_lt 64 _ t (both_lt 64 (get_or rows t 0) _ w) l) (mask_bound (joins rows t) 64) (λ u h. one u h ∙ sym (has_mask_below (joins rows t) 64 u h))
  where
    flip : (a b : Bool) → (a || b) ≡ (b || a)
    flip true true = refl
    flip true false = refl
    flip false true = refl
    flip false false = refl

    one : (u : ℕ) → u < 64 → has (insert (both (get_or rows t 0) (mask_of (before rows t) 64)) t) u ≡ joins rows t u
    one u h = has-insert _ t u ∙ ap₂ ◌||◌ (has_both (get_or rows t 0) _ u ∙ ap (λ (b : Bool). has (get_or rows t 0) u && b) (has_mask_below (before rows t) 64 u h)) (eqb-sym t u) ∙ flip (has (get_or rows t 0) u && has (get_or rows u 0) t) (eqb u t)
