-- Whether a number is ready, by its row as one word and by what it waits for.
-- Assumes nothing.
use mathlib.Core.Path.{◌≡◌, refl, sym, ap, ◌∙◌}
use mathlib.Core.Bool.{Bool, true, false, not, ◌&&◌}
use mathlib.Core.List.{List}
use Prim.Native.Nat.{ℕ, ◌<◌, ◌^◌}
use lib.ListN.{get_or}
use Rattle.masks.specs.Bits.{has, within}
use Rattle.masks.specs.Folds.{any_below}
use Rattle.masks.proofs.Bools.{and_yes, and_no_l, and_no_r, not_yes, bool_ext, true_and_false}
use Rattle.masks.proofs.Laws.{within_has, has_within}
use Rattle.masks.proofs.FoldLaws.{any_no, no_any}
use Rattle.graph.specs.Walk.{before, missing, closed, awaited, ready}

module _ (rows : List ℕ) (committed t : ℕ) where
  -- u is before t and committed, or isn't before it
  missing-none : (u : ℕ) → missing rows committed t u ≡ false → has (get_or rows t 0) u ≡ true → has committed u ≡ true
  unfolding missing before
  missing-none u e h = flags (has (get_or rows t 0) u) (has committed u) e h
    where
      flags : (a b : Bool) → (a && not b) ≡ false → a ≡ true → b ≡ true
      flags true true e h = refl
      flags true false e h = sym e
      flags false b e h = absurd (true_and_false h refl)

  none-missing : (u : ℕ) → (has (get_or rows t 0) u ≡ true → has committed u ≡ true) → missing rows committed t u ≡ false
  unfolding missing before
  none-missing u h = flags (has (get_or rows t 0) u) (has committed u) h
    where
      flags : (a b : Bool) → (a ≡ true → b ≡ true) → (a && not b) ≡ false
      flags true b h = ap not (h refl)
      flags false b h = refl

  -- all that is before t is committed, as one test of words
  pub row_within : get_or rows t 0 < 2 ^ 64 → within (get_or rows t 0) committed ≡ not (any_below (missing rows committed t) 64)
  row_within w = bool_ext (within (get_or rows t 0) committed) (not (any_below (missing rows committed t) 64))
      (λ e. ap not (no_any (missing rows committed t) 64 (λ u h. none-missing u (within_has (get_or rows t 0) committed u e))))
      (λ e. has_within 64 (get_or rows t 0) committed w (λ u h. missing-none u (any_no (missing rows committed t) 64 u (not_yes _ e) h)))

  pub closed-word : get_or rows t 0 < 2 ^ 64 → closed rows committed t ≡ (has committed t && within (get_or rows t 0) committed)
  unfolding closed
  closed-word w = ap (λ (b : Bool). has committed t && b) (sym (row_within w))

  module _ (ran : ℕ) (w : get_or rows t 0 < 2 ^ 64) where
    -- closed and not run, and nothing that it waits for
    pub ready-word : ready rows committed ran t
        ≡ ((has committed t && within (get_or rows t 0) committed && not (has ran t)) && not (any_below (awaited rows ran t) 64))
    unfolding ready
    ready-word = ap (λ (b : Bool). (b && not (has ran t)) && not (any_below (awaited rows ran t) 64)) (closed-word w)

    pub not-waiting : (has committed t && within (get_or rows t 0) committed && not (has ran t)) ≡ false → ready rows committed ran t ≡ false
    not-waiting e = ready-word ∙ and_no_l _ (not (any_below (awaited rows ran t) 64)) e

    pub still-awaiting : any_below (awaited rows ran t) 64 ≡ true → ready rows committed ran t ≡ false
    still-awaiting e = ready-word ∙ and_no_r (has committed t && within (get_or rows t 0) committed && not (has ran t)) _ (ap not e)

    pub nothing-awaited : (has committed t && within (get_or rows t 0) committed && not (has ran t)) ≡ true
        → any_below (awaited rows ran t) 64 ≡ false → ready rows committed ran t ≡ true
    nothing-awaited e f = ready-word ∙ and_yes _ _ e (ap not f)
