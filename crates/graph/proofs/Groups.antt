-- The group of a number: it and all that are before it and after it both. None of a ready number's group has run, and a run of it leaves a log that is
-- committed and has with each number all before it.
-- Assumes nothing.
use mathlib.Core.Path.{◌≡◌, refl, sym, ◌∙◌, subst}
use mathlib.Core.Logic.{◌⊎◌, inl, inr, ⊎_elim}
use mathlib.Core.Bool.{◌&&◌, ◌||◌}
use mathlib.Core.List.{List}
use Prim.Native.Nat.{ℕ, ◌^◌, ◌<◌}
use borrow.Author.Tests.{eqb-true, eq-eqb}
use lib.Dec.{eqb, ltb}
use lib.ListN.{get_or}
use Rattle.masks.specs.Bits.{In, union}
use Rattle.masks.proofs.Bools.{and_yes, and_yes-l, and_yes_r, or_yes, or_yes-l, or_yes_r}
use Rattle.masks.proofs.Laws.{in_or_left, in_or_right, in_or_cases, has_in, in_has, same}
use Rattle.masks.proofs.FoldLaws.{has_mask, has_mask_below, mask_bound}
use Rattle.graph.specs.Before.{Before, Closed, Ready}
use Rattle.graph.specs.Walk.{rows_of, before, joins, group}
use Rattle.graph.proofs.Rows.{Words, trans, before_is, is_before, before_dec, before_lt}
use Rattle.graph.proofs.Commits.{Grown, closed-behind, still_before, was-before, direct-behind}

-- what ran is committed, and all before it ran too
pub record Kept (deps : List ℕ) (committed ran : ℕ) : Type 0 where
  pub here : (t : ℕ) → In ran t → In committed t
  pub behind : (t u : ℕ) → In ran t → Before deps u t → In ran u

-- it is enough that with each number its direct words ran
pub kept_direct : {deps : List ℕ} {committed ran : ℕ} → ((t : ℕ) → In ran t → In committed t)
    → ((t u : ℕ) → In ran t → In (get_or deps t 0) u → In ran u) → Kept deps committed ran
kept_direct {deps} {ran = ran} h d = record { here = h; behind = λ t u i b. direct-behind deps ran d b i }

-- what ran is closed
pub kept_closed : {deps : List ℕ} {committed ran : ℕ} → Kept deps committed ran → (t : ℕ) → In ran t → Closed deps committed t
kept_closed k t i = record { self = k.here t i; all = λ u b. k.here u (k.behind t u i b) }

-- more commits leave it so
pub kept_grown : {deps deps' : List ℕ} {committed committed' ran : ℕ} → Grown deps deps' committed committed' → Kept deps committed ran → Kept deps' committed' ran
kept_grown g k = record { here = λ t i. g.more t (k.here t i); behind = λ t u i b. k.behind t u i (was-before g (kept_closed k t i) b) }

pub group_lt : (rows : List ℕ) (t : ℕ) → group rows t < 2 ^ 64
unfolding group
group_lt rows t = mask_bound (joins rows t) 64

pub group_self : (rows : List ℕ) (t : ℕ) → t < 64 → In (group rows t) t
unfolding group joins
group_self rows t h =
    has_in (has_mask_below (joins rows t) 64 t h ∙ or_yes-l (eqb t t) (before rows t t && before rows t t) (eq-eqb t t refl))

module _ (deps : List ℕ) (w : Words deps) where
  pub group-both : {t u : ℕ} → Before deps u t → Before deps t u → In (group (rows_of deps) t) u
  unfolding group joins
  group-both {t} {u} a b =
      has_in (has_mask_below (joins (rows_of deps) t) 64 u (before_lt deps w a)
      ∙ or_yes_r (eqb u t) (before (rows_of deps) u t && before (rows_of deps) t u)
      (and_yes (before (rows_of deps) u t) (before (rows_of deps) t u) (is_before deps w a) (is_before deps w b)))

  pub group_of : (t u : ℕ) → In (group (rows_of deps) t) u → (u ≡ t) ⊎ (Before deps u t × Before deps t u)
  unfolding group joins
  group_of t u i =
      let a = before (rows_of deps) u t in
      let b = before (rows_of deps) t u in
      ⊎_elim (λ e. inl (eqb-true u t e)) (λ e. inr (before_is deps u t (and_yes-l a b e), before_is deps t u (and_yes_r a b e)))
      (or_yes (eqb u t) (a && b)
      (and_yes_r (ltb u 64) (eqb u t || (a && b)) (sym (has_mask (joins (rows_of deps) t) 64 u) ∙ in_has i)))

  -- ---- a run of a ready number
  module _ {committed ran t : ℕ} (ready : Ready deps committed ran t) where
    -- all of the group is closed
    pub group-closed : (u : ℕ) → In (group (rows_of deps) t) u → Closed deps committed u
    group-closed u i =
        ⊎_elim (λ e. subst (λ (x : ℕ). Closed deps committed x) (sym e) ready.closed) (λ b. closed-behind ready.closed b.0) (group_of t u i)

    -- what is before one of the group has run, or is in the group
    pub group-behind : (u v : ℕ) → In (group (rows_of deps) t) u → Before deps v u → In ran v ⊎ In (group (rows_of deps) t) v
    group-behind u v i b = behind-it (⊎_elim (λ e. subst (λ (x : ℕ). Before deps v x) e b) (λ d. trans d.0 b) (group_of t u i))
      where
        go : Before deps v t → Dec (Before deps t v) → In ran v ⊎ In (group (rows_of deps) t) v
        go a (yes p) = inr (group-both a p)
        go a (no n) = inl (ready.others v a n)

        behind-it : Before deps v t → In ran v ⊎ In (group (rows_of deps) t) v
        behind-it a = go a (before_dec deps w t v)

    module _ (kept : Kept deps committed ran) where
      -- none of the group has run
      pub group-new : (u : ℕ) → In (group (rows_of deps) t) u → In ran u → ⊥
      group-new u i j =
          ⊎_elim (λ e. ready.waits (subst (λ (x : ℕ). In ran x) e j)) (λ b. ready.waits (kept.behind u t j b.1)) (group_of t u i)

      pub run-keeps : Kept deps committed (union ran (group (rows_of deps) t))
      run-keeps = record {
        here = λ u i. ⊎_elim (kept.here u) (λ g. (group-closed u g).self) (in_or_cases ran (group (rows_of deps) t) i);
        behind = λ u v i b. ⊎_elim (λ j. in_or_left (group (rows_of deps) t) (kept.behind u v j b))
            (λ g. ⊎_elim (in_or_left (group (rows_of deps) t)) (in_or_right ran) (group-behind u v g b))
            (in_or_cases ran (group (rows_of deps) t) i);
      }

-- ---- more commits leave the group of a closed number as it is
module _ {deps deps' : List ℕ} {committed committed' t : ℕ} (w : Words deps) (w' : Words deps') (g : Grown deps deps' committed committed')
    (c : Closed deps committed t) (small : t < 64) where
  pub group-grown : group (rows_of deps') t ≡ group (rows_of deps) t
  group-grown = same 64 (group (rows_of deps') t) (group (rows_of deps) t) (group_lt (rows_of deps') t) (group_lt (rows_of deps) t) was still
    where
      itself : (rows : List ℕ) {u : ℕ} → u ≡ t → In (group rows t) u
      itself rows e = subst (λ (x : ℕ). In (group rows t) x) (sym e) (group_self rows t small)

      was : (u : ℕ) → In (group (rows_of deps') t) u → In (group (rows_of deps) t) u
      was u i =
          ⊎_elim (itself (rows_of deps))
          (λ b. let d = was-before g c b.0 in group-both deps w d (was-before g (closed-behind c d) b.1)) (group_of deps' w' t u i)

      still : (u : ℕ) → In (group (rows_of deps) t) u → In (group (rows_of deps') t) u
      still u i =
          ⊎_elim (itself (rows_of deps'))
          (λ b. group-both deps' w' (still_before g c b.0) (still_before g (closed-behind c b.0) b.1)) (group_of deps w t u i)
