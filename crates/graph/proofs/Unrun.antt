-- Numbers that have run may be left out of the dependency words: what runs next is the same, because with each number that ran all before it ran too.
-- Assumes nothing.
use mathlib.Core.Path.{◌≡◌, refl, sym, subst}
use mathlib.Core.Logic.{⊎_elim}
use mathlib.Core.Bool.{Bool, true, false, cond}
use mathlib.Core.List.{List}
use Prim.Native.Nat.{ℕ, ◌<◌}
use borrow.Author.Tests.{ltb-true}
use lib.Dec.{ltb}
use lib.ListN.{get_or}
use Rattle.masks.specs.Bits.{In}
use Rattle.masks.proofs.Bools.{bool_ext}
use Rattle.masks.proofs.Laws.{Sub, in_dec, same}
use Rattle.masks.proofs.FoldLaws.{least_cong}
use Rattle.graph.specs.Before.{Before, direct, behind, Ready}
use Rattle.graph.specs.Walk.{rows_of, ready, first_ready, group, group_at, next_group}
use Rattle.graph.proofs.Rows.{Words}
use Rattle.graph.proofs.Computed.{ready-is, is-ready, first-is}
use Rattle.graph.proofs.Groups.{Kept, group_lt, group_self, group-both, group_of}

-- `less` has the words of `deps` without the numbers in r
pub record Less (deps less : List ℕ) (r : ℕ) : Type 0 where
  pub was : (t u : ℕ) → In (get_or less t 0) u → In (get_or deps t 0) u
  pub new : (t u : ℕ) → In (get_or less t 0) u → In r u → ⊥
  pub all : (t u : ℕ) → In (get_or deps t 0) u → (In r u → ⊥) → In (get_or less t 0) u

module _ {deps less : List ℕ} {r : ℕ} (l : Less deps less r) where
  was-before : {u t : ℕ} → Before less u t → Before deps u t
  was-before (direct {u = u} {t = t} i) = direct (l.was t u i)
  was-before (behind {v = v} {t = t} i b) = behind (l.was t v i) (was-before b)

  -- everything before a number of r is in r
  module _ (down : (t u : ℕ) → In r t → Before deps u t → In r u) where
    still_before : {u t : ℕ} → Before deps u t → (In r u → ⊥) → Before less u t
    still_before (direct {u = u} {t = t} i) n = direct (l.all t u i n)
    still_before (behind {u = u} {v = v} {t = t} i b) n = behind (l.all t v i (λ j. n (down v u j b))) (still_before b n)

module _ {deps less : List ℕ} (w : Words deps) (w' : Words less) {committed r : ℕ} (l : Less deps less r) (kept : Kept deps committed r) (ran : ℕ) (more : Sub r ran) where
  still : {u t : ℕ} → Before deps u t → (In r u → ⊥) → Before less u t
  still = still_before l kept.behind

  -- ---- the same numbers are ready

  ready-still : (t : ℕ) → Ready deps committed ran t → Ready less committed ran t
  ready-still t g = record {
    closed = record { self = g.closed.self; all = λ u b. g.closed.all u (was-before l b) };
    waits = g.waits;
    others = λ u b n. g.others u (was-before l b) (λ a. n (still a (λ i. g.waits (more t i))));
  }

  ready-was : (t : ℕ) → Ready less committed ran t → Ready deps committed ran t
  ready-was t g = record {
    closed = record { self = g.closed.self; all = λ u b. commit u b (in_dec r u) };
    waits = g.waits;
    others = λ u b n. ran-before u b n (in_dec r u);
  }
    where
      commit : (u : ℕ) → Before deps u t → Dec (In r u) → In committed u
      commit u b (yes i) = kept.here u i
      commit u b (no n) = g.closed.all u (still b n)

      ran-before : (u : ℕ) → Before deps u t → (Before deps t u → ⊥) → Dec (In r u) → In ran u
      ran-before u b n (yes i) = more u i
      ran-before u b n (no o) = g.others u (still b o) (λ a. n (was-before l a))

  ready-same : (t : ℕ) → ready (rows_of less) committed ran t ≡ ready (rows_of deps) committed ran t
  ready-same t =
      bool_ext (ready (rows_of less) committed ran t) (ready (rows_of deps) committed ran t)
      (λ e. is-ready deps w committed ran t (ready-was t (ready-is less w' committed ran t e)))
      (λ e. is-ready less w' committed ran t (ready-still t (ready-is deps w committed ran t e)))

  first-same : first_ready (rows_of less) committed ran ≡ first_ready (rows_of deps) committed ran
  unfolding first_ready
  first-same = least_cong (ready (rows_of less) committed ran) (ready (rows_of deps) committed ran) 64 (λ t h. ready-same t)

  -- ---- and the group of one is the same

  group-same : (t : ℕ) → t < 64 → Ready deps committed ran t → group (rows_of less) t ≡ group (rows_of deps) t
  group-same t small g = same 64 (group (rows_of less) t) (group (rows_of deps) t) (group_lt (rows_of less) t) (group_lt (rows_of deps) t) was now
    where
      unrun : In r t → ⊥
      unrun i = g.waits (more t i)

      itself : (rows : List ℕ) {u : ℕ} → u ≡ t → In (group rows t) u
      itself rows e = subst (λ (x : ℕ). In (group rows t) x) (sym e) (group_self rows t small)

      was : (u : ℕ) → In (group (rows_of less) t) u → In (group (rows_of deps) t) u
      was u i = ⊎_elim (itself (rows_of deps)) (λ b. group-both deps w (was-before l b.0) (was-before l b.1)) (group_of less w' t u i)

      now : (u : ℕ) → In (group (rows_of deps) t) u → In (group (rows_of less) t) u
      now u i =
          ⊎_elim (itself (rows_of less))
          (λ b. group-both less w' (still b.0 (λ j. unrun (kept.behind u t j b.1))) (still b.1 unrun)) (group_of deps w t u i)

  pub next-same : next_group (rows_of less) committed ran ≡ next_group (rows_of deps) committed ran
  unfolding next_group group_at
  next-same = rw first-same (go (ltb (first_ready (rows_of deps) committed ran) 64) refl)
    where
      go : (b : Bool) → ltb (first_ready (rows_of deps) committed ran) 64 ≡ b
          → cond b (group (rows_of less) (first_ready (rows_of deps) committed ran)) 0 ≡ cond b (group (rows_of deps) (first_ready (rows_of deps) committed ran)) 0
      go true e = let h = ltb-true (first_ready (rows_of deps) committed ran) 64 e in group-same (first_ready (rows_of deps) committed ran) h ((first-is deps w committed ran).ready h)
      go false e = refl
