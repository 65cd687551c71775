-- Where no number is ready, every closed number has run.
-- Assumes nothing.
use mathlib.Core.Path.{◌≡◌, sym, subst}
use mathlib.Core.Logic.{⊎_elim}
use mathlib.Core.List.{List}
use Prim.Native.Nat.{ℕ, zero, suc, ◌^◌, ◌<◌}
use native.Mathlib.Nat.{not-suc-le-zero, lt_of_lt_of_le, le_of_suc-le-suc, le_refl}
use lib.ListN.{get_or}
use Rattle.masks.specs.Bits.{In, insert}
use Rattle.masks.proofs.Laws.{in_dec, in_insert_old, in_insert_new, in_insert_cases, insert_lt, part_lt}
use Rattle.graph.specs.Before.{Before, Closed, Ready}
use Rattle.graph.specs.Walk.{rows_of, first_ready}
use Rattle.graph.proofs.Rows.{Words, trans, rows_words, row_before, before-row, before_lt}
use Rattle.graph.proofs.Computed.{first-is, ready-lt}
use Rattle.graph.proofs.Commits.{closed-behind}

module _ (deps : List ℕ) (w : Words deps) where
  -- t and all before it, as a word
  reach : ℕ → ℕ
  reach t = insert (get_or (rows_of deps) t 0) t

  -- what is before u is before t, and t is not among it
  less : {u t : ℕ} → Before deps u t → (Before deps t u → ⊥) → reach u < reach t
  unfolding reach
  less {u} {t} b n = part_lt 64 (reach u) (reach t) t
      (insert_lt 64 (get_or (rows_of deps) u 0) u (rows_words deps w u) (before_lt deps w b))
      (λ v i. in_insert_old t (⊎_elim (λ j. before-row deps w (trans b (row_before deps j)))
      (λ e. subst (λ (x : ℕ). In (get_or (rows_of deps) t 0) x) (sym e) (before-row deps w b))
      (in_insert_cases (get_or (rows_of deps) u 0) u i)))
      (in_insert_new (get_or (rows_of deps) t 0) t)
      (λ i. ⊎_elim (λ j. n (row_before deps j))
      (λ e. n (subst (λ (x : ℕ). Before deps x u) (sym e) (subst (λ (x : ℕ). Before deps u x) e b)))
      (in_insert_cases (get_or (rows_of deps) u 0) u i))

  module _ (committed ran : ℕ) where
    by-reach : ((t : ℕ) → Ready deps committed ran t → ⊥) → (n t : ℕ) → reach t < n → Closed deps committed t → In ran t
    by-reach none zero t h c = absurd (not-suc-le-zero h)
    by-reach none (suc n) t h c =
        go (in_dec ran t) (λ u b a. by-reach none n u (lt_of_lt_of_le (less b a) (le_of_suc-le-suc h)) (closed-behind c b))
      where
        go : Dec (In ran t) → ((u : ℕ) → Before deps u t → (Before deps t u → ⊥) → In ran u) → In ran t
        go (yes p) others = p
        go (no p) others = absurd (none t (record { closed = c; waits = p; others = others }))

    pub none-ready : ((t : ℕ) → Ready deps committed ran t → ⊥) → (t : ℕ) → Closed deps committed t → In ran t
    none-ready none t c = by-reach none (suc (reach t)) t (le_refl (suc (reach t))) c

    -- the same where the search has found none
    pub all-run : committed < 2 ^ 64 → first_ready (rows_of deps) committed ran ≡ 64 → (t : ℕ) → Closed deps committed t → In ran t
    all-run l e = none-ready (λ t r. (first-is deps w committed ran).lowest t (subst (λ (x : ℕ). t < x) (sym e) (ready-lt deps w l r)) r)
