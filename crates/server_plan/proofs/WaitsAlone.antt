-- A number that alone is committed and has not run, and that waits for another, is not closed: so nothing runs. Assumes nothing.
use Prim.Native.Nat.{ℕ, ◌^◌, ◌<◌}
use mathlib.Core.Path.{◌≡◌, sym, ◌∙◌, subst}
use mathlib.Core.Bool.{true≢false}
use mathlib.Core.List.{List}
use mathlib.Core.Logic.{⊎_elim}
use native.Mathlib.Decide.{ℕ_discrete}
use lib.ListN.{get_or}
use Rattle.masks.specs.Bits.{In, none, insert, without}
use Rattle.masks.proofs.Laws.{has_in, in_has, has-none, in_lt, in_insert_cases, in_without, insert_lt}
use Rattle.masks.proofs.FoldLaws.{some_member}
use Rattle.graph.specs.Before.{direct}
use Rattle.graph.specs.Walk.{rows_of, next_group}
use Rattle.graph.proofs.Rows.{Words}
use Rattle.graph.proofs.NextGroups.{next-runs, next-lt}
use lib.Pow.{pow_pos}

in_nothing : (u : ℕ) → In none u → ⊥
in_nothing u i = true≢false (sym (in_has i) ∙ has-none u)

module _ (deps : List ℕ) (words : Words deps) (committed ran t : ℕ) (small : t < 64) (fits : ran < 2 ^ 64) (alone : without (without committed ran) (insert none t) ≡ none) where
  -- what is committed and has not run is t
  only-t : (u : ℕ) → u < 64 → In committed u → (In ran u → ⊥) → u ≡ t
  only-t u l c n = go (ℕ_discrete u t)
    where
      go : Dec (u ≡ t) → u ≡ t
      go (yes e) = e
      go (no k) = absurd (in_nothing u (subst (λ w. In w u) alone (in_without (insert_lt 64 none t (pow_pos 64) small) l (in_without fits l c n) (λ i. ⊎_elim (in_nothing u) k (in_insert_cases none t i)))))

  pub alone_waits : (v : ℕ) → In (get_or deps t 0) v → (In ran v → ⊥) → (v ≡ t → ⊥) → next_group (rows_of deps) committed ran ≡ 0
  alone_waits v d unrun other = go (ℕ_discrete (next_group (rows_of deps) committed ran) 0)
    where
      go : Dec (next_group (rows_of deps) committed ran ≡ 0) → next_group (rows_of deps) committed ran ≡ 0
      go (yes e) = e
      go (no n) =
          let some = some_member 64 (next_group (rows_of deps) committed ran) (next-lt deps words committed ran) n in
          let r = next-runs deps words committed ran some.0 (has_in some.2) in
          let is = only-t _ r.small r.ready.closed.self r.ready.waits in
          absurd (other (only-t v (in_lt 64 (words t) d) (r.ready.closed.all v (direct (subst (λ x. In (get_or deps x 0) v) (sym is) d))) unrun))
