-- A pass over the rows in place; and one that is left out, because the row that it would add is part of every row already.
-- Assumes nothing.
use mathlib.Core.Path.{◌≡◌, refl, sym, ap, ◌∙◌, subst}
use mathlib.Core.Logic.{⊎_elim}
use mathlib.Core.Bool.{Bool, true, false, cond}
use mathlib.Core.List.{List}
use Prim.Native.Nat.{ℕ, zero, suc, ◌+◌, ◌^◌, ◌<◌}
use native.Mathlib.Numerals.{add-one}
use native.Mathlib.Omega.{arith}
use lib.ListN.{length, get_or, set, length-map}
use lib.Seq.{ext_get_or}
use Rattle.masks.specs.Bits.{In, has, union, both, within}
use Rattle.masks.proofs.Laws.{Sub, same, sub_left, sub_refl, sub_trans, union-sub, union_lt, within-sub, in_and_left, in_and_right, not_in_none}
use Rattle.masks.proofs.FoldLaws.{below_or_last}
use Rattle.graph.specs.Walk.{grown, pass, passes}
use Rattle.graph.proofs.Places.{upto, upto_next, upto-more, upto_all}
use Rattle.graph.proofs.Rows.{Words, pass-row, passes-words}

-- ---- a pass in place: t rows are done, out of xs

module _ (k own t : ℕ) (xs out : List ℕ) (e : out ≡ upto (grown k own) t xs) where
  pub next_row : get_or out t 0 ≡ get_or xs t 0
  next_row = ap (λ (l : List ℕ). get_or l t 0) e ∙ upto_next (grown k own) t xs

  pub row_done : (w : ℕ) → w ≡ grown k own (get_or out t 0) → set out t w ≡ upto (grown k own) (t + 1) xs
  row_done w q =
      ap (set out t) (q ∙ ap (grown k own) next_row)
      ∙ ap (λ (l : List ℕ). set l t (grown k own (get_or xs t 0))) e
      ∙ upto-more (grown k own) t xs
      ∙ ap (λ (n : ℕ). upto (grown k own) n xs) (sym (add-one t))

pass-done : (k : ℕ) (xs : List ℕ) → length xs ≡ 64 → upto (grown k (get_or xs k 0)) 64 xs ≡ pass k xs
unfolding pass
pass-done k xs long = upto_all (grown k (get_or xs k 0)) 64 xs (omega (arith, long))

pass-length : (k : ℕ) (rows : List ℕ) → length (pass k rows) ≡ length rows
unfolding pass
pass-length k rows = length-map rows (grown k (get_or rows k 0))

passes-length : (n : ℕ) (deps : List ℕ) → length (passes n deps) ≡ length deps
unfolding passes
passes-length zero deps = refl
passes-length (suc n) deps = pass-length n (passes n deps) ∙ passes-length n deps

-- ---- what is part of every row

-- m is part of what the first n rows of xs become
abbrev pub Shared : (k own : ℕ) → List ℕ → (m n : ℕ) → Type 0
Shared k own xs m n = (j : ℕ) → j < n → Sub m (grown k own (get_or xs j 0))

pub shared_more : (k own : ℕ) (xs : List ℕ) (m t w r : ℕ) → Shared k own xs m t → w ≡ grown k own (get_or xs t 0) → r ≡ both m w → Shared k own xs r (t + 1)
shared_more k own xs m t w r h q p j l u i =
    let i' : In (both m w) u = rw p at i in
    ⊎_elim (λ a. h j a u (in_and_left m w i')) (λ e. subst (λ (x : ℕ). In x u) (q ∙ ap (λ (i : ℕ). grown k own (get_or xs i 0)) (sym e)) (in_and_right m w i')) (below_or_last j t (rw add-one at l))

-- m is part of the first n rows
abbrev pub Common : List ℕ → (m n : ℕ) → Type 0
Common rows m n = (j : ℕ) → j < n → Sub m (get_or rows j 0)

pub common_none : (rows : List ℕ) (n : ℕ) → Common rows 0 n
common_none rows n j l u i = absurd (not_in_none i)

common_passed : (k : ℕ) (xs : List ℕ) (m n : ℕ) → Shared k (get_or xs k 0) xs m n → Common (pass k xs) m n
common_passed k xs m n h j l = rw pass-row (h j l)

-- ---- a pass that is left out

grown_same : (k own w : ℕ) → w < 2 ^ 64 → own < 2 ^ 64 → Sub own w → grown k own w ≡ w
unfolding grown
grown_same k own w hw ho s = go (has w k)
  where
    go : (b : Bool) → cond b (union w own) w ≡ w
    go true = same 64 (union w own) w (union_lt 64 w own hw ho) hw (union-sub w own w (sub_refl w) s) (sub_left w own)
    go false = refl

left_out : (k : ℕ) (rows : List ℕ) (m : ℕ) → Words rows → length rows ≡ 64 → Common rows m 64 → within (get_or rows k 0) m ≡ true → rows ≡ pass k rows
left_out k rows m w long c e =
    ext_get_or 0 rows (pass k rows) (sym (pass-length k rows))
    (λ j l. sym (pass-row k rows j ∙ grown_same k (get_or rows k 0) (get_or rows j 0) (w j) (w k) (sub_trans (within-sub (get_or rows k 0) m e) (c j (omega (arith, long))))))

-- ---- the turn of k: the pass is made, or left out

passes_more : (k : ℕ) (deps : List ℕ) → pass k (passes k deps) ≡ passes (k + 1) deps
unfolding passes
passes_more k deps = ap (λ (n : ℕ). passes n deps) (sym (add-one k))

module _ (deps : List ℕ) (k : ℕ) (rows : List ℕ) (same : rows ≡ passes k deps) (long : length deps ≡ 64) where
  rows_long : length rows ≡ 64
  rows_long = ap length same ∙ passes-length k deps ∙ long

  one_more : pass k rows ≡ passes (k + 1) deps
  one_more = ap (pass k) same ∙ passes_more k deps

  pub made : (t : ℕ) → t ≡ 64 → (m : ℕ) → Shared k (get_or rows k 0) rows m t → (out : List ℕ) → out ≡ upto (grown k (get_or rows k 0)) t rows
      → (out ≡ passes (k + 1) deps) × Common out m 64
  made t e m h out q =
      let all : out ≡ pass k rows = q ∙ ap (λ (n : ℕ). upto (grown k (get_or rows k 0)) n rows) e ∙ pass-done k rows rows_long in (
        all ∙ one_more,
        subst (λ (l : List ℕ). Common l m 64) (sym all) (common_passed k rows m 64 (subst (λ (n : ℕ). Shared k (get_or rows k 0) rows m n) e h)),
      )

  pub left : Words deps → (m : ℕ) → Common rows m 64 → within (get_or rows k 0) m ≡ true → rows ≡ passes (k + 1) deps
  left w m c e = left_out k rows m (subst Words (sym same) (passes-words k deps w)) rows_long c e ∙ one_more
