-- The 64 passes compute what is before what: u is in the row of t exactly if it is before t.
-- Assumes nothing.
use mathlib.Core.Path.{◌≡◌, refl, sym, ap, ◌∙◌, subst}
use mathlib.Core.Logic.{◌⊎◌, inl, inr, ⊎_elim}
use mathlib.Core.Bool.{Bool, true, false, cond}
use mathlib.Core.List.{List, map}
use Prim.Native.Nat.{ℕ, zero, suc, ◌^◌, ◌<◌}
use native.Mathlib.Nat.{not-suc-le-zero}
use native.Mathlib.Decide.{ℕ_discrete}
use native.Mathlib.Omega.{arith}
use lib.ListN.{get_or, get_or-map}
use Rattle.masks.specs.Bits.{In, has, union}
use Rattle.masks.proofs.Laws.{in_dec, in_or_left, in_or_right, in_or_cases, union_lt, in_lt, has_in, in_has, not_has, not_in_none}
use Rattle.graph.specs.Before.{Before, direct, behind}
use Rattle.graph.specs.Walk.{grown, pass, passes, rows_of, before}

-- ---- Before is transitive

pub trans : {deps : List ℕ} {u v t : ℕ} → Before deps v t → Before deps u v → Before deps u t
trans (direct i) b = behind i b
trans (behind i a) b = behind i (trans a b)

-- ---- one row

grown_keeps : (k own : ℕ) {w u : ℕ} → In w u → In (grown k own w) u
unfolding grown
grown_keeps k own {w} {u} i = go (has w k)
  where
    go : (b : Bool) → In (cond b (union w own) w) u
    go true = in_or_left own i
    go false = i

grown-adds : (k : ℕ) {own w u : ℕ} → In w k → In own u → In (grown k own w) u
unfolding grown
grown-adds k {own} {w} {u} i j = subst (λ (b : Bool). In (cond b (union w own) w) u) (sym (in_has i)) (in_or_right w j)

grown_cases : (k own w : ℕ) {u : ℕ} → In (grown k own w) u → In w u ⊎ (In w k × In own u)
unfolding grown
grown_cases k own w {u} = go (has w k) refl
  where
    go : (b : Bool) → has w k ≡ b → In (cond b (union w own) w) u → In w u ⊎ (In w k × In own u)
    go true e i = ⊎_elim inl (λ j. inr (has_in e, j)) (in_or_cases w own i)
    go false e i = inl i

grown_lt : (k own w : ℕ) → own < 2 ^ 64 → w < 2 ^ 64 → grown k own w < 2 ^ 64
unfolding grown
grown_lt k own w ho hw = go (has w k)
  where
    go : (b : Bool) → cond b (union w own) w < 2 ^ 64
    go true = union_lt 64 w own hw ho
    go false = hw

grown-zero : (k own : ℕ) → grown k own 0 ≡ 0
unfolding grown
grown-zero k own = ap (λ (b : Bool). cond b (union 0 own) 0) (not_has not_in_none)

-- ---- a pass

pub pass-row : (k : ℕ) (rows : List ℕ) (t : ℕ) → get_or (pass k rows) t 0 ≡ grown k (get_or rows k 0) (get_or rows t 0)
unfolding pass
pass-row k rows t =
    ap (get_or (map (grown k (get_or rows k 0)) rows) t) (sym (grown-zero k (get_or rows k 0)))
    ∙ get_or-map (grown k (get_or rows k 0)) rows t 0

-- u is in the row of t
abbrev pub At : List ℕ → ℕ → ℕ → Type 0
At rows u t = In (get_or rows t 0) u

pass_keeps : (k : ℕ) (rows : List ℕ) {u : ℕ} (t : ℕ) → At rows u t → At (pass k rows) u t
pass_keeps k rows {u} t i = rw pass-row (grown_keeps k (get_or rows k 0) i)

pass-adds : (k : ℕ) (rows : List ℕ) {u : ℕ} (t : ℕ) → At rows k t → At rows u k → At (pass k rows) u t
pass-adds k rows {u} t i j = rw pass-row (grown-adds k i j)

pass_cases : (k : ℕ) (rows : List ℕ) {u : ℕ} (t : ℕ) → At (pass k rows) u t → At rows u t ⊎ (At rows k t × At rows u k)
pass_cases k rows {u} t i = grown_cases k (get_or rows k 0) (get_or rows t 0) (rw pass-row at i)

-- ---- all passes

passes-keep : (n : ℕ) (deps : List ℕ) {u : ℕ} (t : ℕ) → At deps u t → At (passes n deps) u t
unfolding passes
passes-keep zero deps t i = i
passes-keep (suc n) deps t i = pass_keeps n (passes n deps) t (passes-keep n deps t i)

passes_sound : (n : ℕ) (deps : List ℕ) {u : ℕ} (t : ℕ) → At (passes n deps) u t → Before deps u t
unfolding passes
passes_sound zero deps t i = direct i
passes_sound (suc n) deps t i =
    ⊎_elim (passes_sound n deps t) (λ w. trans (passes_sound n deps t w.0) (passes_sound n deps n w.1)) (pass_cases n (passes n deps) t i)

-- after the pass over k, what goes through a number up to k is there
Through : ℕ → List ℕ → Type 0
Through n rows = (j : ℕ) → j < n → (u t : ℕ) → At rows j t → At rows u j → At rows u t

through_pass : (k : ℕ) (rows : List ℕ) → Through k rows → Through (suc k) (pass k rows)
unfolding Through
through_pass k rows h j hj u t a b = go (ℕ_discrete j k)
  where
    old : j < k → (At rows j t ⊎ (At rows k t × At rows j k)) → (At rows u j ⊎ (At rows k j × At rows u k)) → At (pass k rows) u t
    old l (inl p) (inl q) = pass_keeps k rows t (h j l u t p q)
    old l (inl p) (inr q) = pass-adds k rows t (h j l k t p q.0) q.1
    old l (inr p) (inl q) = pass-adds k rows t p.0 (h j l u k p.1 q)
    old l (inr p) (inr q) = pass-adds k rows t p.0 q.1

    to-k : At (pass k rows) k t → At rows k t
    to-k i = ⊎_elim (λ p. p) (λ p. p.0) (pass_cases k rows t i)

    of-k : At (pass k rows) u k → At rows u k
    of-k i = ⊎_elim (λ p. p) (λ p. p.1) (pass_cases k rows k i)

    go : Dec (j ≡ k) → At (pass k rows) u t
    go (yes e) = pass-adds k rows t (to-k (subst (λ (x : ℕ). At (pass k rows) x t) e a)) (of-k (subst (λ (x : ℕ). At (pass k rows) u x) e b))
    go (no d) = old (omega (arith, d)) (pass_cases k rows t a) (pass_cases k rows j b)

passes_through : (n : ℕ) (deps : List ℕ) → Through n (passes n deps)
unfolding passes Through
passes_through zero deps = λ j h. absurd (not-suc-le-zero h)
passes_through (suc n) deps = through_pass n (passes n deps) (passes_through n deps)

-- every number's word is a word
abbrev pub Words : List ℕ → Type 0
Words deps = (t : ℕ) → get_or deps t 0 < 2 ^ 64

passes_complete : (deps : List ℕ) → Words deps → {u t : ℕ} → Before deps u t → At (passes 64 deps) u t
unfolding Through
passes_complete deps w (direct {t = t} i) = passes-keep 64 deps t i
passes_complete deps w (behind {u = u} {v = v} {t = t} i b) =
    passes_through 64 deps v (in_lt 64 (w t) i) u t (passes-keep 64 deps t i) (passes_complete deps w b)

pub passes-words : (n : ℕ) (deps : List ℕ) → Words deps → Words (passes n deps)
unfolding passes
passes-words zero deps w t = w t
passes-words (suc n) deps w t =
    rw pass-row (grown_lt n (get_or (passes n deps) n 0) (get_or (passes n deps) t 0) (passes-words n deps w n) (passes-words n deps w t))

-- ---- the rows

pub rows_words : (deps : List ℕ) → Words deps → Words (rows_of deps)
unfolding rows_of
rows_words deps w = passes-words 64 deps w

pub row_before : (deps : List ℕ) {u t : ℕ} → At (rows_of deps) u t → Before deps u t
unfolding rows_of
row_before deps {t = t} i = passes_sound 64 deps t i

pub before-row : (deps : List ℕ) → Words deps → {u t : ℕ} → Before deps u t → At (rows_of deps) u t
unfolding rows_of
before-row deps w b = passes_complete deps w b

-- ---- the test `before` on the rows is Before

pub before_is : (deps : List ℕ) (u t : ℕ) → before (rows_of deps) u t ≡ true → Before deps u t
unfolding before
before_is deps u t e = row_before deps (has_in e)

pub is_before : (deps : List ℕ) → Words deps → {u t : ℕ} → Before deps u t → before (rows_of deps) u t ≡ true
unfolding before
is_before deps w b = in_has (before-row deps w b)

pub before_dec : (deps : List ℕ) → Words deps → (u t : ℕ) → Dec (Before deps u t)
before_dec deps w u t = go (in_dec (get_or (rows_of deps) t 0) u)
  where
    go : Dec (At (rows_of deps) u t) → Dec (Before deps u t)
    go (yes p) = yes (row_before deps p)
    go (no n) = no (λ b. n (before-row deps w b))

-- a number that is before another is below 64
pub before_lt : (deps : List ℕ) → Words deps → {u t : ℕ} → Before deps u t → u < 64
before_lt deps w {t = t} b = in_lt 64 (rows_words deps w t) (before-row deps w b)
