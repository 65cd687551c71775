-- What runs next, as a word: the group of a ready number, none of which has run, or nothing, and then no closed number is left unrun.
-- Assumes nothing.
use mathlib.Core.Path.{◌≡◌, sym, ap, ◌∙◌, subst}
use mathlib.Core.Bool.{Bool, cond}
use mathlib.Core.List.{List}
use Prim.Native.Nat.{ℕ, ◌+◌, ◌^◌, ◌<◌, ◌≤◌}
use native.Mathlib.Decide.{dec_lt, ℕ_discrete}
use native.Mathlib.Omega.{arith}
use borrow.Author.Tests.{lt-ltb, le-ltb}
use lib.Dec.{lit<}
use lib.Bits.{or_zero_r}
use Rattle.masks.specs.Bits.{In, none, union}
use Rattle.masks.specs.Folds.{size}
use Rattle.masks.proofs.Laws.{not_in_none}
use Rattle.masks.proofs.Counts.{size_apart, size_le, size-zero}
use Rattle.graph.specs.Before.{Closed, Ready}
use Rattle.graph.specs.Walk.{rows_of, first_ready, group, group_at, next_group}
use Rattle.graph.proofs.Rows.{Words}
use Rattle.graph.proofs.Computed.{first-is}
use Rattle.graph.proofs.Progress.{all-run}
use Rattle.graph.proofs.Groups.{Kept, group_lt, group_self, group-closed, group-new, run-keeps}

or_nothing : (a : ℕ) → union a none ≡ a
unfolding union
or_nothing a = or_zero_r a

-- the group of t, or nothing from 64 on
group-some : (rows : List ℕ) (t : ℕ) → t < 64 → group_at rows t ≡ group rows t
unfolding group_at
group-some rows t h = ap (λ (b : Bool). cond b (group rows t) 0) (lt-ltb t 64 h)

group-none : (rows : List ℕ) (t : ℕ) → 64 ≤ t → group_at rows t ≡ none
unfolding group_at
group-none rows t h = ap (λ (b : Bool). cond b (group rows t) 0) (le-ltb t 64 h)

-- what runs is the group of a ready number
pub record Runs (deps : List ℕ) (committed ran t : ℕ) : Type 0 where
  pub small : t < 64
  pub ready : Ready deps committed ran t
  pub whole : next_group (rows_of deps) committed ran ≡ group (rows_of deps) t

module _ (deps : List ℕ) (w : Words deps) (committed ran : ℕ) where
  -- the first ready number is that
  pub next-first : first_ready (rows_of deps) committed ran < 64 → Runs deps committed ran (first_ready (rows_of deps) committed ran)
  unfolding next_group
  next-first h = record { small = h; ready = (first-is deps w committed ran).ready h; whole = group-some (rows_of deps) _ h }

  next-nothing : 64 ≤ first_ready (rows_of deps) committed ran → next_group (rows_of deps) committed ran ≡ none
  unfolding next_group
  next-nothing h = group-none (rows_of deps) _ h

  -- nothing runs exactly if no number is ready
  pub next-dec : Dec (first_ready (rows_of deps) committed ran < 64)
  next-dec = dec_lt (first_ready (rows_of deps) committed ran) 64

  pub next-runs : (u : ℕ) → In (next_group (rows_of deps) committed ran) u → Runs deps committed ran (first_ready (rows_of deps) committed ran)
  next-runs u i = go next-dec
    where
      go : Dec (first_ready (rows_of deps) committed ran < 64) → Runs deps committed ran (first_ready (rows_of deps) committed ran)
      go (yes h) = next-first h
      go (no h) = absurd (not_in_none (subst (λ (x : ℕ). In x u) (next-nothing (omega (arith, h))) i))

  pub next-lt : next_group (rows_of deps) committed ran < 2 ^ 64
  next-lt = go next-dec
    where
      go : Dec (first_ready (rows_of deps) committed ran < 64) → next_group (rows_of deps) committed ran < 2 ^ 64
      go (yes h) = subst (λ (x : ℕ). x < 2 ^ 64) (sym (next-first h).whole) (group_lt (rows_of deps) _)
      go (no h) = subst (λ (x : ℕ). x < 2 ^ 64) (sym (next-nothing (omega (arith, h)))) (lit< tt)

  -- "repeated until 0, no closed number is left unrun"
  pub next-none : committed < 2 ^ 64 → next_group (rows_of deps) committed ran ≡ none → (t : ℕ) → Closed deps committed t → In ran t
  next-none l e = go next-dec
    where
      go : Dec (first_ready (rows_of deps) committed ran < 64) → (t : ℕ) → Closed deps committed t → In ran t
      go (yes h) =
          let r = next-first h in
          absurd (not_in_none (subst (λ (x : ℕ). In x (first_ready (rows_of deps) committed ran)) (sym r.whole ∙ e) (group_self (rows_of deps) _ h)))
      go (no h) = all-run deps w committed ran l (omega (arith, h, (first-is deps w committed ran).within))

  -- what runs is closed, and what is before it has run or runs with it
  pub next-closed : (u : ℕ) → In (next_group (rows_of deps) committed ran) u → Closed deps committed u
  next-closed u i = let r = next-runs u i in group-closed deps w r.ready u (subst (λ (x : ℕ). In x u) r.whole i)

  module _ (kept : Kept deps committed ran) where
    -- none of it has run
    pub next-new : (u : ℕ) → In (next_group (rows_of deps) committed ran) u → In ran u → ⊥
    next-new u i = let r = next-runs u i in group-new deps w r.ready kept u (subst (λ (x : ℕ). In x u) r.whole i)

    -- a run keeps the log's form: committed, and with each number all before it
    pub next-keeps : Kept deps committed (union ran (next_group (rows_of deps) committed ran))
    next-keeps = go next-dec
      where
        go : Dec (first_ready (rows_of deps) committed ran < 64) → Kept deps committed (union ran (next_group (rows_of deps) committed ran))
        go (yes h) = let r = next-first h in rw r.whole (run-keeps deps w r.ready kept)
        go (no h) = rw (next-nothing (omega (arith, h)), or_nothing) kept

    -- so it adds as many as it has, and there is room for them
    pub next-adds : size (union ran (next_group (rows_of deps) committed ran)) ≡ size ran + size (next_group (rows_of deps) committed ran)
    next-adds = size_apart ran (next_group (rows_of deps) committed ran) (λ t i j. next-new t j i)

    pub next-room : size ran + size (next_group (rows_of deps) committed ran) ≤ 64
    next-room = omega (arith, next-adds, size_le (union ran (next_group (rows_of deps) committed ran)))

  -- what runs is something, or nothing is ready
  pub next-some : (next_group (rows_of deps) committed ran ≡ none → ⊥) → 0 < size (next_group (rows_of deps) committed ran)
  next-some n = go (ℕ_discrete (size (next_group (rows_of deps) committed ran)) 0)
    where
      go : Dec (size (next_group (rows_of deps) committed ran) ≡ 0) → 0 < size (next_group (rows_of deps) committed ran)
      go (yes e) = absurd (n (size-zero (next_group (rows_of deps) committed ran) next-lt e))
      go (no d) = omega (arith, d)
