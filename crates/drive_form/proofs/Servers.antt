-- The servers of the touched shards are put in three at a time, and whether two of each answered is one test of words. Assumes nothing.
use mathlib.Core.Path.{◌≡◌, refl, sym, ap, ◌∙◌}
use mathlib.Core.Bool.{Bool, true, false, cond, not, ◌||◌, and-false, and-true}
use Prim.Native.Nat.{ℕ, ◌+◌, ◌*◌, ◌/◌, ◌%◌, ◌^◌, ◌<◌}
use native.Mathlib.Decide.{ℕ_discrete}
use native.Mathlib.Numerals.{add-one}
use native.Mathlib.Omega.{arith}
use borrow.Author.Tests.{eq-eqb, ne_eqb}
use lib.Dec.{eqb}
use Rattle.masks.specs.Bits.{bit, has, insert, both, within}
use Rattle.masks.specs.Folds.{all_below, mask_of}
use Rattle.masks.proofs.Bools.{bool_ext}
use Rattle.masks.proofs.Digits.{bit-half}
use Rattle.masks.proofs.Laws.{has-union, has_both, both_lt}
use Rattle.masks.proofs.Turns.{mask-none, mask_step}
use Rattle.masks.proofs.FoldLaws.{all_at, all_of, has_mask_below, mask_bound, within_all}
use Rattle.drive.specs.Held.{addressed}
use Rattle.drive.specs.Due.{servers_of}
use Rattle.drive_form.specs.Parts.{with_shard, pairs, two_of, two_from}

-- ---- three at a time

three : (f : ℕ → Bool) (b : Bool) (n : ℕ) → f n ≡ b → f (n + 1) ≡ b → f (n + 1 + 1) ≡ b
    → mask_of f (n + 1 + 1 + 1) ≡ cond b (insert (insert (insert (mask_of f n) n) (n + 1)) (n + 1 + 1)) (mask_of f n)
three f true n x y z = rw (mask_step f (n + 1 + 1), mask_step f (n + 1), mask_step f n, x, y, z)
three f false n x y z = rw (mask_step f (n + 1 + 1), mask_step f (n + 1), mask_step f n, x, y, z)

pub servers-four : (w : ℕ) → with_shard w 3 (with_shard w 2 (with_shard w 1 (with_shard w 0 0))) ≡ servers_of w
unfolding servers_of
servers-four w =
    sym
    (three (addressed w) (has w 3) 9 refl refl refl
    ∙ ap (with_shard w 3)
    (three (addressed w) (has w 2) 6 refl refl refl
    ∙ ap (with_shard w 2)
    (three (addressed w) (has w 1) 3 refl refl refl
    ∙ ap (with_shard w 1)
    (three (addressed w) (has w 0) 0 refl refl refl
    ∙ ap (with_shard w 0) (sym (mask-none (addressed w)))))))

-- ---- two of each

next_has : (w t : ℕ) → has (w / 2 ^ 1) t ≡ has w (t + 1)
next_has w t = ap (λ (b : ℕ). eqb b 1) (sym (ap (bit w) (add-one t) ∙ bit-half w t))

third-has : (w t : ℕ) → has (w / 2 ^ 2) t ≡ has w (t + 2)
third-has w t =
    ap (λ (x : ℕ). has x t) (omega arith)
    ∙ next_has (w / 2 ^ 1) t
    ∙ next_has w (t + 1)
    ∙ ap (has w) (omega arith)

has-pairs : (w t : ℕ) → has (pairs w) t ≡ two_of (has w t) (has w (t + 1)) (has w (t + 2))
unfolding pairs
has-pairs w t =
    rw (has-union, has-union, has_both w (w / 2 ^ 1) t, has_both w (w / 2 ^ 2) t, has_both (w / 2 ^ 1) (w / 2 ^ 2) t, next_has w t, third-has w t)

-- the first server of each shard
abbrev first : ℕ → Bool
first t = eqb (t % 3) 0

firsts : mask_of first 12 ≡ 585
unfolding mask_of insert
firsts = refl

first_has : (t : ℕ) → t < 12 → has 585 t ≡ first t
first_has t l = rw (← firsts) (has_mask_below first 12 t l)

server-has : (w t : ℕ) → t < 12 → has (servers_of w) t ≡ addressed w t
unfolding servers_of
server-has w t l = has_mask_below (addressed w) 12 t l

pub servers_lt : (w : ℕ) → servers_of w < 2 ^ 12
unfolding servers_of
servers_lt w = mask_bound (addressed w) 12

module _ (touched w : ℕ) where
  abbrev test : ℕ → Bool
  test t = not (has (both (servers_of touched) 585) t) || has (pairs w) t

  at_first_lem : (k : ℕ) → k < 4 → test (3 * k) ≡ two_from touched w k
  at_first_lem k l =
      let h : 3 * k < 12 = omega arith in
      let shard : 3 * k / 3 ≡ k = omega arith in
      let start : 3 * k + 0 ≡ 3 * k = omega arith in
      rw (has_both (servers_of touched) 585 (3 * k), has-pairs w (3 * k), server-has touched (3 * k) h, first_has (3 * k) h, eq-eqb (3 * k % 3) 0 (omega arith), and-true, shard, start)

  past_first : (t : ℕ) → t < 12 → (t % 3 ≡ 0 → ⊥) → test t ≡ true
  past_first t h n = rw (has_both (servers_of touched) 585 t, first_has t h, ne_eqb (t % 3) 0 n, and-false)

  pub two-words : within (both (servers_of touched) 585) (pairs w) ≡ all_below (two_from touched w) 4
  two-words =
      within_all 12 (both (servers_of touched) 585) (pairs w) (both_lt 12 (servers_of touched) 585 (servers_lt touched))
      ∙ bool_ext (all_below test 12) (all_below (two_from touched w) 4)
      (λ e. all_of (two_from touched w) 4 (λ k l. sym (at_first_lem k l) ∙ all_at test 12 (3 * k) e (omega arith)))
      (λ e. all_of test 12 (λ t l. each e t l (ℕ_discrete (t % 3) 0)))
    where
      each : all_below (two_from touched w) 4 ≡ true → (t : ℕ) → t < 12 → Dec (t % 3 ≡ 0) → test t ≡ true
      each e t l (no n) = past_first t l n
      each e t l (yes p) =
          let back : t ≡ 3 * (t / 3) = omega arith in
          let k : t / 3 < 4 = omega arith in
          ap test back ∙ at_first_lem (t / 3) k ∙ all_at (two_from touched w) 4 (t / 3) e k
