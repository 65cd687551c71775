-- Document 01, "The drive", phase 0: if a counted answer holds an accepted set, the set taken to phase 2 is that of the highest accepted ballot, and of answers at one ballot that of the lowest server. Assumes nothing.
use mathlib.Core.Path.{◌≡◌, refl, sym, ◌∙◌, subst}
use mathlib.Core.Logic.{◌≢◌}
use mathlib.Core.Bool.{Bool, true, false, cond}
use Prim.Native.Nat.{ℕ, zero, suc, ◌≤◌, ◌<◌}
use native.Mathlib.Omega.{arith}
use native.Mathlib.Decide.{ℕ_discrete}
use borrow.Author.Tests.{eqb-true, eqb-false, eq-eqb, ltb-true, ltb-false, lt-ltb}
use lib.Dec.{eqb, ltb}
use Rattle.masks.specs.Folds.{iter}
use Rattle.masks.proofs.Bools.{not_yes, not_no, true_and_false, cond_true}
use Rattle.drive.specs.declared.Drive.{Drive}
use Rattle.drive.specs.Held.{answer_at, to_phase}
use Rattle.drive.specs.Decide.{has_accepted, better, highest, decide0, decide}

module _ (d : Drive) where
  -- of the servers below n that hold an accepted set, best is at a ballot that is at least every other's, and above those of the servers before it
  pub record Best (n best : ℕ) : Type 0 where
    pub below : best < n
    pub holds : has_accepted (answer_at d best) ≡ true
    pub most : (s : ℕ) → s < n → has_accepted (answer_at d s) ≡ true → (answer_at d s).accepted.ballot ≤ (answer_at d best).accepted.ballot
    pub lowest : (s : ℕ) → s < best → has_accepted (answer_at d s) ≡ true → (answer_at d s).accepted.ballot < (answer_at d best).accepted.ballot

  pub data High (n : ℕ) (best : ℕ) : Type 0 where
    nobody : best ≡ 12 → ((s : ℕ) → s < n → has_accepted (answer_at d s) ≡ false) → High n best
    somebody : Best n best → High n best

  last_or : (P : ℕ → Type 0) (n : ℕ) → ((s : ℕ) → s < n → P s) → P n → (s : ℕ) → s < suc n → P s
  last_or P n f h s l = go (ℕ_discrete s n)
    where
      go : Dec (s ≡ n) → P s
      go (yes e) = subst P (sym e) h
      go (no ne) = f s (omega arith)

  abbrev AtMost : ℕ → ℕ → Type 0
  AtMost b s = has_accepted (answer_at d s) ≡ true → (answer_at d s).accepted.ballot ≤ (answer_at d b).accepted.ballot

  module _ (n best : ℕ) (l : n < 12) where
    -- the server n holds nothing
    bare : has_accepted (answer_at d n) ≡ false → High n best → High (suc n) best
    bare e (nobody z f) = nobody z (last_or (λ s. has_accepted (answer_at d s) ≡ false) n f e)
    bare e (somebody h) = let k = h.below in somebody (record { below = omega arith; holds = h.holds; most = last_or (AtMost best) n h.most (λ q. absurd (true_and_false q e)); lowest = h.lowest })

    module _ (e : has_accepted (answer_at d n) ≡ true) where
      -- it is the first that holds something
      first : best ≡ 12 → High n best → High (suc n) n
      first k (nobody z f) = somebody (record { below = omega arith; holds = e; most = last_or (AtMost n) n (λ s l q. absurd (true_and_false q (f s l))) (λ q. omega arith); lowest = λ s l q. absurd (true_and_false q (f s l)) })
      first k (somebody h) = let q = h.below in absurd (omega arith)

      -- it is at a higher ballot
      higher : best ≢ 12 → (answer_at d best).accepted.ballot < (answer_at d n).accepted.ballot → High n best → High (suc n) n
      higher k q (nobody z f) = absurd (k z)
      higher k q (somebody h) = somebody (record { below = omega arith; holds = e; most = last_or (AtMost n) n (λ s l p. omega (arith, h.most s l p)) (λ p. omega arith); lowest = λ s l p. omega (arith, h.most s l p) })

      -- it is not
      no-higher : best ≢ 12 → (answer_at d n).accepted.ballot ≤ (answer_at d best).accepted.ballot → High n best → High (suc n) best
      no-higher k q (nobody z f) = absurd (k z)
      no-higher k q (somebody h) = let b = h.below in somebody (record { below = omega arith; holds = h.holds; most = last_or (AtMost best) n h.most (λ p. q); lowest = h.lowest })

    -- what three tests choose that say which it is
    chosen : (r : ℕ) (a b c : Bool) → r ≡ cond a best (cond b n (cond c n best)) →
        (a ≡ true → has_accepted (answer_at d n) ≡ false) → (a ≡ false → has_accepted (answer_at d n) ≡ true) →
        (b ≡ true → best ≡ 12) → (b ≡ false → best ≢ 12) →
        (c ≡ true → (answer_at d best).accepted.ballot < (answer_at d n).accepted.ballot) → (c ≡ false → (answer_at d n).accepted.ballot ≤ (answer_at d best).accepted.ballot) →
        High n best → High (suc n) r
    chosen r true b c q a1 a0 b1 b0 c1 c0 h = subst (High (suc n)) (sym q) (bare (a1 refl) h)
    chosen r false true c q a1 a0 b1 b0 c1 c0 h = subst (High (suc n)) (sym q) (first (a0 refl) (b1 refl) h)
    chosen r false false true q a1 a0 b1 b0 c1 c0 h = subst (High (suc n)) (sym q) (higher (a0 refl) (b0 refl) (c1 refl) h)
    chosen r false false false q a1 a0 b1 b0 c1 c0 h = subst (High (suc n)) (sym q) (no-higher (a0 refl) (b0 refl) (c0 refl) h)

  better-high : (n best : ℕ) → n < 12 → High n best → High (suc n) (better d n best)
  unfolding better
  better-high n best l h =
      chosen n best l (better d n best) _ _ _ refl
      (not_yes (has_accepted (answer_at d n))) (not_no (has_accepted (answer_at d n)))
      (eqb-true best 12) (eqb-false best 12)
      (ltb-true (answer_at d best).accepted.ballot (answer_at d n).accepted.ballot) (ltb-false (answer_at d best).accepted.ballot (answer_at d n).accepted.ballot)
      h

  high-from : (n : ℕ) → n ≤ 12 → High n (iter (better d) 12 n)
  unfolding iter
  high-from zero l = nobody refl (λ s l. absurd (omega arith))
  high-from (suc n) l = better-high n (iter (better d) 12 n) (omega arith) (high-from n (omega arith))

  pub high_is : High 12 (highest d)
  unfolding highest
  high_is = high-from 12 (omega arith)

  -- the server that holds the highest accepted ballot holds one
  pub highest-accepted : highest d < 12 → has_accepted (answer_at d (highest d)) ≡ true
  highest-accepted l = go high_is
    where
      go : High 12 (highest d) → has_accepted (answer_at d (highest d)) ≡ true
      go (nobody z f) = absurd (omega arith)
      go (somebody h) = h.holds

  -- ---- what phase 0 takes

  -- where one of the twelve holds an accepted set, the highest is there
  pub highest-best : (s : ℕ) → s < 12 → has_accepted (answer_at d s) ≡ true → Best 12 (highest d)
  highest-best s l e = go high_is
    where
      go : High 12 (highest d) → Best 12 (highest d)
      go (nobody z f) = absurd (true_and_false e (f s l))
      go (somebody h) = h

  pub highest-taken : d.phase ≡ 0 → (s : ℕ) → s < 12 → has_accepted (answer_at d s) ≡ true → decide d ≡ to_phase 2 d (answer_at d (highest d)).accepted.set
  unfolding decide decide0
  highest-taken p s l e =
      cond_true (eqb d.phase 0) _ _ (eq-eqb d.phase 0 p)
      ∙ cond_true (ltb (highest d) 12) _ _ (lt-ltb (highest d) 12 (highest-best s l e).below)
