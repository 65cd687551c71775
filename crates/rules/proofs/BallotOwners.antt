-- Which numbers are ballots, and that a ballot of a number has one owner. Assumes nothing.
use Prim.Native.Nat.{ℕ, ◌%◌, ◌≤◌}
use mathlib.Core.Path.{◌≡◌, sym, ap, ◌∙◌}
use mathlib.Core.Bool.{true, false, not, ◌||◌}
use mathlib.Core.Logic.{◌⊎◌, inl, inr, ⊎_elim}
use native.Mathlib.Decide.{ℕ_discrete}
use native.Mathlib.Omega.{arith}
use lib.Dec.{leb, eqb}
use borrow.Author.Tests.{leb-true, le-leb, eqb-true, eq-eqb, ne_eqb}
use Rattle.masks.proofs.Bools.{and_yes, and_yes-l, and_yes_r, or_yes, or_yes-l, or_yes_r, not_no}
use Rattle.rules.specs.Ballots.{first_recovery, step, last_ballot, origin, recovery, bad_ballot, recovers_with, may_use}

-- a ballot is 0, or one of a recovery
module _ (b : ℕ) where
  pub recovery-is : recovery b ≡ true → (first_recovery ≤ b) × (b ≤ last_ballot)
  recovery-is e = (leb-true first_recovery b (and_yes-l (leb first_recovery b) (leb b last_ballot) e), leb-true b last_ballot (and_yes_r (leb first_recovery b) (leb b last_ballot) e))

  pub is-recovery : first_recovery ≤ b → b ≤ last_ballot → recovery b ≡ true
  is-recovery l m = and_yes (leb first_recovery b) (leb b last_ballot) (le-leb first_recovery b l) (le-leb b last_ballot m)

  pub ballot-is : bad_ballot b ≡ false → (b ≡ 0) ⊎ (recovery b ≡ true)
  ballot-is e = ⊎_elim (λ z. inl (eqb-true b 0 z)) (λ r. inr r) (or_yes (eqb b 0) (recovery b) (not_no (eqb b 0 || recovery b) e))

  pub recovery-ballot : recovery b ≡ true → bad_ballot b ≡ false
  recovery-ballot e = ap not (or_yes_r (eqb b 0) (recovery b) e)

module _ (c b : ℕ) where
  pub recovers-recovery : recovers_with c b ≡ true → recovery b ≡ true
  recovers-recovery e = and_yes-l (recovery b) (eqb (b % step) c) e

  pub recovers-own : recovers_with c b ≡ true → b % step ≡ c
  recovers-own e = eqb-true (b % step) c (and_yes_r (recovery b) (eqb (b % step) c) e)

-- what may be used: 0 by the origin, any other by the one that it leaves as remainder
module _ (c t : ℕ) where
  pub may-use-0 : may_use c t 0 ≡ true → c ≡ origin t
  unfolding may_use
  may-use-0 e = eqb-true c (origin t) e

  pub origin-may-use : c ≡ origin t → may_use c t 0 ≡ true
  unfolding may_use
  origin-may-use e = eq-eqb c (origin t) e

  pub may-use-recovery : (b : ℕ) → (b ≡ 0 → ⊥) → may_use c t b ≡ true → recovers_with c b ≡ true
  unfolding may_use
  may-use-recovery b n e = rw (ne_eqb b 0 n) at e

  pub recovery-may-use : (b : ℕ) → recovers_with c b ≡ true → may_use c t b ≡ true
  unfolding may_use
  recovery-may-use b e = let l = (recovery-is b (recovers-recovery c b e)).0 in rw (ne_eqb b 0 (λ z. omega arith)) e

  pub may-use-ballot : (b : ℕ) → may_use c t b ≡ true → bad_ballot b ≡ false
  may-use-ballot b e = go (ℕ_discrete b 0)
    where
      go : Dec (b ≡ 0) → bad_ballot b ≡ false
      go (yes z) = ap not (or_yes-l (eqb b 0) (recovery b) (eq-eqb b 0 z))
      go (no n) = recovery-ballot b (recovers-recovery c b (may-use-recovery b n e))

-- one owner
pub one_owner : (c d t b : ℕ) → may_use c t b ≡ true → may_use d t b ≡ true → c ≡ d
one_owner c d t b p q = go (ℕ_discrete b 0)
  where
    go : Dec (b ≡ 0) → c ≡ d
    go (yes z) = may-use-0 c t (rw z at p) ∙ sym (may-use-0 d t (rw z at q))
    go (no n) = sym (recovers-own c b (may-use-recovery c t b n p)) ∙ recovers-own d b (may-use-recovery d t b n q)
