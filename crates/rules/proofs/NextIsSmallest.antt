-- The next ballot is the smallest one of the coordinator above the number, and it is refused by 9 exactly where there is none.
-- Assumes nothing.
use Prim.Native.Nat.{ℕ, ◌+◌, ◌<◌, ◌≤◌, ◌%◌}
use mathlib.Core.Path.{◌≡◌, refl}
use mathlib.Core.Bool.{Bool, true, false}
use native.Mathlib.Omega.{arith}
use native.Mathlib.Decide.{dec_lt}
use lib.Dec.{leb, eqb}
use borrow.Author.Tests.{lt-ltb, le-ltb, ltb-true, ltb-false, leb-true, leb-false, le-leb, eqb-true, eq-eqb}
use Rattle.masks.proofs.Bools.{and_yes-l, and_yes_r}
use Rattle.rules.specs.Cluster.{bad_coordinator}
use Rattle.rules.specs.Ballots.{first_recovery, last_ballot, step, recovery, recovers_with, next_above, no_next, next_refusal, next_ballot, Next}

module _ (c n : ℕ) where
  pub next-is : c ≤ 7 → Next c n (next_above c n)
  unfolding next_above
  next-is h = go (dec_lt n (8 + c))
    where
      go : Dec (n < 8 + c) → Next c n (next_above c n)
      go (yes y) = rw (lt-ltb n (8 + c) y) (record { lawful = omega arith; own = omega arith; above = omega arith; smallest = λ a p q r. omega arith })
      go (no k) = rw (le-ltb n (8 + c) (omega arith)) (record { lawful = omega arith; own = omega arith; above = omega arith; smallest = λ a p q r. omega arith })

  pub not-past : no_next c n ≡ false → next_above c n ≤ last_ballot
  unfolding no_next
  not-past e = ltb-false last_ballot (next_above c n) e

  pub past : no_next c n ≡ true → last_ballot < next_above c n
  unfolding no_next
  past e = ltb-true last_ballot (next_above c n) e

  -- the three outcomes of a request for the next ballot
  data Outcome : Type 0 where
    stranger : bad_coordinator c ≡ true → next_refusal c n ≡ 1 → (next_ballot c n).ballot ≡ 0 → Outcome
    none : c ≤ 7 → no_next c n ≡ true → next_refusal c n ≡ 9 → (next_ballot c n).ballot ≡ 0 → Outcome
    given : c ≤ 7 → no_next c n ≡ false → next_refusal c n ≡ 0 → (next_ballot c n).ballot ≡ next_above c n → Outcome

  outcome : Outcome
  unfolding next_ballot next_refusal
  outcome = go (bad_coordinator c) (no_next c n) refl refl
    where
      go : (bad past : Bool) → bad_coordinator c ≡ bad → no_next c n ≡ past → Outcome
      go true past e f = stranger e (rw e) (rw e)
      go false true e f = let h = leb-false 8 c e in none (omega arith) f (rw (e, f)) (rw (e, f))
      go false false e f = let h = leb-false 8 c e in given (omega arith) f (rw (e, f)) (rw (e, f))

-- 9: no ballot that c recovers with is above n
pub none_left : (c n : ℕ) → next_refusal c n ≡ 9 → (b : ℕ) → recovers_with c b ≡ true → n < b → ⊥
none_left c n e b own h = go (outcome c n)
  where
    go : Outcome c n → ⊥
    go (stranger x f y) = omega arith
    go (given x y f z) = omega arith
    go (none small gone f z) =
        let first = leb-true first_recovery b (and_yes-l (leb first_recovery b) (leb b last_ballot) (and_yes-l (recovery b) (eqb (b % step) c) own)) in
        let last = leb-true b last_ballot (and_yes_r (leb first_recovery b) (leb b last_ballot) (and_yes-l (recovery b) (eqb (b % step) c) own)) in
        let rest = eqb-true (b % step) c (and_yes_r (recovery b) (eqb (b % step) c) own) in
        omega (arith, (next-is c n small).smallest b first rest h, past c n gone)

-- 0: the ballot is one that c recovers with, and the next above n
pub record Given (c n b : ℕ) : Type 0 where
  pub coordinator : c ≤ 7
  pub next : Next c n b
  pub last : b ≤ last_ballot
  pub own : recovers_with c b ≡ true

pub given_next : (c n : ℕ) → next_refusal c n ≡ 0 → Given c n (next_ballot c n).ballot
given_next c n e = go (outcome c n)
  where
    go : Outcome c n → Given c n (next_ballot c n).ballot
    go (stranger x f y) = absurd (omega arith)
    go (none x y f z) = absurd (omega arith)
    go (given small kept f z) = rw z (made (next-is c n small) (not-past c n kept))
      where
        made : Next c n (next_above c n) → next_above c n ≤ last_ballot → Given c n (next_above c n)
        made x l =
            record {
              coordinator = small;
              next = x;
              last = l;
              own = rw (le-leb first_recovery (next_above c n) x.lawful, le-leb (next_above c n) last_ballot l, eq-eqb (next_above c n % step) c x.own);
            }
