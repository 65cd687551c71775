-- The next ballot in plain numbers, both ways: it is refused by 1 exactly for no coordinator and by 9 exactly if the coordinator has no ballot above the number; else it is the smallest one.
-- Assumes nothing.
use Prim.Native.Nat.{ℕ, ◌<◌, ◌≤◌}
use mathlib.Core.Path.{◌≡◌, refl}
use mathlib.Core.Bool.{Bool, true, false}
use mathlib.Core.Logic.{◌↔◌, ⊎_elim}
use native.Mathlib.Omega.{arith}
use Rattle.masks.proofs.Bools.{true_or_false}
use Rattle.rules.specs.Cluster.{bad_coordinator}
use Rattle.rules.specs.Ballots.{next_above, no_next, next_refusal, next_ballot}
use Rattle.rules.proofs.NextIsSmallest.{next-is, past, not-past}
use Rattle.rules.proofs.RuleOne.{coordinator-bad, coordinator-good, Recovers}

-- a ballot above n that c recovers with
abbrev pub Above : (c n b : ℕ) → Type 0
Above c n b = Recovers c b × (n < b)

-- "no next ballot", of a coordinator
pub no_next_lem : (c n : ℕ) → c ≤ 7 → (no_next c n ≡ true) ↔ ((b : ℕ) → Above c n b → ⊥)
no_next_lem c n small = (λ e b h. omega (arith, past c n e, (next-is c n small).smallest b h.0.0 h.0.2 h.1), λ none. ⊎_elim (λ e. e) (λ e. let x = next-is c n small in absurd (none (next_above c n) ((x.lawful, not-past c n e, x.own), x.above))) (true_or_false (no_next c n)))

module _ (c n : ℕ) where
  -- what the answer is, in each of the three cases
  data Answer : Type 0 where
    stranger : 7 < c → (next_ballot c n).refusal ≡ 1 → (next_ballot c n).ballot ≡ 0 → Answer
    nothing : c ≤ 7 → ((b : ℕ) → Above c n b → ⊥) → (next_ballot c n).refusal ≡ 9 → (next_ballot c n).ballot ≡ 0 → Answer
    given : c ≤ 7 → (b : ℕ) → Above c n b → ((a : ℕ) → Above c n a → b ≤ a) → (next_ballot c n).refusal ≡ 0 → (next_ballot c n).ballot ≡ b → Answer

  answer : Answer
  unfolding next_ballot next_refusal
  answer = go (bad_coordinator c) (no_next c n) refl refl
    where
      go : (bad last : Bool) → bad_coordinator c ≡ bad → no_next c n ≡ last → Answer
      go true last e f = stranger ((coordinator-bad c).0 e) (rw e) (rw e)
      go false true e f =
          let small = (coordinator-good c).0 e in
          nothing small ((no_next_lem c n small).0 f) (rw (e, f)) (rw (e, f))
      go false false e f =
          let small = (coordinator-good c).0 e in
          let x = next-is c n small in
          given small (next_above c n) ((x.lawful, not-past c n f, x.own), x.above) (λ a h. x.smallest a h.0.0 h.0.2 h.1) (rw (e, f)) (rw (e, f))

  pub next-stranger : ((next_ballot c n).refusal ≡ 1) ↔ (7 < c)
  next-stranger = (λ e. go answer e, λ h. back answer h)
    where
      go : Answer → (next_ballot c n).refusal ≡ 1 → 7 < c
      go (stranger h r z) e = h
      go (nothing s none r z) e = absurd (omega arith)
      go (given s b h least r z) e = absurd (omega arith)

      back : Answer → 7 < c → (next_ballot c n).refusal ≡ 1
      back (stranger h r z) l = r
      back (nothing s none r z) l = absurd (omega arith)
      back (given s b h least r z) l = absurd (omega arith)

  pub next-none : ((next_ballot c n).refusal ≡ 9) ↔ ((c ≤ 7) × ((b : ℕ) → Above c n b → ⊥))
  next-none = (λ e. go answer e, λ h. back answer h)
    where
      go : Answer → (next_ballot c n).refusal ≡ 9 → (c ≤ 7) × ((b : ℕ) → Above c n b → ⊥)
      go (stranger h r z) e = absurd (omega arith)
      go (nothing s none r z) e = (s, none)
      go (given s b h least r z) e = absurd (omega arith)

      back : Answer → (c ≤ 7) × ((b : ℕ) → Above c n b → ⊥) → (next_ballot c n).refusal ≡ 9
      back (stranger h r z) l = absurd (omega arith)
      back (nothing s none r z) l = r
      back (given s b h least r z) l = absurd (l.1 b h)

  pub next-given : ((next_ballot c n).refusal ≡ 0) ↔ ((c ≤ 7) × ((b : ℕ) × Above c n b))
  next-given = (λ e. go answer e, λ h. back answer h)
    where
      go : Answer → (next_ballot c n).refusal ≡ 0 → (c ≤ 7) × ((b : ℕ) × Above c n b)
      go (stranger h r z) e = absurd (omega arith)
      go (nothing s none r z) e = absurd (omega arith)
      go (given s b h least r z) e = (s, (b, h))

      back : Answer → (c ≤ 7) × ((b : ℕ) × Above c n b) → (next_ballot c n).refusal ≡ 0
      back (stranger h r z) l = absurd (omega arith)
      back (nothing s none r z) l = absurd (none l.1.0 l.1.1)
      back (given s b h least r z) l = r

  -- the ballot itself: the smallest such ballot, and 0 where it is refused
  pub next-smallest : (next_ballot c n).refusal ≡ 0 → Above c n (next_ballot c n).ballot × ((a : ℕ) → Above c n a → (next_ballot c n).ballot ≤ a)
  next-smallest e = go answer
    where
      go : Answer → Above c n (next_ballot c n).ballot × ((a : ℕ) → Above c n a → (next_ballot c n).ballot ≤ a)
      go (stranger h r z) = absurd (omega arith)
      go (nothing s none r z) = absurd (omega arith)
      go (given s b h least r z) = rw z (h, least)

  pub next-refused : ((next_ballot c n).refusal ≡ 0 → ⊥) → (next_ballot c n).ballot ≡ 0
  next-refused f = go answer
    where
      go : Answer → (next_ballot c n).ballot ≡ 0
      go (stranger h r z) = z
      go (nothing s none r z) = z
      go (given s b h least r z) = absurd (f r)
