-- Rule 1 in plain numbers, both ways: which transaction numbers, servers, coordinators and ballots there are, and who may use which ballot.
-- Assumes nothing.
use Prim.Native.Nat.{ℕ, ◌+◌, ◌*◌, ◌%◌, ◌<◌, ◌≤◌}
use mathlib.Core.Path.{◌≡◌, ap}
use mathlib.Core.Bool.{true, false, not, ◌||◌}
use mathlib.Core.Logic.{◌↔◌, ◌⊎◌, inl, inr, ⊎_elim}
use native.Mathlib.Decide.{ℕ_discrete}
use native.Mathlib.Omega.{arith}
use lib.Dec.{leb, eqb}
use borrow.Author.Tests.{leb-true, leb-false, le-leb, lt-leb, eqb-true, eqb-false, eq-eqb, ne_eqb}
use Rattle.masks.proofs.Bools.{and_yes, and_yes-l, and_yes_r, or_yes-l, or_yes_r, or_no_l, or_no_r, and_no, not_yes, not_no}
use Rattle.rules.specs.Cluster.{NUMBERS, SERVERS, COORDINATORS, bad_number, bad_server, bad_coordinator, shard_of}
use Rattle.rules.specs.Ballots.{first_recovery, step, last_ballot, origin, recovery, bad_ballot, recovers_with, may_use}

-- "T above 63; server above 11; coordinator above 7", and else none
module _ (n : ℕ) where
  pub number-bad : (bad_number n ≡ true) ↔ (63 < n)
  number-bad = (λ e. omega (arith, leb-true NUMBERS n e), λ h. le-leb NUMBERS n (omega arith))

  pub number-good : (bad_number n ≡ false) ↔ (n ≤ 63)
  number-good = (λ e. omega (arith, leb-false NUMBERS n e), λ h. lt-leb NUMBERS n (omega arith))

  pub server-bad : (bad_server n ≡ true) ↔ (11 < n)
  server-bad = (λ e. omega (arith, leb-true SERVERS n e), λ h. le-leb SERVERS n (omega arith))

  pub server-good : (bad_server n ≡ false) ↔ (n ≤ 11)
  server-good = (λ e. omega (arith, leb-false SERVERS n e), λ h. lt-leb SERVERS n (omega arith))

  pub coordinator-bad : (bad_coordinator n ≡ true) ↔ (7 < n)
  coordinator-bad = (λ e. omega (arith, leb-true COORDINATORS n e), λ h. le-leb COORDINATORS n (omega arith))

  pub coordinator-good : (bad_coordinator n ≡ false) ↔ (n ≤ 7)
  coordinator-good = (λ e. omega (arith, leb-false COORDINATORS n e), λ h. lt-leb COORDINATORS n (omega arith))

-- "server = 3 × shard + replica"
pub server-shard : (s k : ℕ) → (shard_of s ≡ k) ↔ ((r : ℕ) × (r ≤ 2) × (s ≡ 3 * k + r))
server-shard s k = (λ e. (s % 3, omega arith, omega arith), λ h. let i = h.2 in omega arith)

-- "1 to 7 or above 65,535"
pub ballot-bad : (b : ℕ) → (bad_ballot b ≡ true) ↔ (((1 ≤ b) × (b ≤ 7)) ⊎ (65535 < b))
ballot-bad b = (λ e. outside (not_yes (eqb b 0 || recovery b) e), λ h. ap not (⊎_elim between past h))
  where
    outside : (eqb b 0 || recovery b) ≡ false → ((1 ≤ b) × (b ≤ 7)) ⊎ (65535 < b)
    outside e =
        let some = eqb-false b 0 (or_no_l (eqb b 0) (recovery b) e) in
        ⊎_elim (λ low. inl (omega (arith, some), omega (arith, leb-false first_recovery b low))) (λ high. inr (omega (arith, leb-false b last_ballot high)))
        (and_no (leb first_recovery b) (leb b last_ballot) (or_no_r (eqb b 0) (recovery b) e))

    between : (1 ≤ b) × (b ≤ 7) → (eqb b 0 || recovery b) ≡ false
    between h = rw (ne_eqb b 0 (λ z. omega arith), lt-leb first_recovery b (omega arith))

    past : 65535 < b → (eqb b 0 || recovery b) ≡ false
    past h = rw (ne_eqb b 0 (λ z. omega arith), le-leb first_recovery b (omega arith), lt-leb b last_ballot (omega arith))

-- "Ballots are 0 to 65,535 .. 1 to 7 are never valid"
pub ballot-good : (b : ℕ) → (bad_ballot b ≡ false) ↔ ((b ≡ 0) ⊎ ((8 ≤ b) × (b ≤ 65535)))
ballot-good b = (λ e. inside (not_no (eqb b 0 || recovery b) e), λ h. ap not (⊎_elim first later h))
  where
    inside : (eqb b 0 || recovery b) ≡ true → (b ≡ 0) ⊎ ((8 ≤ b) × (b ≤ 65535))
    inside e = go (ℕ_discrete b 0)
      where
        go : Dec (b ≡ 0) → (b ≡ 0) ⊎ ((8 ≤ b) × (b ≤ 65535))
        go (yes z) = inl z
        go (no n) =
            let r : recovery b ≡ true = rw (ne_eqb b 0 n) at e in
            inr (omega (arith, leb-true first_recovery b (and_yes-l (leb first_recovery b) (leb b last_ballot) r)), omega (arith, leb-true b last_ballot (and_yes_r (leb first_recovery b) (leb b last_ballot) r)))

    first : b ≡ 0 → (eqb b 0 || recovery b) ≡ true
    first z = or_yes-l (eqb b 0) (recovery b) (eq-eqb b 0 z)

    later : (8 ≤ b) × (b ≤ 65535) → (eqb b 0 || recovery b) ≡ true
    later h = or_yes_r (eqb b 0) (recovery b) (and_yes (leb first_recovery b) (leb b last_ballot) (le-leb first_recovery b (omega arith)) (le-leb b last_ballot (omega arith)))

-- c recovers with b
abbrev pub Recovers : (c b : ℕ) → Type 0
Recovers c b = (8 ≤ b) × (b ≤ 65535) × (b % 8 ≡ c)

pub recovers : (c b : ℕ) → (recovers_with c b ≡ true) ↔ Recovers c b
recovers c b = (
  λ e.
      let r = and_yes-l (recovery b) (eqb (b % step) c) e in
      (omega (arith, leb-true first_recovery b (and_yes-l (leb first_recovery b) (leb b last_ballot) r)), omega (arith, leb-true b last_ballot (and_yes_r (leb first_recovery b) (leb b last_ballot) r)), omega (arith, eqb-true (b % step) c (and_yes_r (recovery b) (eqb (b % step) c) e))),
  λ h. rw (le-leb first_recovery b (omega arith), le-leb b last_ballot (omega arith), eq-eqb (b % step) c (omega arith)),
)

-- "Ballot 0 belongs to the origin", T mod 8; any other to the one coordinator that recovers with it
pub may_use_lem : (c t b : ℕ) → (may_use c t b ≡ true) ↔ (((b ≡ 0) × (c ≡ t % 8)) ⊎ Recovers c b)
unfolding may_use
may_use_lem c t b = (λ e. used e (ℕ_discrete b 0), λ h. ⊎_elim first later h)
  where
    used : may_use c t b ≡ true → Dec (b ≡ 0) → ((b ≡ 0) × (c ≡ t % 8)) ⊎ Recovers c b
    used e (yes z) = inl (z, omega (arith, eqb-true c (origin t) (rw (eq-eqb b 0 z) at e)))
    used e (no n) = inr ((recovers c b).0 (rw (ne_eqb b 0 n) at e))

    first : (b ≡ 0) × (c ≡ t % 8) → may_use c t b ≡ true
    first h = rw (eq-eqb b 0 h.0) (eq-eqb c (origin t) (omega arith))

    later : Recovers c b → may_use c t b ≡ true
    later h = rw (ne_eqb b 0 (λ z. omega arith)) ((recovers c b).1 h)
