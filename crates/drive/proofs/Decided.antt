-- A decision leaves the drive's number, ballot, coordinator, pieces and promises, and begins with no answers; and all answers are two in each shard. Assumes nothing.
use mathlib.Core.Path.{◌≡◌, refl, subst}
use mathlib.Core.Logic.{◌≢◌}
use mathlib.Core.Bool.{Bool, true, false, cond, ◌&&◌}
use Prim.Native.Nat.{ℕ, ◌<◌}
use native.Mathlib.Omega.{arith}
use borrow.Author.Tests.{eqb-true, eqb-false, ltb-true}
use lib.Dec.{eqb, ltb, leb, lit<}
use Rattle.masks.proofs.Bools.{yes_then}
use Rattle.masks.specs.Bits.{has}
use Rattle.masks.specs.Folds.{count_below}
use Rattle.masks.proofs.FoldLaws.{all_of}
use Rattle.rules.specs.Cluster.{server_of}
use Rattle.drive.specs.declared.Drive.{Drive}
use Rattle.drive.specs.Held.{counted, touched, to_phase, to_phase1, answer_at}
use Rattle.drive.specs.Decide.{all_answered, counted_in, two_in, two_in_each, decided, equal_words, highest, unions, decide0, decide1, decide2, decide}
use Rattle.drive.proofs.QuorumOfTwo.{three-count}
use Rattle.drive.proofs.FastPath.{everyone}

-- which decisions there are
pub data Decision (d : Drive) : Drive → Type 0 where
  highest2 : d.phase ≡ 0 → highest d < 12 → Decision d (to_phase 2 d (answer_at d (highest d)).accepted.set)
  equal2 : d.phase ≡ 0 → Decision d (to_phase 2 d (unions d))
  again1 : d.phase ≡ 0 → Decision d (to_phase1 d)
  quick3 : d.phase ≡ 1 → Decision d (to_phase 3 d (unions d))
  union2 : d.phase ≡ 1 → Decision d (to_phase 2 d (unions d))
  voted3 : d.phase ≢ 0 → d.phase ≢ 1 → Decision d (to_phase 3 d d.chosen.set)

pub decision : (d : Drive) → Decision d (decide d)
unfolding decide decide0 decide1 decide2
decision d = go (eqb d.phase 0) refl (eqb d.phase 1) refl
  where
    at0 : d.phase ≡ 0 → (b g : Bool) → ltb (highest d) 12 ≡ b → Decision d (cond b (to_phase 2 d (answer_at d (highest d)).accepted.set) (cond g (to_phase 2 d (unions d)) (to_phase1 d)))
    at0 p true g e = highest2 p (ltb-true (highest d) 12 e)
    at0 p false true e = equal2 p
    at0 p false false e = again1 p

    at1 : d.phase ≡ 1 → (g : Bool) → Decision d (cond g (to_phase 3 d (unions d)) (to_phase 2 d (unions d)))
    at1 p true = quick3 p
    at1 p false = union2 p

    go : (a : Bool) → eqb d.phase 0 ≡ a → (b : Bool) → eqb d.phase 1 ≡ b → Decision d (cond a (decide0 d (highest d) (equal_words d)) (cond b (decide1 d (eqb d.ballot 0) (all_answered d) (equal_words d)) (decide2 d)))
    go true e b k = at0 (eqb-true d.phase 0 e) (ltb (highest d) 12) (equal_words d) refl
    go false e true k = at1 (eqb-true d.phase 1 k) (eqb d.ballot 0 && all_answered d && equal_words d)
    go false e false k = voted3 (eqb-false d.phase 0 e) (eqb-false d.phase 1 k)

pub record SameBallot (d e : Drive) : Type 0 where
  pub number : e.t ≡ d.t
  pub ballot : e.ballot ≡ d.ballot

pub decision-ballot : {d e : Drive} → Decision d e → SameBallot d e
decision-ballot (highest2 p l) = record { number = refl; ballot = refl }
decision-ballot (equal2 p) = record { number = refl; ballot = refl }
decision-ballot (again1 p) = record { number = refl; ballot = refl }
decision-ballot (quick3 p) = record { number = refl; ballot = refl }
decision-ballot (union2 p) = record { number = refl; ballot = refl }
decision-ballot (voted3 p q) = record { number = refl; ballot = refl }

-- ---- all servers of a shard are two of it

pub all_two : (d : Drive) → all_answered d ≡ true → two_in_each d ≡ true
unfolding two_in_each two_in
all_two d e = all_of (two_in d) 4 (λ k l. yes_then (has (touched d) k) (leb 2 (count_below (counted_in d k) 3)) (λ t. three-count (counted_in d k) (at k 0 l (lit< tt) t) (at k 1 l (lit< tt) t) (at k 2 l (lit< tt) t)))
  where
    at : (k r : ℕ) → k < 4 → r < 3 → has (touched d) k ≡ true → counted d (server_of k r) ≡ true
    at k r l q t = everyone d e (server_of k r) (omega arith) (subst (λ n. has (touched d) n ≡ true) (omega arith) t)

pub decided_two : (d : Drive) → decided d ≡ true → two_in_each d ≡ true
unfolding decided
decided_two d e = go (eqb d.phase 2) e
  where
    go : (b : Bool) → cond b (two_in_each d) (all_answered d) ≡ true → two_in_each d ≡ true
    go true e = e
    go false e = all_two d e
