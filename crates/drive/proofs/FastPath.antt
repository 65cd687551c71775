-- Document 01, "The drive", phase 1: the fast path, from phase 1 straight to phase 3, is for the first ballot alone, with the answers of all servers of T's shards, and with equal words within each shard. Assumes nothing.
use mathlib.Core.Path.{◌≡◌, refl}
use mathlib.Core.Bool.{Bool, true, false, cond, ◌&&◌}
use Prim.Native.Nat.{ℕ, ◌<◌}
use native.Mathlib.Omega.{arith}
use borrow.Author.Tests.{eqb-true}
use lib.Dec.{eqb}
use Rattle.masks.specs.Folds.{all_below}
use Rattle.masks.proofs.Bools.{and_yes, and_yes-l, and_yes_r, then_yes}
use Rattle.masks.proofs.FoldLaws.{all_at}
use Rattle.rules.specs.Cluster.{server_of}
use Rattle.drive.specs.declared.Drive.{Drive}
use Rattle.drive.specs.Held.{answer_at, counted, touched, addressed}
use Rattle.drive.specs.Decide.{answered, all_answered, has_word, word_there, agree, equal_in, equal_words, decide1, decide}

module _ (d : Drive) where
  -- ---- the tests in words

  pub everyone : all_answered d ≡ true → (s : ℕ) → s < 12 → addressed (touched d) s ≡ true → counted d s ≡ true
  unfolding all_answered answered
  everyone e s l t = then_yes (addressed (touched d) s) (counted d s) (all_at (answered d) 12 s e l) t

  pub equal_word : equal_words d ≡ true → (s : ℕ) → s < 12 → counted d s ≡ true → has_word (answer_at d s) ≡ true
  unfolding equal_words word_there
  equal_word e s l q = then_yes (counted d s) (has_word (answer_at d s)) (all_at (word_there d) 12 s (and_yes-l (all_below (word_there d) 12) (all_below (equal_in d) 4) e) l) q

  pub agreed : (s u : ℕ) → agree d s u ≡ true → counted d s ≡ true → counted d u ≡ true → (answer_at d s).arrival.word ≡ (answer_at d u).arrival.word
  unfolding agree
  agreed s u e p q = eqb-true (answer_at d s).arrival.word (answer_at d u).arrival.word (then_yes (counted d s && counted d u) (eqb (answer_at d s).arrival.word (answer_at d u).arrival.word) e (and_yes (counted d s) (counted d u) p q))

  -- the three servers of shard k agree
  pub record Equals (k : ℕ) : Type 0 where
    pub e01 : agree d (server_of k 0) (server_of k 1) ≡ true
    pub e02 : agree d (server_of k 0) (server_of k 2) ≡ true
    pub e12 : agree d (server_of k 1) (server_of k 2) ≡ true

  pub equals : equal_words d ≡ true → (k : ℕ) → k < 4 → Equals k
  unfolding equal_words equal_in
  equals e k l =
      let h = all_at (equal_in d) 4 k (and_yes_r (all_below (word_there d) 12) (all_below (equal_in d) 4) e) l in
      let p = and_yes-l (agree d (server_of k 0) (server_of k 1) && agree d (server_of k 0) (server_of k 2)) (agree d (server_of k 1) (server_of k 2)) h in
      record {
        e01 = and_yes-l (agree d (server_of k 0) (server_of k 1)) (agree d (server_of k 0) (server_of k 2)) p;
        e02 = and_yes_r (agree d (server_of k 0) (server_of k 1)) (agree d (server_of k 0) (server_of k 2)) p;
        e12 = and_yes_r (agree d (server_of k 0) (server_of k 1) && agree d (server_of k 0) (server_of k 2)) (agree d (server_of k 1) (server_of k 2)) h;
      }

  -- ---- the fast path

  pub record Fast : Type 0 where
    pub first : d.ballot ≡ 0
    pub all : all_answered d ≡ true
    pub equal : equal_words d ≡ true

  -- the three tests of phase 1, and that it makes them
  record Tests (first all equal : Bool) : Type 0 where
    first-yes : first ≡ true
    all_yes : all ≡ true
    equal-yes : equal ≡ true

  tests : (first all equal : Bool) → (decide1 d first all equal).phase ≡ 3 → Tests first all equal
  unfolding decide1
  tests true true true e = record { first-yes = refl; all_yes = refl; equal-yes = refl }
  tests true true false e = absurd (omega arith)
  tests true false equal e = absurd (omega arith)
  tests false all equal e = absurd (omega arith)

  in-phase1 : (n : ℕ) (x y z : Drive) → n ≡ 1 → (cond (eqb n 0) x (cond (eqb n 1) y z)).phase ≡ 3 → y.phase ≡ 3
  in-phase1 n x y z p e = rw p at e

  pub fast-path : d.phase ≡ 1 → (decide d).phase ≡ 3 → Fast
  unfolding decide
  fast-path p e =
      let k = tests _ _ _ (in-phase1 d.phase _ _ _ p e) in
      record { first = eqb-true d.ballot 0 k.first-yes; all = k.all_yes; equal = k.equal-yes }
