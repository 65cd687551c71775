-- When the counted answers decide, in document 01's words and both ways: all servers of T's shards answered, two answers in each shard, and which of these a phase needs.
-- Where they do not, who is missing. Assumes nothing.
use mathlib.Core.Path.{◌≡◌, refl}
use mathlib.Core.Logic.{◌↔◌}
use mathlib.Core.Bool.{Bool, true, false, not, cond, ◌||◌}
use Prim.Native.Nat.{ℕ, zero, suc, ◌+◌, ◌*◌, ◌/◌, ◌≤◌, ◌<◌}
use native.Mathlib.Decide.{ℕ_discrete}
use native.Mathlib.Omega.{arith}
use lib.Dec.{leb}
use borrow.Author.Tests.{eq-eqb, ne_eqb}
use Rattle.masks.specs.Bits.{has, In}
use Rattle.masks.specs.Folds.{count_below}
use Rattle.masks.proofs.Bools.{or_no_l, or_no_r, not_no, not_true_false, true_and_false}
use Rattle.masks.proofs.Laws.{has_in}
use Rattle.masks.proofs.FoldLaws.{all_no, no_all}
use Rattle.rules.specs.Pieces.{shards_of}
use Rattle.wire.proofs.FaultsAre.{There, there_is}
use Rattle.drive.specs.declared.Drive.{Drive}
use Rattle.drive.specs.Held.{answer_at, counted, touched, addressed}
use Rattle.drive.specs.Decide.{answered, all_answered, counted_in, two_in, two_in_each, decided}
use Rattle.drive.proofs.QuorumOfTwo.{two_true}
use Rattle.drive.proofs.Tests.{if_is, all_are, in_is}

-- two of three are at least two
two_count : (f : ℕ → Bool) (a b : ℕ) → a < b → b ≤ 2 → f a ≡ true → f b ≡ true → leb 2 (count_below f 3) ≡ true
unfolding count_below
two_count f zero (suc zero) l m p q = rw (p, q) (go (f 2))
  where
    go : (c : Bool) → leb 2 (cond c (0 + 1 + 1 + 1) (0 + 1 + 1)) ≡ true
    go true = refl
    go false = refl
two_count f zero (suc (suc zero)) l m p q = rw (p, q) (go (f 1))
  where
    go : (c : Bool) → leb 2 (cond c (0 + 1 + 1) (0 + 1) + 1) ≡ true
    go true = refl
    go false = refl
two_count f (suc zero) (suc (suc zero)) l m p q = rw (p, q) (go (f 0))
  where
    go : (c : Bool) → leb 2 (cond c (0 + 1) 0 + 1 + 1) ≡ true
    go true = refl
    go false = refl
two_count f zero zero l m p q = absurd (omega arith)
two_count f (suc a) zero l m p q = absurd (omega arith)
two_count f (suc a) (suc zero) l m p q = absurd (omega arith)
two_count f (suc (suc a)) (suc (suc zero)) l m p q = absurd (omega arith)
two_count f a (suc (suc (suc b))) l m p q = absurd (omega arith)

module _ (d : Drive) where
  -- the answer of s is counted
  abbrev pub Counted : ℕ → Type 0
  Counted s = There (answer_at d s).counted

  -- s is a server of T's shards
  abbrev pub Asked : ℕ → Type 0
  Asked s = In (shards_of d.pieces) (s / 3)

  -- two of the three servers of shard k
  pub record TwoOf (k : ℕ) : Type 0 where
    pub one : ℕ
    pub other : ℕ
    pub different : one < other
    pub replicas : other ≤ 2
    pub first : Counted (3 * k + one)
    pub second : Counted (3 * k + other)

  pub counted_is : (s : ℕ) → (counted d s ≡ true) ↔ Counted s
  counted_is s = there_is (answer_at d s).counted

  -- "all servers of T's shards answered"
  abbrev pub AllAnswered : Type 0
  AllAnswered = (s : ℕ) → s ≤ 11 → Asked s → Counted s

  pub answered-is : (s : ℕ) → (answered d s ≡ true) ↔ (Asked s → Counted s)
  unfolding answered
  answered-is s = if_is (Asked s) (Counted s) (addressed (touched d) s) (counted d s) (in_is (touched d) (s / 3)) (counted_is s)

  pub all-answered : (all_answered d ≡ true) ↔ AllAnswered
  unfolding all_answered
  all-answered = all_are (λ s. Asked s → Counted s) (answered d) 11 answered-is

  two_of_lem : (k : ℕ) → (leb 2 (count_below (counted_in d k) 3) ≡ true) ↔ TwoOf k
  two_of_lem k = (λ e. let h = two_true (counted_in d k) e in record { one = h.one; other = h.other; different = h.different; replicas = omega (arith, h.replicas); first = (counted_is _).0 h.one_holds; second = (counted_is _).0 h.other-holds }, back)
    where
      back : TwoOf k → leb 2 (count_below (counted_in d k) 3) ≡ true
      back h = two_count (counted_in d k) h.one h.other h.different h.replicas ((counted_is _).1 h.first) ((counted_is _).1 h.second)

  -- "two answers in each"
  abbrev pub TwoInEach : Type 0
  TwoInEach = (k : ℕ) → k ≤ 3 → In (shards_of d.pieces) k → TwoOf k

  pub two_is : (k : ℕ) → (two_in d k ≡ true) ↔ (In (shards_of d.pieces) k → TwoOf k)
  unfolding two_in
  two_is k = if_is (In (shards_of d.pieces) k) (TwoOf k) (has (touched d) k) (leb 2 (count_below (counted_in d k) 3)) (in_is (touched d) k) (two_of_lem k)

  pub two-in-each : (two_in_each d ≡ true) ↔ TwoInEach
  unfolding two_in_each
  two-in-each = all_are (λ k. In (shards_of d.pieces) k → TwoOf k) (two_in d) 3 two_is

  -- "Phases 0 and 1 decide when all servers of T's shards answered .. Phase 2 decides at once with two in each"
  pub decided-is : (decided d ≡ true) ↔ ((d.phase ≡ 2 → TwoInEach) × ((d.phase ≡ 2 → ⊥) → AllAnswered))
  unfolding decided
  decided-is = (λ e. (λ p. two-in-each.0 (rw (eq-eqb d.phase 2 p) at e), λ n. all-answered.0 (rw (ne_eqb d.phase 2 n) at e)), λ h. by h (ℕ_discrete d.phase 2))
    where
      by : (d.phase ≡ 2 → TwoInEach) × ((d.phase ≡ 2 → ⊥) → AllAnswered) → Dec (d.phase ≡ 2) → decided d ≡ true
      by h (yes p) = rw (eq-eqb d.phase 2 p) (two-in-each.1 (h.0 p))
      by h (no n) = rw (ne_eqb d.phase 2 n) (all-answered.1 (h.1 n))

  -- ---- who is missing

  -- a server of T's shards that did not answer
  pub record Missing : Type 0 where
    pub server : ℕ
    pub number : server ≤ 11
    pub asked : Asked server
    pub silent : Counted server → ⊥

  -- a shard of T in which no two answered
  pub record Thin : Type 0 where
    pub shard : ℕ
    pub number : shard ≤ 3
    pub touched : In (shards_of d.pieces) shard
    pub alone : TwoOf shard → ⊥

  if-not : (a b : Bool) → (not a || b) ≡ false → (a ≡ true) × (b ≡ false)
  if-not a b e = (not_no a (or_no_l (not a) b e), or_no_r (not a) b e)

  pub missing-is : (all_answered d ≡ false) ↔ Missing
  unfolding all_answered answered
  missing-is = (
    λ e.
        let f = all_no (answered d) 12 e in
        let g = if-not (addressed (touched d) f.0) (counted d f.0) f.2 in
        record { server = f.0; number = omega (arith, f.1); asked = has_in g.0; silent = λ c. true_and_false ((counted_is f.0).1 c) g.1 },
    λ h. no_all (answered d) 12 h.server (omega (arith, h.number)) (not_true_false (answered d h.server) (λ y. h.silent ((answered-is h.server).0 y h.asked))),
  )

  pub thin_is : (two_in_each d ≡ false) ↔ Thin
  unfolding two_in_each two_in
  thin_is = (
    λ e.
        let f = all_no (two_in d) 4 e in
        let g = if-not (has (touched d) f.0) (leb 2 (count_below (counted_in d f.0) 3)) f.2 in
        record { shard = f.0; number = omega (arith, f.1); touched = has_in g.0; alone = λ c. true_and_false ((two_of_lem f.0).1 c) g.1 },
    λ h. no_all (two_in d) 4 h.shard (omega (arith, h.number)) (not_true_false (two_in d h.shard) (λ y. h.alone ((two_is h.shard).0 y h.touched))),
  )
