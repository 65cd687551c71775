-- Dependency sets by their words: equality, union, all members, and what rule 3 asks of each word.
-- Assumes nothing.
use Prim.Native.Nat.{ℕ, zero, suc, ◌<◌}
use mathlib.Core.Path.{◌≡◌, refl, ap, ◌∙◌}
use mathlib.Core.Bool.{Bool, true, false, not, ◌&&◌}
use native.Mathlib.Omega.{arith}
use lib.Dec.{eqb}
use borrow.Author.Tests.{eq-eqb, eqb-true, ne_eqb}
use Rattle.masks.specs.Bits.{has, none, union, In}
use Rattle.masks.specs.Folds.{any_below}
use Rattle.masks.proofs.Bools.{and_yes-l, and_yes_r, or_no, or_no_l, or_no_r, not_no}
use Rattle.masks.proofs.Laws.{has-union, has-none}
use Rattle.masks.proofs.FoldLaws.{any_no, no_any, has-unions, in_unions, in_unions_of}
use Rattle.rules.specs.declared.Set.{Set}
use Rattle.rules.specs.Cluster.{SHARDS}
use Rattle.rules.specs.Sets.{no_set, word, set_of, members, union_set, same_set, bad_word, bad_word_at, bad_set}

-- the word of each shard
pub word_of : (f : ℕ → ℕ) (k : ℕ) → k < SHARDS → word (set_of f) k ≡ f k
unfolding word
word_of f zero l = refl
word_of f (suc zero) l = refl
word_of f (suc (suc zero)) l = refl
word_of f (suc (suc (suc zero))) l = refl
word_of f (suc (suc (suc (suc k)))) l = absurd (omega arith)

pub set_of_lem : (v : Set) → set_of (word v) ≡ v
unfolding word
set_of_lem v = refl

pub word_none : (k : ℕ) → k < SHARDS → word no_set k ≡ none
word_none k l = word_of (λ x. none) k l

-- equal sets
module _ (a b : Set) where
  pub same_set_lem : same_set a b ≡ true → a ≡ b
  unfolding same_set
  same_set_lem e =
      let p = and_yes-l (eqb a.w0 b.w0 && eqb a.w1 b.w1 && eqb a.w2 b.w2) (eqb a.w3 b.w3) e in
      let q = and_yes-l (eqb a.w0 b.w0 && eqb a.w1 b.w1) (eqb a.w2 b.w2) p in
      let e0 : a.w0 ≡ b.w0 = eqb-true a.w0 b.w0 (and_yes-l (eqb a.w0 b.w0) (eqb a.w1 b.w1) q) in
      let e1 : a.w1 ≡ b.w1 = eqb-true a.w1 b.w1 (and_yes_r (eqb a.w0 b.w0) (eqb a.w1 b.w1) q) in
      let e2 : a.w2 ≡ b.w2 = eqb-true a.w2 b.w2 (and_yes_r (eqb a.w0 b.w0 && eqb a.w1 b.w1) (eqb a.w2 b.w2) p) in
      let e3 : a.w3 ≡ b.w3 = eqb-true a.w3 b.w3 (and_yes_r (eqb a.w0 b.w0 && eqb a.w1 b.w1 && eqb a.w2 b.w2) (eqb a.w3 b.w3) e) in
      λ i. record { w0 = e0 i; w1 = e1 i; w2 = e2 i; w3 = e3 i }

  pub set_same : a ≡ b → same_set a b ≡ true
  unfolding same_set
  set_same e =
      rw (eq-eqb a.w0 b.w0 (ap (λ (v : Set). v.w0) e), eq-eqb a.w1 b.w1 (ap (λ (v : Set). v.w1) e), eq-eqb a.w2 b.w2 (ap (λ (v : Set). v.w2) e), eq-eqb a.w3 b.w3 (ap (λ (v : Set). v.w3) e))

  -- sets are equal if their words are
  pub same-words : ((k : ℕ) → k < SHARDS → word a k ≡ word b k) → a ≡ b
  unfolding word
  same-words h =
      let e0 : a.w0 ≡ b.w0 = h 0 (omega arith) in
      let e1 : a.w1 ≡ b.w1 = h 1 (omega arith) in
      let e2 : a.w2 ≡ b.w2 = h 2 (omega arith) in
      let e3 : a.w3 ≡ b.w3 = h 3 (omega arith) in
      λ i. record { w0 = e0 i; w1 = e1 i; w2 = e2 i; w3 = e3 i }

  -- the word of a union
  pub word-union : (k : ℕ) → word (union_set a b) k ≡ union (word a k) (word b k)
  unfolding word union_set
  word-union zero = refl
  word-union (suc zero) = refl
  word-union (suc (suc zero)) = refl
  word-union (suc (suc (suc k))) =
      rw (ne_eqb (suc (suc (suc k))) 0 (λ e. omega arith), ne_eqb (suc (suc (suc k))) 1 (λ e. omega arith), ne_eqb (suc (suc (suc k))) 2 (λ e. omega arith))

-- all numbers of a set
module _ (v : Set) (t : ℕ) where
  pub has-members : has (members v) t ≡ any_below (λ k. has (word v k) t) SHARDS
  unfolding members
  has-members = has-unions (word v) SHARDS t

  pub in_members : In (members v) t → (k : ℕ) × (k < SHARDS) × In (word v k) t
  unfolding members
  in_members i = in_unions (word v) SHARDS t i

  pub in-members-of : (k : ℕ) → k < SHARDS → In (word v k) t → In (members v) t
  unfolding members
  in-members-of k l i = in_unions_of (word v) SHARDS t k l i

union-none : union none none ≡ none
unfolding union
union-none = refl

-- what rule 3 asks of a word, and of each word of a set
pub record WordKept (t touched k w : ℕ) : Type 0 where
  pub own : has w t ≡ false
  pub untouched : has touched k ≡ false → w ≡ none

module _ (t touched : ℕ) where
  pub word_kept : (k w : ℕ) → bad_word t touched k w ≡ false → WordKept t touched k w
  unfolding bad_word
  word_kept k w e =
      record {
        own = or_no_l (has w t) (not (has touched k) && not (eqb w 0)) e;
        untouched = λ u. eqb-true w 0 (not_no (eqb w 0) (rw u at (or_no_r (has w t) (not (has touched k) && not (eqb w 0)) e)));
      }

  pub kept_word : (k w : ℕ) → WordKept t touched k w → bad_word t touched k w ≡ false
  unfolding bad_word
  kept_word k w h = or_no (has w t) (not (has touched k) && not (eqb w 0)) h.own (go (has touched k) refl)
    where
      go : (b : Bool) → has touched k ≡ b → (not b && not (eqb w 0)) ≡ false
      go true e = refl
      go false e = ap not (eq-eqb w 0 (h.untouched e))

  pub set-kept : (v : Set) → bad_set t touched v ≡ false → (k : ℕ) → k < SHARDS → WordKept t touched k (word v k)
  unfolding bad_set bad_word_at
  set-kept v e k l = word_kept k (word v k) (any_no (bad_word_at t touched v) SHARDS k e l)

  pub kept_set : (v : Set) → ((k : ℕ) → k < SHARDS → WordKept t touched k (word v k)) → bad_set t touched v ≡ false
  unfolding bad_set bad_word_at
  kept_set v h = no_any (bad_word_at t touched v) SHARDS (λ k l. kept_word k (word v k) (h k l))

  -- the empty set keeps it, and the union of two that do
  pub none_kept : bad_set t touched no_set ≡ false
  none_kept = kept_set no_set (λ k l. rw (word_none k l) (record { own = has-none t; untouched = λ u. refl }))

  pub union-kept : (a b : Set) → bad_set t touched a ≡ false → bad_set t touched b ≡ false → bad_set t touched (union_set a b) ≡ false
  union-kept a b p q = kept_set (union_set a b) (λ k l. rw (word-union a b k) (joined k (set-kept a p k l) (set-kept b q k l)))
    where
      joined : (k : ℕ) → WordKept t touched k (word a k) → WordKept t touched k (word b k) → WordKept t touched k (union (word a k) (word b k))
      joined k x y =
          record {
            own = has-union (word a k) (word b k) t ∙ or_no (has (word a k) t) (has (word b k) t) x.own y.own;
            untouched = λ u. rw (x.untouched u, y.untouched u) union-none;
          }
