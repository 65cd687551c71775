-- Two transactions conflict at a shard exactly if they share a key there and not both pieces are reads; the same is told by their two key words, and from either side.
-- Assumes nothing.
use Prim.Native.Nat.{ℕ, ◌^◌, ◌<◌}
use mathlib.Core.Path.{◌≡◌, refl, sym, ap, ◌∙◌}
use mathlib.Core.Bool.{Bool, true, not, ◌&&◌}
use mathlib.Core.Logic.{◌⊎◌, inl, inr, ⊎_elim}
use native.Mathlib.Decide.{ℕ_discrete}
use native.Mathlib.Omega.{arith}
use lib.Dec.{ltb, eqb}
use borrow.Author.Tests.{lt-ltb, ltb-true, eq-eqb, eqb-true, eqb-false, ne_eqb}
use Rattle.masks.specs.Bits.{has, none, both}
use Rattle.masks.specs.Folds.{any_below}
use Rattle.masks.proofs.Bools.{and_yes, and_yes-l, and_yes_r, or_yes, or_yes-l, or_yes_r, not_yes, true_and_false, not_true_false, bool_ext}
use Rattle.masks.proofs.Laws.{has_in, has_both, in_pos, both_lt}
use Rattle.masks.proofs.FoldLaws.{any_at, any_of, has_mask_below, mask_bound, some_member}
use Rattle.rules.specs.declared.Pieces.{Pieces}
use Rattle.rules.specs.Cluster.{KEYS, PIECES}
use Rattle.rules.specs.Pieces.{piece_at, read, on_shard, On}
use Rattle.rules.specs.Conflict.{clash, clash_with, clash_any, conflict, Shares}
use Rattle.rules.specs.Keys.{at_key, writes_at, has_key, writes_key, keys_on, clashes}

-- the piece i is on shard k, as a test and in words
module _ (ps : Pieces) (k i : ℕ) where
  pub on-is : i < PIECES → on_shard ps k i ≡ true → On ps k i
  unfolding on_shard
  on-is l e =
      record {
        below = l;
        counted = ltb-true i ps.count (and_yes-l (ltb i ps.count) (eqb (piece_at ps i).shard k) e);
        shard = eqb-true (piece_at ps i).shard k (and_yes_r (ltb i ps.count) (eqb (piece_at ps i).shard k) e);
      }

  pub is-on : On ps k i → on_shard ps k i ≡ true
  unfolding on_shard
  is-on o = and_yes (ltb i ps.count) (eqb (piece_at ps i).shard k) (lt-ltb i ps.count o.counted) (eq-eqb (piece_at ps i).shard k o.shard)

-- what the tests of a clash say, of two keys x and y and two kinds m and n
module _ (x y m n : ℕ) where
  clash-key : (ltb x KEYS && eqb x y && not (eqb m read && eqb n read)) ≡ true → (x < KEYS) × (x ≡ y)
  clash-key e =
      let same = and_yes-l (ltb x KEYS && eqb x y) (not (eqb m read && eqb n read)) e in
      (ltb-true x KEYS (and_yes-l (ltb x KEYS) (eqb x y) same), eqb-true x y (and_yes_r (ltb x KEYS) (eqb x y) same))

  clash-writes : (ltb x KEYS && eqb x y && not (eqb m read && eqb n read)) ≡ true → m ≡ read → n ≡ read → ⊥
  clash-writes e p q =
      true_and_false (and_yes (eqb m read) (eqb n read) (eq-eqb m read p) (eq-eqb n read q))
      (not_yes (eqb m read && eqb n read) (and_yes_r (ltb x KEYS && eqb x y) (not (eqb m read && eqb n read)) e))

  clash-of : x < KEYS → x ≡ y → (m ≡ read → n ≡ read → ⊥) → (ltb x KEYS && eqb x y && not (eqb m read && eqb n read)) ≡ true
  clash-of l e h =
      rw (lt-ltb x KEYS l, eq-eqb x y e, not_true_false (eqb m read && eqb n read) (λ r. h (eqb-true m read (and_yes-l (eqb m read) (eqb n read) r)) (eqb-true n read (and_yes_r (eqb m read) (eqb n read) r))))

  -- one of the two is no read
  one_writes : (m ≡ read → n ≡ read → ⊥) → (not (eqb m read) ≡ true) ⊎ (not (eqb n read) ≡ true)
  one_writes h = go (ℕ_discrete m read) (ℕ_discrete n read)
    where
      go : Dec (m ≡ read) → Dec (n ≡ read) → (not (eqb m read) ≡ true) ⊎ (not (eqb n read) ≡ true)
      go (yes p) (yes q) = absurd (h p q)
      go (yes p) (no q) = inr (ap not (ne_eqb n read q))
      go (no p) q = inl (ap not (ne_eqb m read p))

module _ (k : ℕ) (a b : Pieces) where
  pub conflict-shares : conflict k a b ≡ true → (i : ℕ) × (j : ℕ) × Shares k a b i j
  unfolding conflict clash_any clash_with
  conflict-shares e =
      let f = any_at (clash_any k a b) PIECES e in
      let i = f.0 in
      let s = any_at (clash_with k (piece_at a i) b) PIECES (and_yes_r (on_shard a k i) (any_below (clash_with k (piece_at a i) b) PIECES) f.2) in
      let j = s.0 in
      let c = and_yes_r (on_shard b k j) (clash (piece_at a i) (piece_at b j)) s.2 in
      let keys = clash-key (piece_at a i).key (piece_at b j).key (piece_at a i).kind (piece_at b j).kind c in (
        i,
        j,
        record {
          first = on-is a k i f.1 (and_yes-l (on_shard a k i) (any_below (clash_with k (piece_at a i) b) PIECES) f.2);
          second = on-is b k j s.1 (and_yes-l (on_shard b k j) (clash (piece_at a i) (piece_at b j)) s.2);
          key = keys.0;
          shared = keys.1;
          writes = clash-writes (piece_at a i).key (piece_at b j).key (piece_at a i).kind (piece_at b j).kind c;
        },
      )

  pub shares-conflict : (i j : ℕ) → Shares k a b i j → conflict k a b ≡ true
  unfolding conflict clash_any clash_with
  shares-conflict i j s =
      any_of (clash_any k a b) PIECES i s.first.below
      (and_yes (on_shard a k i) (any_below (clash_with k (piece_at a i) b) PIECES) (is-on a k i s.first)
      (any_of (clash_with k (piece_at a i) b) PIECES j s.second.below
      (and_yes (on_shard b k j) (clash (piece_at a i) (piece_at b j)) (is-on b k j s.second)
      (clash-of (piece_at a i).key (piece_at b j).key (piece_at a i).kind (piece_at b j).kind s.key s.shared s.writes))))

-- the same from the other side
shares_turned : {k : ℕ} {a b : Pieces} {i j : ℕ} → Shares k a b i j → Shares k b a j i
shares_turned s = record { first = s.second; second = s.first; key = omega (arith, s.key, s.shared); shared = sym s.shared; writes = λ p q. s.writes q p }

pub conflict-turned : (k : ℕ) (a b : Pieces) → conflict k a b ≡ true → conflict k b a ≡ true
conflict-turned k a b e = let f = conflict-shares k a b e in shares-conflict k b a f.1 f.0 (shares_turned f.2)

pub conflict-sym : (k : ℕ) (a b : Pieces) → conflict k a b ≡ conflict k b a
conflict-sym k a b = bool_ext (conflict k a b) (conflict k b a) (conflict-turned k a b) (conflict-turned k b a)

-- the two words of keys
module _ (ps : Pieces) (k : ℕ) where
  pub has_all : (y : ℕ) → y < KEYS → has (keys_on ps k).all y ≡ has_key ps k y
  unfolding keys_on
  has_all y l = has_mask_below (has_key ps k) KEYS y l

  pub has-written : (y : ℕ) → y < KEYS → has (keys_on ps k).written y ≡ writes_key ps k y
  unfolding keys_on
  has-written y l = has_mask_below (writes_key ps k) KEYS y l

  pub all-lt : (keys_on ps k).all < 2 ^ KEYS
  unfolding keys_on
  all-lt = mask_bound (has_key ps k) KEYS

  pub written-lt : (keys_on ps k).written < 2 ^ KEYS
  unfolding keys_on
  written-lt = mask_bound (writes_key ps k) KEYS

  pub key_of : (i : ℕ) → On ps k i → (piece_at ps i).key < KEYS → has (keys_on ps k).all (piece_at ps i).key ≡ true
  unfolding has_key at_key
  key_of i o l =
      has_all (piece_at ps i).key l
      ∙ any_of (at_key ps k (piece_at ps i).key) PIECES i o.below
      (and_yes (on_shard ps k i) (eqb (piece_at ps i).key (piece_at ps i).key) (is-on ps k i o) (eq-eqb (piece_at ps i).key (piece_at ps i).key refl))

  pub write-of : (i : ℕ) → On ps k i → (piece_at ps i).key < KEYS → not (eqb (piece_at ps i).kind read) ≡ true → has (keys_on ps k).written (piece_at ps i).key ≡ true
  unfolding writes_key writes_at
  write-of i o l w =
      has-written (piece_at ps i).key l
      ∙ any_of (writes_at ps k (piece_at ps i).key) PIECES i o.below
      (and_yes (on_shard ps k i && not (eqb (piece_at ps i).kind read)) (eqb (piece_at ps i).key (piece_at ps i).key)
      (and_yes (on_shard ps k i) (not (eqb (piece_at ps i).kind read)) (is-on ps k i o) w) (eq-eqb (piece_at ps i).key (piece_at ps i).key refl))

  pub key-at : (y : ℕ) → y < KEYS → has (keys_on ps k).all y ≡ true → (i : ℕ) × On ps k i × ((piece_at ps i).key ≡ y)
  unfolding has_key at_key
  key-at y l e =
      let f = any_at (at_key ps k y) PIECES (sym (has_all y l) ∙ e) in
      (f.0, on-is ps k f.0 f.1 (and_yes-l (on_shard ps k f.0) (eqb (piece_at ps f.0).key y) f.2), eqb-true (piece_at ps f.0).key y (and_yes_r (on_shard ps k f.0) (eqb (piece_at ps f.0).key y) f.2))

  pub write-at : (y : ℕ) → y < KEYS → has (keys_on ps k).written y ≡ true → (i : ℕ) × On ps k i × ((piece_at ps i).key ≡ y) × ((piece_at ps i).kind ≡ read → ⊥)
  unfolding writes_key writes_at
  write-at y l e =
      let f = any_at (writes_at ps k y) PIECES (sym (has-written y l) ∙ e) in
      let i = f.0 in
      let w = and_yes-l (on_shard ps k i && not (eqb (piece_at ps i).kind read)) (eqb (piece_at ps i).key y) f.2 in (
        i,
        on-is ps k i f.1 (and_yes-l (on_shard ps k i) (not (eqb (piece_at ps i).kind read)) w),
        eqb-true (piece_at ps i).key y (and_yes_r (on_shard ps k i && not (eqb (piece_at ps i).kind read)) (eqb (piece_at ps i).key y) f.2),
        eqb-false (piece_at ps i).kind read (not_yes (eqb (piece_at ps i).kind read) (and_yes_r (on_shard ps k i) (not (eqb (piece_at ps i).kind read)) w)),
      )

-- two words share a number
met : (x y t : ℕ) → has x t ≡ true → has y t ≡ true → not (eqb (both x y) none) ≡ true
met x y t p q = let l = in_pos (has_in (has_both x y t ∙ and_yes (has x t) (has y t) p q)) in ap not (ne_eqb (both x y) none (λ e. omega arith))

meets : (x y : ℕ) → x < 2 ^ KEYS → not (eqb (both x y) none) ≡ true → (t : ℕ) × (t < KEYS) × (has x t ≡ true) × (has y t ≡ true)
meets x y l e =
    let m = some_member KEYS (both x y) (both_lt KEYS x y l) (eqb-false (both x y) none (not_yes (eqb (both x y) none) e)) in
    let h = sym (has_both x y m.0) ∙ m.2 in
    (m.0, m.1, and_yes-l (has x m.0) (has y m.0) h, and_yes_r (has x m.0) (has y m.0) h)

module _ (k : ℕ) (a b : Pieces) where
  all-written : Bool
  all-written = not (eqb (both (keys_on a k).all (keys_on b k).written) none)

  written_all : Bool
  written_all = not (eqb (both (keys_on a k).written (keys_on b k).all) none)

  shares-clashes : (i j : ℕ) → Shares k a b i j → clashes (keys_on a k) (keys_on b k) ≡ true
  unfolding clashes all-written written_all
  shares-clashes i j s = ⊎_elim (λ w. or_yes_r all-written written_all (met _ _ (piece_at a i).key (write-of a k i s.first s.key w) second_key)) (λ w. or_yes-l all-written written_all (met _ _ (piece_at a i).key (key_of a k i s.first s.key) (second-write w))) (one_writes (piece_at a i).key (piece_at b j).key (piece_at a i).kind (piece_at b j).kind s.writes)
    where
      small : (piece_at b j).key < KEYS
      small = omega (arith, s.key, s.shared)

      second_key : has (keys_on b k).all (piece_at a i).key ≡ true
      second_key = rw s.shared (key_of b k j s.second small)

      second-write : not (eqb (piece_at b j).kind read) ≡ true → has (keys_on b k).written (piece_at a i).key ≡ true
      second-write w = rw s.shared (write-of b k j s.second small w)

  clashes-shares : clashes (keys_on a k) (keys_on b k) ≡ true → (i : ℕ) × (j : ℕ) × Shares k a b i j
  unfolding clashes all-written written_all
  clashes-shares e = ⊎_elim second-writes first-writes (or_yes all-written written_all e)
    where
      second-writes : all-written ≡ true → (i : ℕ) × (j : ℕ) × Shares k a b i j
      second-writes e =
          let m = meets (keys_on a k).all (keys_on b k).written (all-lt a k) e in
          let f = key-at a k m.0 m.1 m.2 in
          let s = write-at b k m.0 m.1 m.3 in
          (f.0, s.0, record { first = f.1; second = s.1; key = omega (arith, f.2, m.1); shared = f.2 ∙ sym s.2; writes = λ p q. s.3 q })

      first-writes : written_all ≡ true → (i : ℕ) × (j : ℕ) × Shares k a b i j
      first-writes e =
          let m = meets (keys_on a k).written (keys_on b k).all (written-lt a k) e in
          let f = write-at a k m.0 m.1 m.2 in
          let s = key-at b k m.0 m.1 m.3 in
          (f.0, s.0, record { first = f.1; second = s.1; key = omega (arith, f.2, m.1); shared = f.2 ∙ sym s.2; writes = λ p q. f.3 p })

  pub conflict-keys : conflict k a b ≡ clashes (keys_on a k) (keys_on b k)
  conflict-keys =
      bool_ext (conflict k a b) (clashes (keys_on a k) (keys_on b k))
      (λ e. let f = conflict-shares k a b e in shares-clashes f.0 f.1 f.2)
      (λ e. let f = clashes-shares e in shares-conflict k a b f.0 f.1 f.2)
