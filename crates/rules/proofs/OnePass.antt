-- One pass over a list puts the place of each entry into a word: afterwards the word holds the places that some entry has. A pass over the places in use is a pass over all.
-- Assumes nothing.
use Prim.Native.Nat.{ℕ, ◌+◌, ◌^◌, ◌<◌, ◌≤◌}
use mathlib.Core.Path.{◌≡◌, refl, sym, ap, ◌∙◌}
use mathlib.Core.Bool.{Bool, true, false, not, cond, ◌&&◌, ◌||◌, and-false}
use native.Mathlib.Decide.{ℕ_discrete, dec_lt}
use native.Mathlib.Omega.{arith}
use lib.Dec.{ltb, eqb}
use lib.Pow.{pow_pos}
use borrow.Author.Tests.{lt-ltb, le-ltb, ltb-true, ne_eqb}
use Rattle.rules.specs.declared.Pieces.{Pieces}
use Rattle.rules.specs.Cluster.{SHARDS, KEYS, PIECES}
use Rattle.rules.specs.Pieces.{piece_at, read, used, on_shard, touches, shards_of, pieces_on}
use Rattle.rules.specs.Keys.{at_key, writes_at, has_key, writes_key, keys_on}
use Rattle.masks.specs.Bits.{insert}
use Rattle.masks.specs.Folds.{any_below, count_below, mask_of}
use Rattle.masks.proofs.Bools.{and_yes_r, and_no_l}
use Rattle.masks.proofs.Turns.{any_none, any_step}
use Rattle.masks.proofs.Laws.{has-put, insert_lt, same_word, has-none}
use Rattle.masks.proofs.FoldLaws.{has_mask_below, mask_bound, mask_cong, any-rest, count-rest}

-- the places below n of the entries below i: g says which count, and h the place of each
abbrev places : (ℕ → Bool) → (ℕ → ℕ) → ℕ → ℕ → ℕ
places g h n i = mask_of (λ y. any_below (λ j. g j && eqb (h j) y) i) n

module _ (g : ℕ → Bool) (h : ℕ → ℕ) (n : ℕ) where
  -- a place that is put in only if it is below n
  kept-lt : (w t : ℕ) (b : Bool) → w < 2 ^ n → cond (b && ltb t n) (insert w t) w < 2 ^ n
  kept-lt w t b l = go (b && ltb t n) refl
    where
      go : (x : Bool) → (b && ltb t n) ≡ x → cond x (insert w t) w < 2 ^ n
      go true e = insert_lt n w t l (ltb-true t n (and_yes_r b (ltb t n) e))
      go false e = l

  same_place : (b : Bool) (t y : ℕ) → y < n → (b && ltb t n && eqb t y) ≡ (b && eqb t y)
  same_place false t y l = refl
  same_place true t y l = go (ℕ_discrete t y)
    where
      go : Dec (t ≡ y) → (ltb t n && eqb t y) ≡ eqb t y
      go (yes e) = rw (lt-ltb t n (omega arith))
      go (no ne) = rw (ne_eqb t y ne, and-false)

  places-none : 0 ≡ places g h n 0
  places-none =
      same_word n 0 _ (pow_pos n) (mask_bound _ n)
      (λ y l. has-none y ∙ any_none (λ j. g j && eqb (h j) y) ∙ sym (has_mask_below (λ x. any_below (λ j. g j && eqb (h j) x) 0) n y l))

  -- where no entry counts from i on, the rest adds nothing
  places-rest : (i m : ℕ) → i ≤ m → ((j : ℕ) → i ≤ j → j < m → g j ≡ false) → places g h n i ≡ places g h n m
  places-rest i m l none = mask_cong _ _ n (λ y b. any-rest (λ j. g j && eqb (h j) y) i m l (λ j a c. and_no_l (g j) (eqb (h j) y) (none j a c)))

  places-step : (i : ℕ) → places g h n (i + 1) ≡ cond (g i && ltb (h i) n) (insert (places g h n i) (h i)) (places g h n i)
  places-step i =
      same_word n _ _ (mask_bound _ n) (kept-lt (places g h n i) (h i) (g i) (mask_bound _ n))
      (λ y l.
      has_mask_below _ n y l
      ∙ any_step (λ j. g j && eqb (h j) y) i
      ∙ ap (λ (b : Bool). any_below (λ j. g j && eqb (h j) y) i || b) (sym (same_place (g i) (h i) y l))
      ∙ ap (λ (b : Bool). b || (g i && ltb (h i) n && eqb (h i) y)) (sym (has_mask_below _ n y l))
      ∙ sym (has-put (places g h n i) (h i) y (g i && ltb (h i) n)))

-- ---- the places in use

pub used_le : (n : ℕ) → used n ≤ PIECES
unfolding used
used_le n = go (dec_lt n PIECES)
  where
    go : Dec (n < PIECES) → used n ≤ PIECES
    go (yes l) = rw (lt-ltb n PIECES l) (omega arith)
    go (no g) = rw (le-ltb n PIECES (omega (arith, g))) (omega arith)

pub used-counted : (n : ℕ) → used n ≤ n
unfolding used
used-counted n = go (dec_lt n PIECES)
  where
    go : Dec (n < PIECES) → used n ≤ n
    go (yes l) = rw (lt-ltb n PIECES l) (omega arith)
    go (no g) = rw (le-ltb n PIECES (omega (arith, g))) (omega (arith, g))

-- no piece stands behind them
unused : (n j : ℕ) → used n ≤ j → j < PIECES → ltb j n ≡ false
unfolding used
unused n j u l = go (dec_lt n PIECES)
  where
    go : Dec (n < PIECES) → ltb j n ≡ false
    go (yes p) = le-ltb j n (omega (arith, rw (lt-ltb n PIECES p) at u))
    go (no g) = absurd (omega (arith, l, rw (le-ltb n PIECES (omega (arith, g))) at u))

-- a piece that is counted is on the shard that it says
pub on_counted : (ps : Pieces) (k i : ℕ) → i < ps.count → on_shard ps k i ≡ eqb (piece_at ps i).shard k
unfolding on_shard
on_counted ps k i l = rw (lt-ltb i ps.count l)

off_unused : (ps : Pieces) (k j : ℕ) → used ps.count ≤ j → j < PIECES → on_shard ps k j ≡ false
unfolding on_shard
off_unused ps k j u l = rw (unused ps.count j u l)

pub count-used : (ps : Pieces) (k : ℕ) → count_below (on_shard ps k) (used ps.count) ≡ pieces_on ps k
unfolding pieces_on
count-used ps k = count-rest (on_shard ps k) (used ps.count) PIECES (used_le ps.count) (off_unused ps k)

-- the shards of the pieces below i, and the keys that they have and write at shard k
module _ (ps : Pieces) where
  unfoldable pub shards_passed : ℕ → ℕ
  shards_passed i = places (λ j. ltb j ps.count) (λ j. (piece_at ps j).shard) SHARDS i

  pub shards-none : 0 ≡ shards_passed 0
  unfolding shards_passed
  shards-none = places-none (λ j. ltb j ps.count) (λ j. (piece_at ps j).shard) SHARDS

  pub shards-step : (i : ℕ) → shards_passed (i + 1) ≡ cond (ltb i ps.count && ltb (piece_at ps i).shard SHARDS) (insert (shards_passed i) (piece_at ps i).shard) (shards_passed i)
  unfolding shards_passed
  shards-step i = places-step (λ j. ltb j ps.count) (λ j. (piece_at ps j).shard) SHARDS i

  pub shards-all : shards_passed PIECES ≡ shards_of ps
  unfolding shards_passed shards_of touches on_shard
  shards-all = refl

  pub shards-used : shards_passed (used ps.count) ≡ shards_of ps
  unfolding shards_passed
  shards-used =
      places-rest (λ j. ltb j ps.count) (λ j. (piece_at ps j).shard) SHARDS (used ps.count) PIECES (used_le ps.count) (unused ps.count) ∙ shards-all

  module _ (k : ℕ) where
    unfoldable pub keys_passed : ℕ → ℕ
    keys_passed i = places (on_shard ps k) (λ j. (piece_at ps j).key) KEYS i

    unfoldable pub written_passed : ℕ → ℕ
    written_passed i = places (λ j. on_shard ps k j && not (eqb (piece_at ps j).kind read)) (λ j. (piece_at ps j).key) KEYS i

    pub keys_none : 0 ≡ keys_passed 0
    unfolding keys_passed
    keys_none = places-none (on_shard ps k) (λ j. (piece_at ps j).key) KEYS

    pub written_none : 0 ≡ written_passed 0
    unfolding written_passed
    written_none = places-none (λ j. on_shard ps k j && not (eqb (piece_at ps j).kind read)) (λ j. (piece_at ps j).key) KEYS

    pub keys_step : (i : ℕ) → keys_passed (i + 1) ≡ cond (on_shard ps k i && ltb (piece_at ps i).key KEYS) (insert (keys_passed i) (piece_at ps i).key) (keys_passed i)
    unfolding keys_passed
    keys_step i = places-step (on_shard ps k) (λ j. (piece_at ps j).key) KEYS i

    pub written_step : (i : ℕ) → written_passed (i + 1) ≡ cond (on_shard ps k i && not (eqb (piece_at ps i).kind read) && ltb (piece_at ps i).key KEYS) (insert (written_passed i) (piece_at ps i).key) (written_passed i)
    unfolding written_passed
    written_step i = places-step (λ j. on_shard ps k j && not (eqb (piece_at ps j).kind read)) (λ j. (piece_at ps j).key) KEYS i

    pub keys-all : record { all = keys_passed PIECES; written = written_passed PIECES } ≡ keys_on ps k
    unfolding keys_passed written_passed keys_on has_key writes_key at_key writes_at
    keys-all = refl

    pub keys-used : record { all = keys_passed (used ps.count); written = written_passed (used ps.count) } ≡ keys_on ps k
    unfolding keys_passed written_passed
    keys-used =
        rw (
          places-rest (on_shard ps k) (λ j. (piece_at ps j).key) KEYS (used ps.count) PIECES (used_le ps.count) (off_unused ps k),
          places-rest (λ j. on_shard ps k j && not (eqb (piece_at ps j).kind read)) (λ j. (piece_at ps j).key) KEYS (used ps.count) PIECES (used_le ps.count)
              (λ j u l. and_no_l (on_shard ps k j) (not (eqb (piece_at ps j).kind read)) (off_unused ps k j u l)),
        )
        keys-all
