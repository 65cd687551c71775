-- Document 01, "The cluster", dependency sets: a word for each shard, of the numbers that came earlier in a conflict there.
-- And rule 3: a set or an arrival word has not its own number, and a word of a shard that the number does not touch is empty.
use Rattle.std.specs.Prelude.{ℕ, Bool, not, ◌&&◌, ◌||◌, eqb}
use Rattle.masks.specs.Bits.{has, union}
use Rattle.masks.specs.Folds.{any_below, union_of}
use Rattle.rules.specs.Cluster.{SHARDS}
use Rattle.rules.specs.declared.Set.{Set}
use Rattle.rules.specs.Choice.{◌if◌else◌}

abbrev pub no_set : Set
no_set = record { w0 = 0; w1 = 0; w2 = 0; w3 = 0 }

-- the word of shard k
unfoldable pub word : Set → ℕ → ℕ
word v k = v.w0 if eqb k 0 else v.w1 if eqb k 1 else v.w2 if eqb k 2 else v.w3

-- a set, from its word for each shard
abbrev pub set_of : (ℕ → ℕ) → Set
set_of f = record { w0 = f 0; w1 = f 1; w2 = f 2; w3 = f 3 }

-- all numbers of a set
unfoldable pub members : Set → ℕ
members v = union_of (word v) SHARDS

-- what is in a or in b, shard by shard
unfoldable pub union_set : Set → Set → Set
union_set a b = record { w0 = union a.w0 b.w0; w1 = union a.w1 b.w1; w2 = union a.w2 b.w2; w3 = union a.w3 b.w3 }

unfoldable pub same_set : Set → Set → Bool
same_set a b = eqb a.w0 b.w0 && eqb a.w1 b.w1 && eqb a.w2 b.w2 && eqb a.w3 b.w3

-- the word w, at shard k, of the number t that touches these shards breaks rule 3
unfoldable pub bad_word : (t touched k w : ℕ) → Bool
bad_word t touched k w = has w t || (not (has touched k) && not (eqb w 0))

unfoldable pub bad_word_at : (t touched : ℕ) → Set → ℕ → Bool
bad_word_at t touched v k = bad_word t touched k (word v k)

-- a set breaks rule 3
unfoldable pub bad_set : (t touched : ℕ) → Set → Bool
bad_set t touched v = any_below (bad_word_at t touched v) SHARDS
