-- The keys that a transaction has at a shard, as two words: a conflict is then a key of one that the other writes.
use Rattle.std.specs.Prelude.{ℕ, Bool, not, ◌&&◌, ◌||◌, eqb}
use Rattle.masks.specs.Bits.{none, both}
use Rattle.masks.specs.Folds.{any_below, mask_of}
use Rattle.rules.specs.Cluster.{KEYS, PIECES}
use Rattle.rules.specs.declared.Pieces.{Pieces}
use Rattle.rules.specs.declared.Keys.{Keys}
use Rattle.rules.specs.Pieces.{piece_at, read, on_shard}

-- the piece i is on shard k, at key y
unfoldable pub at_key : Pieces → ℕ → ℕ → ℕ → Bool
at_key ps k y i = on_shard ps k i && eqb (piece_at ps i).key y

-- the same of a piece that is no read
unfoldable pub writes_at : Pieces → ℕ → ℕ → ℕ → Bool
writes_at ps k y i = on_shard ps k i && not (eqb (piece_at ps i).kind read) && eqb (piece_at ps i).key y

unfoldable pub has_key : Pieces → ℕ → ℕ → Bool
has_key ps k y = any_below (at_key ps k y) PIECES

unfoldable pub writes_key : Pieces → ℕ → ℕ → Bool
writes_key ps k y = any_below (writes_at ps k y) PIECES

unfoldable pub keys_on : Pieces → ℕ → Keys
keys_on ps k = record { all = mask_of (has_key ps k) KEYS; written = mask_of (writes_key ps k) KEYS }

-- one has a key that the other writes
unfoldable pub clashes : Keys → Keys → Bool
clashes a b = not (eqb (both a.all b.written) none) || not (eqb (both a.written b.all) none)
