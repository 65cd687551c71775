-- Document 01, "The cluster": two transactions conflict at a shard where both have a piece on one key there, and one of these two pieces is no read.
use Rattle.std.specs.Prelude.{ℕ, ◌<◌, ◌≡◌, Bool, not, ◌&&◌, eqb, ltb}
use Rattle.masks.specs.Folds.{any_below}
use Rattle.rules.specs.Cluster.{KEYS, PIECES}
use Rattle.rules.specs.declared.Piece.{Piece}
use Rattle.rules.specs.declared.Pieces.{Pieces}
use Rattle.rules.specs.Pieces.{piece_at, read, on_shard, On}

-- two pieces of one shard clash
abbrev pub clash : Piece → Piece → Bool
clash p q = ltb p.key KEYS && eqb p.key q.key && not (eqb p.kind read && eqb q.kind read)

-- the piece p and the piece j of b, at shard k
unfoldable pub clash_with : ℕ → Piece → Pieces → ℕ → Bool
clash_with k p b j = on_shard b k j && clash p (piece_at b j)

-- the piece i of a and any of b, at shard k
unfoldable pub clash_any : ℕ → Pieces → Pieces → ℕ → Bool
clash_any k a b i = on_shard a k i && any_below (clash_with k (piece_at a i) b) PIECES

-- two transactions' pieces conflict at shard k
unfoldable pub conflict : ℕ → Pieces → Pieces → Bool
conflict k a b = any_below (clash_any k a b) PIECES

-- the sentence itself: the piece i of a and the piece j of b share a key at shard k, and are not both reads
pub record Shares (k : ℕ) (a b : Pieces) (i j : ℕ) : Type 0 where
  pub first : On a k i
  pub second : On b k j
  pub key : (piece_at a i).key < KEYS
  pub shared : (piece_at a i).key ≡ (piece_at b j).key
  pub writes : (piece_at a i).kind ≡ read → (piece_at b j).kind ≡ read → ⊥
