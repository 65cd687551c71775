-- Document 01, "The cluster", pieces: the rule of one piece, the rule of a transaction's pieces (rule 2), the shards that they touch, and when two transactions have the same pieces.
use Rattle.std.specs.Prelude.{ℕ, zero, suc, ◌+◌, ◌*◌, ◌-◌, ◌<◌, ◌≡◌, Bool, true, false, not, ◌&&◌, ◌||◌, ltb, leb, eqb, get_or, replicate, ℤ, pos, negsuc}
use Rattle.masks.specs.Folds.{all_below, any_below, count_below, mask_of}
use Rattle.rules.specs.Choice.{◌if◌else◌}
use Rattle.rules.specs.Cluster.{SHARDS, KEYS, KINDS, PIECES}
use Rattle.rules.specs.declared.Piece.{Piece}
use Rattle.rules.specs.declared.Pieces.{Pieces}

abbrev pub no_piece : Piece
no_piece = record { shard = 0; key = 0; kind = 0; operand = pos 0 }

abbrev pub no_pieces : Pieces
no_pieces = record { list = replicate PIECES no_piece; count = 0 }

abbrev pub piece_at : Pieces → ℕ → Piece
piece_at ps i = get_or ps.list i no_piece

-- pieces are held, or none
abbrev pub any_pieces : Pieces → Bool
any_pieces ps = not (eqb ps.count 0)

abbrev pub read : ℕ
read = 0

abbrev pub put : ℕ
put = 1

abbrev pub add : ℕ
add = 2

abbrev pub place : Piece → ℕ
place p = KEYS * p.shard + p.key

unfoldable pub is_zero : ℤ → Bool
is_zero (pos zero) = true
is_zero (pos (suc n)) = false
is_zero (negsuc n) = false

-- one piece: shards 0 to 3, keys 0 to 15, kinds 0 to 2, and a read has operand 0
abbrev pub piece_kept : Piece → Bool
piece_kept p = ltb p.shard SHARDS && ltb p.key KEYS && ltb p.kind KINDS && (not (eqb p.kind read) || is_zero p.operand)

-- the piece i keeps it, and stands after the one before it
unfoldable pub entry_kept : Pieces → ℕ → Bool
entry_kept ps i = piece_kept (piece_at ps i) && (eqb i 0 || ltb (place (piece_at ps (i - 1))) (place (piece_at ps i)))

-- 12: a count above 8
abbrev pub too_many : Pieces → Bool
too_many ps = ltb PIECES ps.count

-- rule 2 is kept
unfoldable pub pieces_kept : Pieces → Bool
pieces_kept ps = leb 1 ps.count && leb ps.count PIECES && all_below (entry_kept ps) ps.count

-- how many of the places of pieces a count uses
unfoldable pub used : ℕ → ℕ
used n = n if ltb n PIECES else PIECES

-- the piece i is there, and on shard k
unfoldable pub on_shard : Pieces → ℕ → ℕ → Bool
on_shard ps k i = ltb i ps.count && eqb (piece_at ps i).shard k

-- the same in words
pub record On (ps : Pieces) (k i : ℕ) : Type 0 where
  pub below : i < PIECES
  pub counted : i < ps.count
  pub shard : (piece_at ps i).shard ≡ k

-- T touches shard k
unfoldable pub touches : Pieces → ℕ → Bool
touches ps k = any_below (on_shard ps k) PIECES

-- the shards that T touches, as a word
unfoldable pub shards_of : Pieces → ℕ
shards_of ps = mask_of (touches ps) SHARDS

-- the same where the pieces keep rule 2, and else 0
unfoldable pub touched_by : Pieces → ℕ
touched_by ps = shards_of ps if pieces_kept ps else 0

-- how many pieces T has on shard k
unfoldable pub pieces_on : Pieces → ℕ → ℕ
pieces_on ps k = count_below (on_shard ps k) PIECES

-- The same pieces: arrays up to their counts.
unfoldable pub same_int : ℤ → ℤ → Bool
same_int (pos m) (pos n) = eqb m n
same_int (pos m) (negsuc n) = false
same_int (negsuc m) (pos n) = false
same_int (negsuc m) (negsuc n) = eqb m n

unfoldable pub same_piece : Piece → Piece → Bool
same_piece p q = eqb p.shard q.shard && eqb p.key q.key && eqb p.kind q.kind && same_int p.operand q.operand

unfoldable pub same_entry : Pieces → Pieces → ℕ → Bool
same_entry a b i = leb a.count i || same_piece (piece_at a i) (piece_at b i)

unfoldable pub same_pieces : Pieces → Pieces → Bool
same_pieces a b = eqb a.count b.count && all_below (same_entry a b) PIECES
