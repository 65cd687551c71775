-- Document 01, "Refusal numbers", State form of a server: its number; the pieces, ballots and sets of each record; the log; the results. Refusal 13 is given where one of these parts fails, and for nothing else.
use Rattle.std.specs.Prelude.{ℕ, Bool, not, ◌&&◌, ◌||◌, leb, eqb}
use Rattle.masks.specs.Bits.{has, insert, within}
use Rattle.masks.specs.Folds.{all_below, iter}
use Rattle.rules.specs.Choice.{◌if◌else◌}
use Rattle.rules.specs.Flags.{there, implies}
use Rattle.rules.specs.Cluster.{bad_server}
use Rattle.rules.specs.Ballots.{bad_ballot}
use Rattle.rules.specs.Pieces.{any_pieces, pieces_kept, pieces_on, shards_of}
use Rattle.rules.specs.Sets.{bad_word, bad_set, members}
use Rattle.server.specs.declared.Record.{Record}
use Rattle.server.specs.declared.Log.{Log}
use Rattle.server.specs.declared.Server.{Server}
use Rattle.server.specs.Held.{record_at, shard, committed_at, entry_at}

-- ---- one record, of the number t, at a server of shard k

unfoldable pub pieces_formed : Record → Bool
pieces_formed v = implies (any_pieces v.pieces) (pieces_kept v.pieces)

unfoldable pub ballots_formed : Record → Bool
ballots_formed v = not (bad_ballot v.promise) && implies (there v.accepted.some) (not (bad_ballot v.accepted.ballot))

unfoldable pub sets_formed : ℕ → ℕ → Record → Bool
sets_formed k t v =
    implies (there v.arrival.some) (not (bad_word t (shards_of v.pieces) k v.arrival.word))
    && implies (there v.accepted.some) (not (bad_set t (shards_of v.pieces) v.accepted.set))
    && implies (there v.committed.some) (not (bad_set t (shards_of v.pieces) v.committed.set))

unfoldable pub sets_have_pieces : Record → Bool
sets_have_pieces v = implies (there v.arrival.some || there v.accepted.some || there v.committed.some) (any_pieces v.pieces)

unfoldable pub record_formed : ℕ → ℕ → Record → Bool
record_formed k t v = pieces_formed v && ballots_formed v && sets_have_pieces v && sets_formed k t v

unfoldable pub record_formed_at : Server → ℕ → Bool
record_formed_at s t = record_formed (shard s) t (record_at s t)

-- ---- the log

-- the word of one more entry of the log
unfoldable pub noted : Log → ℕ → ℕ → ℕ
noted l i w = insert w (entry_at l i) if leb (entry_at l i) 63 else w

-- the word of the first n entries
unfoldable pub logged : Log → ℕ → ℕ
logged l n = iter (noted l) 0 n

-- a number; not among those before it; committed; and everything in its set is in the log
unfoldable pub entry_formed : Server → ℕ → Bool
entry_formed s i =
    leb (entry_at s.log i) 63
    && not (has (logged s.log i) (entry_at s.log i))
    && committed_at s (entry_at s.log i)
    && within (members (record_at s (entry_at s.log i)).committed.set) (logged s.log s.log.count)

unfoldable pub log_formed : Server → Bool
log_formed s = leb s.log.count 64 && all_below (entry_formed s) s.log.count

-- ---- the results

-- there are results exactly if t is in the log, and one for each piece on shard k
unfoldable pub results_formed : ℕ → Bool → Record → Bool
results_formed k in_log v = in_log && eqb v.values.count (pieces_on v.pieces k) if there v.ran else not in_log

unfoldable pub results_formed_at : Server → ℕ → Bool
results_formed_at s t = results_formed (shard s) (has (logged s.log s.log.count) t) (record_at s t)

-- ---- the whole

unfoldable pub formed : Server → Bool
formed s = not (bad_server s.id) && all_below (record_formed_at s) 64 && log_formed s && all_below (results_formed_at s) 64
