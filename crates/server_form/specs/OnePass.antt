-- The state form of a server, read in one pass: the log to the word of its numbers, then each record once, and its pieces once.
use Rattle.std.specs.Prelude.{ℕ, Bool, false, not, ◌&&◌, leb, eqb}
use Rattle.masks.specs.Bits.{has, within}
use Rattle.masks.specs.Folds.{all_below}
use Rattle.rules.specs.Choice.{◌if◌else◌}
use Rattle.rules.specs.Flags.{there, implies}
use Rattle.rules.specs.Cluster.{NUMBERS, bad_server}
use Rattle.rules.specs.Ballots.{bad_ballot}
use Rattle.rules.specs.Pieces.{pieces_on, touched_by}
use Rattle.rules.specs.Sets.{bad_word, bad_set, members}
use Rattle.server.specs.declared.Record.{Record}
use Rattle.server.specs.declared.Log.{Log}
use Rattle.server.specs.declared.Server.{Server}
use Rattle.server.specs.Held.{record_at, shard, entry_at}
use Rattle.server.specs.Form.{logged, record_formed, results_formed}

-- ---- the log by itself

-- a number, and not among those before it
unfoldable pub entry_new : Log → ℕ → Bool
entry_new l i = leb (entry_at l i) 63 && not (has (logged l i) (entry_at l i))

-- what the log says: its numbers, and whether it is a log
pub record LogRead : Type 0 where
  pub word : ℕ
  pub fine : Bool

-- its numbers as a word, and whether there are at most 64, each of them a number and none twice
unfoldable pub read_log : Log → LogRead
read_log l =
    record { word = logged l l.count; fine = all_below (entry_new l) l.count } if leb l.count NUMBERS
    else record { word = 0; fine = false }

-- ---- one number t at a server of shard k, where w is the log's word

-- what the log asks of the record of a number in it: committed, and everything in its set is in the log
unfoldable pub logged_formed : (w : ℕ) → Record → Bool
logged_formed w v = there v.committed.some && within (members v.committed.set) w

unfoldable pub number_formed : (k w t : ℕ) → Record → Bool
number_formed k w t v = record_formed k t v && implies (has w t) (logged_formed w v) && results_formed k (has w t) v

unfoldable pub number_formed_at : Server → (w : ℕ) → ℕ → Bool
number_formed_at s w t = number_formed (shard s) w t (record_at s t)

-- the log, the server's number, and the numbers below t
unfoldable pub formed_below : Server → (t : ℕ) → Bool
formed_below s t = (read_log s.log).fine && not (bad_server s.id) && all_below (number_formed_at s (read_log s.log).word) t

-- ---- the parts of a number's test

-- without pieces nothing else is there but a promise
unfoldable pub bare_formed : (logged : Bool) → Record → Bool
bare_formed logged v =
    not (bad_ballot v.promise)
    && not (there v.arrival.some)
    && not (there v.accepted.some)
    && not (there v.committed.some)
    && not logged
    && not (there v.ran)

-- the sets of a record whose pieces touch these shards
unfoldable pub sets_kept : (k touched t : ℕ) → Record → Bool
sets_kept k touched t v =
    implies (there v.arrival.some) (not (bad_word t touched k v.arrival.word))
    && implies (there v.accepted.some) (not (bad_ballot v.accepted.ballot) && not (bad_set t touched v.accepted.set))
    && implies (there v.committed.some) (not (bad_set t touched v.committed.set))

-- the results: those of a number in the log, and none of another
unfoldable pub ran_formed : (k w : ℕ) (logged : Bool) → Record → Bool
ran_formed k w logged v =
    logged_formed w v && there v.ran && eqb v.values.count (pieces_on v.pieces k) if logged
    else not (there v.ran)

-- a record with pieces
unfoldable pub held_formed : (k w t : ℕ) → Record → Bool
held_formed k w t v =
    not (eqb (touched_by v.pieces) 0)
    && not (bad_ballot v.promise)
    && sets_kept k (touched_by v.pieces) t v
    && ran_formed k w (has w t) v
