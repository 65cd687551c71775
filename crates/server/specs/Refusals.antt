-- Document 01, "Refusal numbers", at a server: each number's test, and the order of the tests.
use Rattle.std.specs.Prelude.{ℕ, Bool, not, ◌&&◌, ◌||◌}
use Rattle.masks.specs.Bits.{has}
use Rattle.rules.specs.Choice.{◌if◌else◌}
use Rattle.rules.specs.Flags.{there}
use Rattle.rules.specs.Pieces.{any_pieces, same_pieces, shards_of}
use Rattle.rules.specs.Sets.{same_set}
use Rattle.wire.specs.declared.Message.{Message}
use Rattle.wire.specs.Codes.{shape_of, server_takes, asks, commits}
use Rattle.wire.specs.Faults.{over_count, bad_numbers, bad_pieces, bad_sets}
use Rattle.server.specs.declared.Record.{Record}
use Rattle.server.specs.declared.Server.{Server}
use Rattle.server.specs.Held.{record_at, shard}
use Rattle.server.specs.Form.{formed}

-- 12: a code that a server does not take, or a count above 8
unfoldable pub not_taken : Message → Bool
not_taken m = not (server_takes m.code) || over_count m

-- 4: a PreAccept, Accept or Prepare, where T does not touch this server's shard
unfoldable pub untouched : (k touched : ℕ) → Message → Bool
untouched k touched m = asks m.code && not (has touched k)

-- 5: other pieces than those held
unfoldable pub other_pieces : Record → Message → Bool
other_pieces v m = (shape_of m.code).pieces && any_pieces v.pieces && not (same_pieces v.pieces m.pieces)

-- 6: a Commit or Done with another set than the one that is committed
unfoldable pub other_set : Record → Message → Bool
other_set v m = commits m.code && there v.committed.some && not (same_set v.committed.set m.set)

-- the first test that fires gives its number; 0 is no refusal
unfoldable pub refusal : Server → Message → ℕ
refusal s m =
    13 if not (formed s)
    else 12 if not_taken m
    else 1 if bad_numbers m
    else 2 if bad_pieces m
    else 3 if bad_sets (shards_of m.pieces) m
    else 4 if untouched (shard s) (shards_of m.pieces) m
    else 5 if other_pieces (record_at s m.t) m
    else 6 if other_set (record_at s m.t) m
    else 0
