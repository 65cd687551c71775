-- Document 01, "Refusal numbers": what is wrong with a message by itself, by 12, 1, 2 and 3, in the fields that its code has. Server and drive share these.
use Rattle.std.specs.Prelude.{ℕ, Bool, not, ◌&&◌, ◌||◌, eqb}
use Rattle.masks.specs.Bits.{has}
use Rattle.rules.specs.Flags.{there}
use Rattle.rules.specs.Cluster.{bad_number, bad_server}
use Rattle.rules.specs.Ballots.{bad_ballot}
use Rattle.rules.specs.Pieces.{too_many, pieces_kept}
use Rattle.rules.specs.Sets.{bad_set}
use Rattle.wire.specs.declared.Message.{Message}
use Rattle.wire.specs.Codes.{shape_of, Prepare}

-- 12: a count above 8
unfoldable pub over_count : Message → Bool
over_count m = (shape_of m.code).pieces && too_many m.pieces

-- 1: a number, server, ballot or promise out of its range, or a Prepare at ballot 0
unfoldable pub bad_numbers : Message → Bool
bad_numbers m =
    bad_number m.t
    || ((shape_of m.code).server && bad_server m.server)
    || ((shape_of m.code).ballot && bad_ballot m.ballot)
    || ((shape_of m.code).promise && bad_ballot m.promise)
    || ((shape_of m.code).prepared && there m.accepted.some && bad_ballot m.accepted.ballot)
    || (eqb m.code Prepare && eqb m.ballot 0)

-- 2: pieces that break their rule
unfoldable pub bad_pieces : Message → Bool
bad_pieces m = (shape_of m.code).pieces && not (pieces_kept m.pieces)

-- 3: a set or an arrival word that breaks its rule, where T touches these shards
unfoldable pub bad_sets : (touched : ℕ) → Message → Bool
bad_sets touched m =
    ((shape_of m.code).set && bad_set m.t touched m.set)
    || ((shape_of m.code).word && has m.word m.t)
    || ((shape_of m.code).prepared && there m.arrival.some && has m.arrival.word m.t)
    || ((shape_of m.code).prepared && there m.accepted.some && bad_set m.t touched m.accepted.set)
