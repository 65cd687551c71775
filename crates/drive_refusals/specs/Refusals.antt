-- What is wrong with a reply at a drive, by its code. A server's reply has no pieces, and Done has neither server nor ballot.
-- After 13 this is the order of `drive`, by the laws of proofs/InOrder.
use Rattle.std.specs.Prelude.{ℕ, Bool, false, not, ◌&&◌, ◌||◌, eqb}
use Rattle.masks.specs.Bits.{has}
use Rattle.rules.specs.Choice.{◌if◌else◌}
use Rattle.rules.specs.Flags.{there}
use Rattle.rules.specs.Cluster.{bad_number, bad_server}
use Rattle.rules.specs.Ballots.{bad_ballot}
use Rattle.rules.specs.Pieces.{too_many, pieces_kept, same_pieces}
use Rattle.rules.specs.Sets.{bad_set}
use Rattle.wire.specs.declared.Message.{Message}
use Rattle.wire.specs.Codes.{PreAcceptOK, AcceptOK, PrepareOK, Done, Behind}
use Rattle.drive.specs.declared.Drive.{Drive}
use Rattle.drive.specs.Held.{addressed}
use Rattle.drive_form.specs.declared.Counted.{Counted}

-- ---- a server's reply

-- 1
unfoldable pub bad_head : Message → Bool
bad_head m = bad_number m.t || bad_server m.server || bad_ballot m.ballot

-- 8, but for the phase and who is counted
unfoldable pub elsewhere : Drive → (touched : ℕ) → Message → Bool
elsewhere d touched m = not (eqb m.t d.t) || not (eqb m.ballot d.ballot) || not (addressed touched m.server)

-- 3 of a PrepareOK
unfoldable pub bad_held : (touched : ℕ) → Message → Bool
bad_held touched m = (there m.arrival.some && has m.arrival.word m.t) || (there m.accepted.some && bad_set m.t touched m.accepted.set)

unfoldable pub first_of_three : (one eight three : Bool) → ℕ
first_of_three one eight three = 1 if one else 8 if eight else 3 if three else 0

-- ---- Done

unfoldable pub done_by : Drive → (touched : ℕ) → Message → ℕ
done_by d touched m =
    12 if too_many m.pieces
    else 1 if bad_number m.t
    else 2 if not (pieces_kept m.pieces)
    else 8 if eqb d.phase 3 || not (eqb m.t d.t)
    else 5 if not (same_pieces d.pieces m.pieces)
    else 3 if bad_set m.t touched m.set
    else 0

-- ---- any code, where k says who is counted

module _ (d : Drive) (k : Counted) (m : Message) where
  abbrev head : Bool
  head = bad_head m

  abbrev away : Bool
  away = elsewhere d k.shards m

  abbrev again : Bool
  again = has k.answered m.server

  unfoldable pub judged_by : ℕ
  judged_by =
      first_of_three head (not (eqb d.phase 1) || away || again) (has m.word m.t) if eqb m.code PreAcceptOK
      else first_of_three head (not (eqb d.phase 2) || away || again) false if eqb m.code AcceptOK
      else first_of_three (head || (there m.accepted.some && bad_ballot m.accepted.ballot)) (not (eqb d.phase 0) || away || again) (bad_held k.shards m) if eqb m.code PrepareOK
      else first_of_three (head || bad_ballot m.promise) (eqb d.phase 3 || away) false if eqb m.code Behind
      else done_by d k.shards m if eqb m.code Done
      else 12
