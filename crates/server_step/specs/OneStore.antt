-- A server's step as it is computed: the refusal from the form's verdict, the record of T and the message; then one record stored, changed or as it was; then what a Commit runs.
use Rattle.std.specs.Prelude.{ℕ, Bool, not, ◌&&◌, eqb}
use Rattle.masks.specs.Folds.{mask_of}
use Rattle.rules.specs.Choice.{◌if◌else◌}
use Rattle.rules.specs.Cluster.{NUMBERS, bad_number}
use Rattle.rules.specs.Pieces.{shards_of}
use Rattle.wire.specs.declared.Message.{Message}
use Rattle.wire.specs.Faults.{bad_numbers, bad_pieces, bad_sets}
use Rattle.wire.specs.Codes.{commits}
use Rattle.wire.specs.Messages.{blank}
use Rattle.server.specs.declared.Record.{Record}
use Rattle.server.specs.declared.Server.{Server}
use Rattle.server.specs.declared.Changed.{Changed}
use Rattle.server.specs.declared.Served.{Served}
use Rattle.server.specs.Held.{record_at, put_record, shard}
use Rattle.server.specs.Form.{formed}
use Rattle.server.specs.Refusals.{not_taken, untouched, other_pieces, other_set}
use Rattle.server.specs.Changes.{becomes, change}
use Rattle.server.specs.Serve.{came_earlier, fixes, then_runs}

-- the first of the eight tests, in their order, that fires
abbrev pub first_refusal : (b13 b12 b1 b2 b3 b4 b5 b6 : Bool) → ℕ
first_refusal b13 b12 b1 b2 b3 b4 b5 b6 =
    13 if b13
    else 12 if b12
    else 1 if b1
    else 2 if b2
    else 3 if b3
    else 4 if b4
    else 5 if b5
    else 6 if b6
    else 0

-- the refusal at a server of shard k that keeps its form, or does not, and that holds v of the message's T
unfoldable pub refusal_by : Bool → (k : ℕ) → Record → Message → ℕ
refusal_by form k v m =
    first_refusal
    (not form)
    (not_taken m)
    (bad_numbers m)
    (bad_pieces m)
    (bad_sets (shards_of m.pieces) m)
    (untouched k (shards_of m.pieces) m)
    (other_pieces v m)
    (other_set v m)

-- the message's own change, or on a refusal none, and the blank reply
unfoldable pub change_by : (n id w : ℕ) → Record → Message → Changed
change_by n id w v m = change id w v m if eqb n 0 else becomes v blank

-- how many numbers the arrival set is looked for among: all, or none where it isn't wanted
unfoldable pub looked : Bool → ℕ
looked b = NUMBERS if b else 0

-- the place of the record that is read and stored: of T, or any where T is no number
unfoldable pub place_of : ℕ → ℕ
place_of t = 0 if bad_number t else t

-- what a step comes to, refused or not: the refusal or 0, the place of the one record that it stores, that record as it becomes, and the reply
pub record Considering : Type 0 where
  pub refusal : ℕ
  pub place : ℕ
  pub after : Record
  pub reply : Message

-- what the step with the record v of place i and the refusal n comes to
unfoldable pub considered_at : Server → (i n : ℕ) → Record → Message → Considering
considered_at s i n v m =
    let c = change_by n s.id (mask_of (came_earlier s m.pieces) (looked (eqb n 0 && fixes v m))) v m in
    record { refusal = n; place = i; after = c.after; reply = c.reply }

unfoldable pub considered : Server → Message → Considering
considered s m =
    considered_at s (place_of m.t) (refusal_by (formed s) (shard s) (record_at s (place_of m.t)) m) (record_at s (place_of m.t)) m

-- the one record is stored
abbrev pub stored : Server → Considering → Served
stored s c = record { refusal = c.refusal; reply = c.reply; server = put_record s c.place c.after }

-- a message with the code k and the refusal n runs what is ready: a Commit, or a Done as one, that is not refused
abbrev pub runs_after : (n k : ℕ) → Bool
runs_after n k = commits k && eqb n 0

abbrev pub followed : Message → Served → Served
followed m v = then_runs v if runs_after v.refusal m.code else v
