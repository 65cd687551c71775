-- A reply as it is computed, which is not refused: what it comes to, and what is stored of it. A new phase clears the answers. Else it is one answer, in its place, and the promise seen.
use Rattle.std.specs.Prelude.{ℕ, max, eqb, set}
use Rattle.rules.specs.Choice.{◌if◌else◌}
use Rattle.wire.specs.declared.Message.{Message}
use Rattle.wire.specs.Codes.{Done, Behind}
use Rattle.drive.specs.declared.Answer.{Answer}
use Rattle.drive.specs.declared.Drive.{Drive}
use Rattle.drive.specs.Held.{answer_at, with_answer}
use Rattle.drive.specs.Decide.{decided}
use Rattle.drive.specs.Hear.{answer_of}
use Rattle.drive_decide.specs.Turns.{to, turned, turn_of}
use Rattle.drive_step.specs.declared.Weighed.{Weighed}
use Rattle.drive_step.specs.declared.Weighed.TheVariants.{Turned, Kept}

-- the answer a of the server s
unfoldable pub weighed_answer : Drive → (s : ℕ) → Answer → Weighed
weighed_answer d s a = Turned (turn_of (with_answer d s a)) if decided (with_answer d s a) else Kept s a d.seen

unfoldable pub weighed : Drive → Message → Weighed
weighed d m =
    Turned (to 3 m.set) if eqb m.code Done
    else Kept m.server (answer_at d m.server) (max d.seen m.promise) if eqb m.code Behind
    else weighed_answer d m.server (answer_of m)

-- ---- what is stored

-- one answer and the promise seen, in their places
abbrev pub kept : Drive → (place : ℕ) → Answer → (seen : ℕ) → Drive
kept d s a x = record { t = d.t; coordinator = d.coordinator; ballot = d.ballot; phase = d.phase; pieces = d.pieces; answers = set d.answers s a; chosen = d.chosen; seen = x }

abbrev pub stored : Drive → Weighed → Drive
stored d (Turned x) = turned d x
stored d (Kept s a x) = kept d s a x
