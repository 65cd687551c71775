-- Document 01, "The drive" and "Refusal numbers": a reply. An OK of this number, ballot and phase is counted once, and decides if it is the last one needed; Done goes to phase 3 with its set; Behind records the promise.
use Rattle.std.specs.Prelude.{ℕ, Bool, not, ◌&&◌, ◌||◌, eqb}
use Rattle.rules.specs.Choice.{◌if◌else◌}
use Rattle.rules.specs.Pieces.{same_pieces}
use Rattle.rules.specs.declared.MaybeWord.{MaybeWord}
use Rattle.rules.specs.declared.MaybeVote.{MaybeVote}
use Rattle.rules.specs.Maybe.{no_word, some_word, no_vote}
use Rattle.wire.specs.declared.Message.{Message}
use Rattle.wire.specs.Codes.{shape_of, drive_takes, oks, PreAcceptOK, AcceptOK, PrepareOK, Done, Behind}
use Rattle.wire.specs.Faults.{over_count, bad_numbers, bad_pieces, bad_sets}
use Rattle.drive.specs.declared.Answer.{Answer}
use Rattle.drive.specs.declared.Drive.{Drive}
use Rattle.drive.specs.declared.Moved.{Moved}
use Rattle.drive.specs.Held.{counted, touched, addressed, to_phase, with_answer, with_promise}
use Rattle.drive.specs.Decide.{decided, decide}
use Rattle.drive.specs.Form.{formed}

-- 12: a code that a drive does not take, or a count above 8
unfoldable pub not_taken : Message → Bool
not_taken m = not (drive_takes m.code) || over_count m

-- 8, by phase: an OK belongs to one phase, Done and Behind to any but 3
unfoldable pub other_phase : ℕ → Message → Bool
other_phase phase m =
    not (eqb phase 0) if eqb m.code PrepareOK
    else not (eqb phase 1) if eqb m.code PreAcceptOK
    else not (eqb phase 2) if eqb m.code AcceptOK
    else eqb phase 3

-- 8: another phase, number or ballot, or a server that is not one of T's shards, or is counted; Behind may come from a counted one
unfoldable pub misplaced : Drive → Message → Bool
misplaced d m =
    other_phase d.phase m
    || not (eqb m.t d.t)
    || ((shape_of m.code).ballot && not (eqb m.ballot d.ballot))
    || ((shape_of m.code).server && not (addressed (touched d) m.server))
    || (oks m.code && counted d m.server)

-- 5: other pieces than the drive's
unfoldable pub other_pieces : Drive → Message → Bool
other_pieces d m = (shape_of m.code).pieces && not (same_pieces d.pieces m.pieces)

-- the first test that fires gives its number; 0 is no refusal
unfoldable pub refusal : Drive → Message → ℕ
refusal d m =
    13 if not (formed d)
    else 12 if not_taken m
    else 1 if bad_numbers m
    else 2 if bad_pieces m
    else 8 if misplaced d m
    else 5 if other_pieces d m
    else 3 if bad_sets (touched d) m
    else 0

-- ---- after the refusals

abbrev pub says : MaybeWord → MaybeVote → Answer
says a c = record { counted = 1; arrival = a; accepted = c }

-- what an OK says of arrival and acceptance
unfoldable pub answer_of : Message → Answer
answer_of m =
    says m.arrival m.accepted if eqb m.code PrepareOK
    else says (some_word m.word) no_vote if eqb m.code PreAcceptOK
    else says no_word no_vote

-- decides, or waits for more
unfoldable pub settle : Drive → (enough : Bool) → Drive
settle d enough = decide d if enough else d

unfoldable pub count : Drive → ℕ → Answer → Drive
count d s a = settle (with_answer d s a) (decided (with_answer d s a))

unfoldable pub heard : Drive → Message → Drive
heard d m =
    to_phase 3 d m.set if eqb m.code Done
    else with_promise d m.promise if eqb m.code Behind
    else count d m.server (answer_of m)

abbrev pub refused : Drive → ℕ → Moved
refused d n = record { refusal = n; drive = d }

abbrev pub moved : Drive → Moved
moved d = record { refusal = 0; drive = d }

unfoldable pub hear : Drive → Message → Moved
hear d m = moved (heard d m) if eqb (refusal d m) 0 else refused d (refusal d m)
