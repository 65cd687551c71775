-- Document 01, "Refusal numbers", State form of a drive: numbers in range; pieces; ballots; answers from servers of T's shards only, too few to decide by themselves, and none in phase 3; a set exactly in phases 2 and 3.
-- What an answer holds is judged where its phase has it: words in phases 0 and 1, accepted sets in phase 0.
use Rattle.std.specs.Prelude.{ℕ, Bool, not, ◌&&◌, ◌||◌, leb, ltb, eqb}
use Rattle.masks.specs.Bits.{has}
use Rattle.masks.specs.Folds.{all_below}
use Rattle.rules.specs.Choice.{◌if◌else◌}
use Rattle.rules.specs.Flags.{there, implies}
use Rattle.rules.specs.Cluster.{bad_number, bad_coordinator}
use Rattle.rules.specs.Ballots.{bad_ballot, may_use}
use Rattle.rules.specs.Pieces.{pieces_kept}
use Rattle.rules.specs.Sets.{bad_set}
use Rattle.drive.specs.declared.Answer.{Answer}
use Rattle.drive.specs.declared.Drive.{Drive}
use Rattle.drive.specs.Held.{answer_at, counted, touched, addressed}
use Rattle.drive.specs.Decide.{has_word, has_accepted, decided}

unfoldable pub numbers_formed : Drive → Bool
numbers_formed d = not (bad_number d.t) && not (bad_coordinator d.coordinator) && leb d.phase 3

unfoldable pub ballots_formed : Drive → Bool
ballots_formed d =
    may_use d.coordinator d.t d.ballot && implies (eqb d.phase 0) (not (eqb d.ballot 0)) && not (bad_ballot d.seen)

-- the arrival word that an answer holds in phases 0 and 1
unfoldable pub word_formed : ℕ → ℕ → Answer → Bool
word_formed t phase a = implies (ltb phase 2 && has_word a) (not (has a.arrival.word t))

-- the accepted ballot and set that an answer holds in phase 0
unfoldable pub accepted_formed : (t touched phase : ℕ) → Answer → Bool
accepted_formed t touched phase a = implies (eqb phase 0 && has_accepted a) (not (bad_ballot a.accepted.ballot) && not (bad_set t touched a.accepted.set))

-- the answer of the server s, where it is counted
unfoldable pub answer_formed : Drive → ℕ → Bool
answer_formed d s =
    implies (counted d s)
    (addressed (touched d) s
    && not (eqb d.phase 3)
    && word_formed d.t d.phase (answer_at d s)
    && accepted_formed d.t (touched d) d.phase (answer_at d s))

unfoldable pub too_few : Drive → Bool
too_few d = eqb d.phase 3 || not (decided d)

unfoldable pub set_formed : Drive → Bool
set_formed d = there d.chosen.some && not (bad_set d.t (touched d) d.chosen.set) if leb 2 d.phase else not (there d.chosen.some)

unfoldable pub formed : Drive → Bool
formed d = numbers_formed d && pieces_kept d.pieces && ballots_formed d && all_below (answer_formed d) 12 && too_few d && set_formed d
