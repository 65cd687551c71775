-- The parts of a drive's form, each over the fields that it looks at, and the counted answers as a word of servers. At a drive's own fields they are the definitions of `drive`, by the laws of proofs/Parts.
use Rattle.std.specs.Prelude.{ℕ, ◌+◌, ◌*◌, ◌/◌, ◌^◌, Bool, Result, Ok, Err, true, cond, not, ◌&&◌, ◌||◌, leb, ltb, eqb}
use Rattle.masks.specs.Bits.{has, none, insert, union, both, within}
use Rattle.masks.specs.Folds.{all_below, mask_of, union_of}
use Rattle.rules.specs.Choice.{◌if◌else◌}
use Rattle.rules.specs.Flags.{there, implies}
use Rattle.rules.specs.Cluster.{server_of}
use Rattle.rules.specs.Sets.{bad_set}
use Rattle.drive.specs.declared.Answer.{Answer}
use Rattle.drive.specs.declared.Drive.{Drive}
use Rattle.drive.specs.Held.{answer_at, counted, touched}
use Rattle.drive.specs.Decide.{has_word}
use Rattle.drive.specs.Form.{numbers_formed, ballots_formed, accepted_formed, formed}
use Rattle.drive.specs.Due.{servers_of}
use Rattle.drive_form.specs.declared.Walked.{Walked}
use Rattle.drive_form.specs.declared.Counted.{Counted}
use Rattle.rules.specs.declared.refusals.Refusal.{Refusal}
use Rattle.rules.specs.declared.refusals.Refusal.TheVariants.{OutOfForm}

-- ---- what is no answer

-- w has the shards that the pieces touch, none if they break their rule
abbrev pub head_kept : Drive → (w : ℕ) → Bool
head_kept d w = numbers_formed d && not (eqb w none) && ballots_formed d

abbrev pub set_kept : Drive → (touched : ℕ) → Bool
set_kept d touched = there d.chosen.some && not (bad_set d.t touched d.chosen.set) if leb 2 d.phase else not (there d.chosen.some)

-- ---- whether the servers of the word w decide

-- w and, where shard k is touched, its three servers
abbrev pub with_shard : (touched k w : ℕ) → ℕ
with_shard touched k w = cond (has touched k) (insert (insert (insert w (3 * k)) (3 * k + 1)) (3 * k + 2)) w

-- at the first server of a shard: two at least of its three are in w
unfoldable pub pairs : ℕ → ℕ
pairs w = union (union (both w (w / 2 ^ 1)) (both w (w / 2 ^ 2))) (both (w / 2 ^ 1) (w / 2 ^ 2))

-- two at least of three
abbrev pub two_of : Bool → Bool → Bool → Bool
two_of a b c = (a && b) || (a && c) || (b && c)

-- two of shard k, if it is touched
abbrev pub two_from : (touched w k : ℕ) → Bool
two_from touched w k = implies (has touched k) (two_of (has w (server_of k 0)) (has w (server_of k 1)) (has w (server_of k 2)))

unfoldable pub enough : (phase touched w : ℕ) → Bool
enough p touched w = all_below (two_from touched w) 4 if eqb p 2 else within (servers_of touched) w

-- ---- a walk of the answers

-- the word of a counted answer, or nothing
abbrev pub word_of : Answer → ℕ
word_of a = a.arrival.word if has_word a else 0

abbrev pub at_first : Walked
at_first = record { answered = none; words = none; kept = true }

abbrev pub further : Drive → (touched s : ℕ) → Answer → Walked → Walked
further d touched s a l =
    record { answered = cond (there a.counted) (insert l.answered s) l.answered; words = union l.words (word_of a); kept = l.kept && accepted_formed d.t touched d.phase a }

abbrev pub word_at : Drive → ℕ → ℕ
word_at d s = word_of (answer_at d s)

abbrev pub accepted_at : Drive → (touched : ℕ) → ℕ → Bool
accepted_at d touched s = accepted_formed d.t touched d.phase (answer_at d s)

-- the first n answers of d
unfoldable pub walked_to : Drive → (touched n : ℕ) → Walked
walked_to d touched n = record { answered = mask_of (counted d) n; words = union_of (word_at d) n; kept = all_below (accepted_at d touched) n }

-- the counted servers, and what is in any of their words
unfoldable pub answers_kept : Drive → (touched : ℕ) → Walked → Bool
answers_kept d touched l =
    within l.answered (servers_of touched)
    && implies (eqb d.phase 3) (eqb l.answered none)
    && implies (ltb d.phase 2) (not (has l.words d.t))
    && (eqb d.phase 3 || not (enough d.phase touched l.answered))

-- ---- all of them

unfoldable pub formed_by : Drive → (touched : ℕ) → Walked → Bool
formed_by d touched l = head_kept d touched && answers_kept d touched l && l.kept && set_kept d touched

-- ---- who is counted

abbrev pub counted_of : Drive → Counted
counted_of d = record { shards = touched d; answered = mask_of (counted d) 12 }

-- 13, or who is counted
abbrev pub in_form : Drive → Result Counted Refusal
in_form d = Ok (counted_of d) if formed d else Err OutOfForm
