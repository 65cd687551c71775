-- What a decision changes: the phase, with its set or none. A drive that is turned begins that phase with no answer counted, and keeps the rest.
-- The decisions of `drive` are these turns, by the laws of proofs/Turning.
use Rattle.std.specs.Prelude.{ℕ, Bool, Option, Some, None, ◌&&◌, ltb, eqb}
use Rattle.rules.specs.declared.Set.{Set}
use Rattle.masks.specs.Bits.{union}
use Rattle.rules.specs.Choice.{◌if◌else◌}
use Rattle.rules.specs.Flags.{there, implies}
use Rattle.rules.specs.Maybe.{not_set, some_set}
use Rattle.drive.specs.declared.Answer.{Answer}
use Rattle.drive.specs.declared.Drive.{Drive}
use Rattle.drive.specs.Held.{answer_at, no_answers}
use Rattle.drive.specs.Decide.{all_answered, has_word, equal_words, unions, highest}
use Rattle.drive_form.specs.Parts.{word_of}
use Rattle.drive_decide.specs.declared.InShard.{InShard}
use Rattle.drive_decide.specs.declared.InShards.{InShards}
use Rattle.drive_decide.specs.declared.Turn.{Turn}

abbrev pub turned : Drive → Turn → Drive
turned d x = record { t = d.t; coordinator = d.coordinator; ballot = d.ballot; phase = x.phase; pieces = d.pieces; answers = no_answers; chosen = x.chosen; seen = d.seen }

abbrev pub to : (phase : ℕ) → Set → Turn
to p v = record { phase = p; chosen = some_set v }

abbrev pub to_phase1 : Turn
to_phase1 = record { phase = 1; chosen = not_set }

-- phase 0: v is the accepted set of the highest ballot, where one is held
unfoldable pub turn0 : Option Set → (equal : Bool) (union : Set) → Turn
turn0 (Some v) equal u = to 2 v
turn0 None equal u = to 2 u if equal else to_phase1

-- phase 1
unfoldable pub turn1 : (first all equal : Bool) (union : Set) → Turn
turn1 first all equal u = to 3 u if first && all && equal else to 2 u

-- ---- what the answers say

-- the three answers of a shard: the union of their words, and whether each counted one has a word and they are equal
abbrev pub said : Answer → Bool
said a = implies (there a.counted) (has_word a)

abbrev pub same : Answer → Answer → Bool
same a b = implies (there a.counted && there b.counted) (eqb a.arrival.word b.arrival.word)

abbrev pub in_shard : Answer → Answer → Answer → InShard
in_shard a b c =
    record { union = union (union (word_of a) (word_of b)) (word_of c); equal = said a && said b && said c && (same a b && same a c && same b c) }

abbrev pub in_all : InShard → InShard → InShard → InShard → InShards
in_all a b c d = record { union = record { w0 = a.union; w1 = b.union; w2 = c.union; w3 = d.union }; equal = a.equal && b.equal && c.equal && d.equal }

abbrev pub words_of : Drive → InShards
words_of d = record { union = unions d; equal = equal_words d }

-- the server s of the twelve; 12 is none
abbrev pub server_or_none : ℕ → Option ℕ
server_or_none s = Some s if ltb s 12 else None

-- the accepted set of the highest ballot, where one is held
abbrev pub vote_of : Drive → Option Set
vote_of d = Some (answer_at d (highest d)).accepted.set if ltb (highest d) 12 else None

-- ---- what the drive decides

unfoldable pub turn_of : Drive → Turn
turn_of d =
    turn0 (vote_of d) (equal_words d) (unions d) if eqb d.phase 0
    else turn1 (eqb d.ballot 0) (all_answered d) (equal_words d) (unions d) if eqb d.phase 1
    else to 3 d.chosen.set
