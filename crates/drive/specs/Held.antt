-- Document 01, "The drive": what a drive holds, an answer for each server among it. Phases: 0 prepare, 1 pre-accept, 2 accept, 3 commit. A new phase begins with no answer counted.
use Rattle.std.specs.Prelude.{ℕ, max, Bool, List, get_or, set, replicate}
use Rattle.rules.specs.declared.Pieces.{Pieces}
use Rattle.rules.specs.declared.Set.{Set}
use Rattle.masks.specs.Bits.{has}
use Rattle.rules.specs.Flags.{there}
use Rattle.rules.specs.Cluster.{shard_of}
use Rattle.rules.specs.Pieces.{shards_of}
use Rattle.rules.specs.Maybe.{no_word, no_vote, not_set, some_set}
use Rattle.drive.specs.declared.Answer.{Answer}
use Rattle.drive.specs.declared.Drive.{Drive}

abbrev pub no_answer : Answer
no_answer = record { counted = 0; arrival = no_word; accepted = no_vote }

abbrev pub no_answers : List Answer
no_answers = replicate 12 no_answer

abbrev pub answer_at : Drive → ℕ → Answer
answer_at d s = get_or d.answers s no_answer

abbrev pub counted : Drive → ℕ → Bool
counted d s = there (answer_at d s).counted

-- the shards that T touches
abbrev pub touched : Drive → ℕ
touched d = shards_of d.pieces

-- s is a server of the shards that T touches
abbrev pub addressed : (touched s : ℕ) → Bool
addressed touched s = has touched (shard_of s)

-- a drive at the beginning of phase 0 or 1, with no set
abbrev pub began : (t coordinator ballot phase : ℕ) → Pieces → (seen : ℕ) → Drive
began t c b p ps seen = record { t = t; coordinator = c; ballot = b; phase = p; pieces = ps; answers = no_answers; chosen = not_set; seen = seen }

-- phase 1, at the same ballot
abbrev pub to_phase1 : Drive → Drive
to_phase1 d = began d.t d.coordinator d.ballot 1 d.pieces d.seen

-- phase 2 or 3, with a set
abbrev pub to_phase : ℕ → Drive → Set → Drive
to_phase p d v = record { t = d.t; coordinator = d.coordinator; ballot = d.ballot; phase = p; pieces = d.pieces; answers = no_answers; chosen = some_set v; seen = d.seen }

-- one answer more, of the server s
abbrev pub with_answer : Drive → ℕ → Answer → Drive
with_answer d s a = record { t = d.t; coordinator = d.coordinator; ballot = d.ballot; phase = d.phase; pieces = d.pieces; answers = set d.answers s a; chosen = d.chosen; seen = d.seen }

-- the highest promise seen
abbrev pub with_promise : Drive → ℕ → Drive
with_promise d p = record { t = d.t; coordinator = d.coordinator; ballot = d.ballot; phase = d.phase; pieces = d.pieces; answers = d.answers; chosen = d.chosen; seen = max d.seen p }
