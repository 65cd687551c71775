-- Document 01, "The drive": when the counted answers decide, what they say, and what each phase decides.
use Rattle.std.specs.Prelude.{ℕ, Bool, not, ◌&&◌, ltb, leb, eqb}
use Rattle.masks.specs.Bits.{has}
use Rattle.masks.specs.Folds.{all_below, count_below, union_of, iter}
use Rattle.rules.specs.declared.Set.{Set}
use Rattle.rules.specs.Choice.{◌if◌else◌}
use Rattle.rules.specs.Flags.{there, implies}
use Rattle.rules.specs.Cluster.{server_of}
use Rattle.rules.specs.Sets.{set_of}
use Rattle.drive.specs.declared.Answer.{Answer}
use Rattle.drive.specs.declared.Drive.{Drive}
use Rattle.drive.specs.Held.{answer_at, counted, touched, addressed, to_phase, to_phase1}

-- ---- how many answered

unfoldable pub answered : Drive → ℕ → Bool
answered d s = implies (addressed (touched d) s) (counted d s)

-- all servers of T's shards answered
unfoldable pub all_answered : Drive → Bool
all_answered d = all_below (answered d) 12

abbrev pub counted_in : Drive → ℕ → ℕ → Bool
counted_in d k r = counted d (server_of k r)

-- two answers in shard k, if T touches it
unfoldable pub two_in : Drive → ℕ → Bool
two_in d k = implies (has (touched d) k) (leb 2 (count_below (counted_in d k) 3))

-- two answers in each
unfoldable pub two_in_each : Drive → Bool
two_in_each d = all_below (two_in d) 4

-- the answers decide without "move on"
unfoldable pub decided : Drive → Bool
decided d = two_in_each d if eqb d.phase 2 else all_answered d

-- ---- what they say

abbrev pub has_word : Answer → Bool
has_word a = there a.counted && there a.arrival.some

abbrev pub has_accepted : Answer → Bool
has_accepted a = there a.counted && there a.accepted.some

unfoldable pub word_there : Drive → ℕ → Bool
word_there d s = implies (counted d s) (has_word (answer_at d s))

-- two counted words are equal
unfoldable pub agree : Drive → ℕ → ℕ → Bool
agree d s u = implies (counted d s && counted d u) (eqb (answer_at d s).arrival.word (answer_at d u).arrival.word)

unfoldable pub equal_in : Drive → ℕ → Bool
equal_in d k = agree d (server_of k 0) (server_of k 1) && agree d (server_of k 0) (server_of k 2) && agree d (server_of k 1) (server_of k 2)

-- every answer has an arrival word and the words are equal within each shard
unfoldable pub equal_words : Drive → Bool
equal_words d = all_below (word_there d) 12 && all_below (equal_in d) 4

-- the counted word of replica r of shard k
unfoldable pub word_in : Drive → ℕ → ℕ → ℕ
word_in d k r = (answer_at d (server_of k r)).arrival.word if has_word (answer_at d (server_of k r)) else 0

-- the union per shard of the counted words
unfoldable pub union_in : Drive → ℕ → ℕ
union_in d k = union_of (word_in d k) 3

abbrev pub unions : Drive → Set
unions d = set_of (union_in d)

-- of the server best so far, or 12 for none, and the server s: who holds the higher accepted ballot; of equals best
unfoldable pub better : Drive → ℕ → ℕ → ℕ
better d s best =
    best if not (has_accepted (answer_at d s))
    else s if eqb best 12
    else s if ltb (answer_at d best).accepted.ballot (answer_at d s).accepted.ballot
    else best

-- the server that holds the highest accepted ballot, or 12
unfoldable pub highest : Drive → ℕ
highest d = iter (better d) 12 12

-- ---- the decisions

-- phase 0: the accepted set of the highest ballot goes to phase 2, which the server best holds; else equal arrival words do; else phase 1 at the same ballot
unfoldable pub decide0 : Drive → (best : ℕ) (equal : Bool) → Drive
decide0 d best equal =
    to_phase 2 d (answer_at d best).accepted.set if ltb best 12
    else to_phase 2 d (unions d) if equal
    else to_phase1 d

-- phase 1: the union of the words, to phase 3 where the ballot is the first, all answered and the words are equal; else to phase 2
unfoldable pub decide1 : Drive → (first all equal : Bool) → Drive
decide1 d first all equal = to_phase 3 d (unions d) if first && all && equal else to_phase 2 d (unions d)

-- phase 2: to phase 3
unfoldable pub decide2 : Drive → Drive
decide2 d = to_phase 3 d d.chosen.set

unfoldable pub decide : Drive → Drive
decide d =
    decide0 d (highest d) (equal_words d) if eqb d.phase 0
    else decide1 d (eqb d.ballot 0) (all_answered d) (equal_words d) if eqb d.phase 1
    else decide2 d
