-- Document 01, "Running": a run. It runs the next group in rising number, logs each number of it, with pieces here or without, and answers how many ran; where nothing is ready it answers 0 and changes nothing. And runs repeated until 0.
use Rattle.std.specs.Prelude.{ℕ, zero, suc, ◌-◌, List, eqb, set}
use Rattle.masks.specs.Folds.{tab, over, size}
use Rattle.rules.specs.Choice.{◌if◌else◌}
use Rattle.rules.specs.Sets.{members}
use Rattle.rules.specs.declared.Values.{Values}
use Rattle.graph.specs.Walk.{rows_of, next_group}
use Rattle.counters.specs.declared.Executed.{Executed}
use Rattle.counters.specs.Effects.{execute}
use Rattle.server.specs.declared.Record.{Record}
use Rattle.server.specs.declared.Server.{Server}
use Rattle.server.specs.declared.Ran.{Ran}
use Rattle.server.specs.Held.{record_at, shard, committed_at, committed_word, ran_word, append}
use Rattle.server.specs.Form.{formed}

-- the numbers of t's committed set, in one word; none where t isn't committed here
unfoldable pub deps_at : Server → ℕ → ℕ
deps_at s t = members (record_at s t).committed.set if committed_at s t else 0

unfoldable pub deps_of : Server → List ℕ
deps_of s = tab (deps_at s) 64

-- what runs next, as a word
unfoldable pub next_run : Server → ℕ
next_run s = next_group (rows_of (deps_of s)) (committed_word s) (ran_word s)

abbrev pub with_results : Values → Record → Record
with_results r v = record { pieces = v.pieces; promise = v.promise; arrival = v.arrival; accepted = v.accepted; committed = v.committed; ran = 1; values = r }

-- the number t has run, with this outcome
abbrev pub stored : Server → ℕ → Executed → Server
stored s t e = record { id = s.id; records = set s.records t (with_results e.values (record_at s t)); counters = e.counters; log = append s.log t }

unfoldable pub run_one : Server → ℕ → Server
run_one s t = stored s t (execute (record_at s t).pieces (shard s) s.counters)

-- the numbers of g run, in rising number
unfoldable pub run_group : Server → ℕ → Server
run_group s g = over run_one s g 64

abbrev pub ran_none : Server → ℕ → Ran
ran_none s n = record { refusal = n; many = 0; server = s }

unfoldable pub turn : Server → ℕ → Ran
turn s g = record { refusal = 0; many = size g; server = run_group s g }

unfoldable pub run : Server → Ran
run s = turn s (next_run s) if formed s else ran_none s 13

-- runs, at most n, until one runs nothing
unfoldable pub turns : ℕ → Server → Server
turns zero s = s
turns (suc n) s = let g = next_run s in s if eqb g 0 else turns n (run_group s g)

-- how many ran in all
abbrev pub ran_from : Server → Server → Ran
ran_from s z = record { refusal = 0; many = z.log.count - s.log.count; server = z }

unfoldable pub run_all : Server → Ran
run_all s = ran_from s (turns 64 s) if formed s else ran_none s 13
