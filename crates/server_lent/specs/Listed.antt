-- Running, as it is computed on a lent server: the numbers of a plan run one after the other, and the pieces of each, every counter in its place.
use Rattle.std.specs.Prelude.{ℕ, ◌+◌, eqb, ltb, get_or, min}
use Rattle.masks.specs.Folds.{iter}
use Rattle.rules.specs.Choice.{◌if◌else◌}
use Rattle.rules.specs.Pieces.{piece_at, used}
use Rattle.rules.specs.Values.{no_values, with_value}
use Rattle.rules.specs.declared.Pieces.{Pieces}
use Rattle.counters.specs.declared.Counters.{Counters}
use Rattle.counters.specs.declared.Executed.{Executed}
use Rattle.counters.specs.Effects.{zeroed, with_counter}
use Rattle.counters.specs.InPlace.{place_of as place_in, run_at}
use Rattle.server.specs.declared.Log.{Log}
use Rattle.server.specs.declared.Server.{Server}
use Rattle.server.specs.Held.{record_at, put_record}
use Rattle.server.specs.Run.{with_results}
use Rattle.server_step.specs.OneStore.{place_of}
use Rattle.server_plan.specs.declared.Plan.{Plan}

-- ---- the pieces of a number

-- the piece i, where it is on shard k
abbrev pub piece_turn : Pieces → (k i : ℕ) → Executed → Executed
piece_turn ps k i e =
    let p = piece_at ps i in
    let at = place_in p.key in
    let x = run_at p (get_or e.counters.list at zeroed) in
    record { counters = with_counter e.counters at x.counter; values = with_value e.values x.result } if eqb p.shard k else e

-- the first n pieces
unfoldable pub ran_pieces : Pieces → ℕ → Counters → ℕ → Executed
ran_pieces ps k c n = iter (piece_turn ps k) (record { counters = c; values = no_values }) n

abbrev pub with_counters : Server → Counters → Server
with_counters s c = record { id = s.id; records = s.records; counters = c; log = s.log }

-- ---- the numbers of a plan

-- where the plan has its number t, or any place where it has none
unfoldable pub spot_of : (first t : ℕ) → ℕ
spot_of first t = first + t if ltb (first + t) 64 else 0

-- the number at a place of the plan
abbrev pub listed_at : Plan → Log → ℕ → ℕ
listed_at p l t = place_of (get_or l.list (spot_of p.first t) 0)

abbrev pub ran_at : Plan → Log → ℕ → Server → Server
ran_at p l t s =
    let x = record_at s (listed_at p l t) in
    let o = ran_pieces x.pieces p.shard s.counters (used x.pieces.count) in
    put_record (with_counters s o.counters) (listed_at p l t) (with_results o.values x)

unfoldable pub ran_listed : Plan → Log → Server → ℕ → Server
ran_listed p l s n = iter (ran_at p l) s n

unfoldable pub few_of : ℕ → ℕ
few_of many = min many 64

-- the plan has run, and the log is stored
unfoldable pub ran_planned : Plan → Log → ℕ → Server → Server
ran_planned p l many s =
    let z = ran_listed p l s (few_of many) in
    record { id = z.id; records = z.records; counters = z.counters; log = l }
