-- What runs, and in which order, as it is computed before any number runs: the log after the runs.
use Rattle.std.specs.Prelude.{ℕ, zero, suc, ◌-◌, Bool, cond, not, ◌&&◌, List, eqb, ltb, replicate, set}
use Rattle.masks.specs.Bits.{none, union, insert, without}
use Rattle.masks.specs.Folds.{iter, over}
use Rattle.rules.specs.Choice.{◌if◌else◌}
use Rattle.rules.specs.Flags.{there}
use Rattle.rules.specs.declared.MaybeSet.{MaybeSet}
use Rattle.rules.specs.Sets.{members}
use Rattle.graph.specs.Walk.{next_group, rows_of}
use Rattle.server.specs.declared.Log.{Log}
use Rattle.server.specs.declared.Server.{Server}
use Rattle.server.specs.Held.{record_at, append}
use Rattle.server_run.specs.Gathered.{named}
use Rattle.server_run.specs.Limited.{allowed, refusal_of}
use Rattle.server_read.specs.InPlace.{FormRead}
use Rattle.server_plan.specs.declared.Plan.{Plan}
use Rattle.server_plan.specs.declared.Planned.{Planned}
use Rattle.server_plan.specs.declared.Waiting.{Waiting}

-- ---- what each number waits for

abbrev pub nothing_waits : Waiting
nothing_waits = record { deps = replicate 64 0; committed = 0 }

unfoldable pub unrun_of : ℕ → MaybeSet → ℕ
unrun_of w c = without (members (named c)) w

unfoldable pub committed_with : (w t : ℕ) → MaybeSet → ℕ
committed_with w t c = cond (there c.some) (insert w t) w

abbrev pub waiting_turn : ℕ → Waiting → ℕ → MaybeSet → Waiting
waiting_turn w d t c = record { deps = set d.deps t (unrun_of w c); committed = committed_with d.committed t c }

unfoldable pub waiting_in : Server → (word n : ℕ) → Waiting
waiting_in s w n = iter (λ t d. waiting_turn w d t (record_at s t).committed) nothing_waits n

-- ---- the log

-- one number more, while there is room
unfoldable pub noted : Log → ℕ → Log
noted l u = append l u if ltb l.count 64 else l

unfoldable pub logged_of : Log → (g n : ℕ) → Log
logged_of l g n = over noted l g n

-- the log after at most n runs
unfoldable pub planned_log : List ℕ → ℕ → (n ran : ℕ) → Log → Log
planned_log rows committed zero ran l = l
planned_log rows committed (suc n) ran l =
    let g = next_group rows committed ran in
    l if eqb g 0 else planned_log rows committed n (union ran g) (logged_of l g 64)

-- a plan with its refusal or 0
pub record PlanTold : Type 0 where
  pub refusal : ℕ
  pub many : ℕ
  pub plan : Plan
  pub log : Log

-- where nothing refuses
abbrev pub made : PlanTold → Planned
made p = record { many = p.many; plan = p.plan; log = p.log }

-- the plan of a server of this form, with these words, that has this log
unfoldable pub planned_by : FormRead → List ℕ → (committed : ℕ) → Log → (limit : ℕ) → PlanTold
planned_by f deps committed log limit =
    let l = planned_log (rows_of deps) committed (allowed f.fine limit) f.word log in
    record { refusal = refusal_of f.fine; many = l.count - log.count; plan = record { shard = f.shard; first = log.count }; log = l }

-- ---- the plan of a Commit

-- t alone is committed and has not run, and it waits for another: u is the word of what it waits for
abbrev pub waits_alone : (w committed t u : ℕ) → Bool
waits_alone w committed t u = eqb (without (without committed w) (insert none t)) none && not (eqb (without u (insert none t)) none)

-- nothing runs
abbrev pub nothing_planned : FormRead → Log → PlanTold
nothing_planned f log = record { refusal = refusal_of f.fine; many = 0; plan = record { shard = f.shard; first = log.count }; log = log }

-- the plan until 0, where the number t has become committed and waits for u: what waits alone is seen without a walk
unfoldable pub planned_after : FormRead → Waiting → (t u : ℕ) → Log → PlanTold
planned_after f d t u log = nothing_planned f log if waits_alone f.word d.committed t u else planned_by f d.deps d.committed log 64
