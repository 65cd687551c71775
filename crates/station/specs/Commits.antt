-- A Commit that nothing refuses, as it is computed on a lent server: what runs is known before anything is stored; then the reply with its count is written; and where that fits, the record is stored and the plan runs.
use Rattle.std.specs.Prelude.{ℕ, List, ltb}
use Rattle.rules.specs.Choice.{◌if◌else◌}
use Rattle.wire.specs.Encoding.{encode}
use Rattle.wire.specs.Messages.{commit_ok}
use Rattle.server.specs.declared.Server.{Server}
use Rattle.server.specs.Held.{put_record}
use Rattle.server_step.specs.declared.Considered.{Considered}
use Rattle.server_read.specs.InPlace.{FormRead}
use Rattle.server_plan.specs.Planning.{PlanTold, unrun_of, waiting_turn, waiting_in, planned_after}
use Rattle.server_lent.specs.Listed.{ran_planned}
use Rattle.door.specs.Exchange.{Exchange, ends}

-- the place of the record that a Commit stores, or any where there is no such place
unfoldable pub place_in : Considered → ℕ
place_in h = h.place if ltb h.place 64 else 0

-- what each number waits for once the record is stored at a place, and what then runs
abbrev pub plan_for : Server → FormRead → Considered → (place : ℕ) → PlanTold
plan_for s f h i =
    let c = h.after.committed in
    planned_after f (waiting_turn f.word (waiting_in s f.word 64) i c) i (unrun_of f.word c) s.log

abbrev pub committed_at : Server → FormRead → Considered → (place : ℕ) → (output : List ℕ) → Exchange
committed_at s f h i z =
    let p = plan_for s f h i in
    ends s z (encode (commit_ok h.reply.t h.reply.server p.many) z) (ran_planned p.plan p.log p.many (put_record s i h.after))

abbrev pub committed : Server → FormRead → Considered → (output : List ℕ) → Exchange
committed s f h z = committed_at s f h (place_in h) z
