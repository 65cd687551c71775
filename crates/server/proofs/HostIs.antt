-- What the host's calls of a server refuse, both ways, and what a fresh server holds. Assumes nothing.
use mathlib.Core.Path.{◌≡◌, refl, sym, ap, ◌∙◌}
use mathlib.Core.Logic.{◌↔◌}
use mathlib.Core.Bool.{Bool, true, false, not, cond}
use Prim.Native.Nat.{ℕ, ◌≤◌, ◌<◌}
use native.Mathlib.Omega.{arith}
use lib.IntN.{pos}
use lib.ListN.{get_or-replicate}
use Rattle.rules.specs.Cluster.{bad_server}
use Rattle.rules.specs.Sets.{set_of, no_set}
use Rattle.rules.proofs.InTurn.{◌when◌otherwise◌, nothing, in_turn, at_last, denied}
use Rattle.rules.proofs.RuleOne.{server-bad, server-good}
use Rattle.counters.specs.Effects.{counter_at}
use Rattle.counters.proofs.RangeIs.{at_first_lem}
use Rattle.server.specs.declared.Record.{Record}
use Rattle.server.specs.declared.Server.{Server}
use Rattle.server.specs.declared.Begun.{Begun}
use Rattle.server.specs.declared.Ran.{Ran}
use Rattle.server.specs.declared.Wants.{Wants}
use Rattle.server.specs.Held.{fresh_record, no_record, record_at}
use Rattle.server.specs.Form.{formed}
use Rattle.server.specs.Run.{next_run, ran_none, turn, run, turns, ran_from, run_all}
use Rattle.server.specs.Host.{fresh_server, fresh, wanted_in, wanted}
use Rattle.server.proofs.FormDown.{InForm, form-is}

-- one refusal, or none
one_reason : (P : Type 0) (b : Bool) (k r : ℕ) → (b ≡ true) ↔ P → r ≡ cond b k 0 → (n : ℕ) → (r ≡ n) ↔ (k when P otherwise nothing) n
one_reason P b k r h e n = let t = in_turn P nothing b k 0 h at_last n in (λ q. t.0 (sym e ∙ q), λ q. e ∙ t.1 q)

-- ---- a run, runs until 0, and the wanted set: 13 exactly if the server is not in form

module _ (s : Server) where
  not-formed : (not (formed s) ≡ true) ↔ (InForm s → ⊥)
  not-formed = denied (InForm s) (formed s) (form-is s)

  run_by : (b : Bool) → formed s ≡ b → (run s).refusal ≡ cond (not b) 13 0
  unfolding run turn
  run_by true e = ap (λ (c : Bool). (cond {A = Ran} c (turn s (next_run s)) (ran_none s 13)).refusal) e
  run_by false e = ap (λ (c : Bool). (cond {A = Ran} c (turn s (next_run s)) (ran_none s 13)).refusal) e

  run_all-by : (b : Bool) → formed s ≡ b → (run_all s).refusal ≡ cond (not b) 13 0
  unfolding run_all
  run_all-by true e = ap (λ (c : Bool). (cond {A = Ran} c (ran_from s (turns 64 s)) (ran_none s 13)).refusal) e
  run_all-by false e = ap (λ (c : Bool). (cond {A = Ran} c (ran_from s (turns 64 s)) (ran_none s 13)).refusal) e

  wanted_by : (b : Bool) → formed s ≡ b → (wanted s).refusal ≡ cond (not b) 13 0
  unfolding wanted
  wanted_by true e = ap (λ (c : Bool). (cond {A = Wants} c (record { refusal = 0; set = set_of (wanted_in s) }) (record { refusal = 13; set = no_set })).refusal) e
  wanted_by false e = ap (λ (c : Bool). (cond {A = Wants} c (record { refusal = 0; set = set_of (wanted_in s) }) (record { refusal = 13; set = no_set })).refusal) e

  pub run-refuses : (n : ℕ) → ((run s).refusal ≡ n) ↔ (13 when (InForm s → ⊥) otherwise nothing) n
  run-refuses = one_reason (InForm s → ⊥) (not (formed s)) 13 (run s).refusal not-formed (run_by (formed s) refl)

  pub run_all-refuses : (n : ℕ) → ((run_all s).refusal ≡ n) ↔ (13 when (InForm s → ⊥) otherwise nothing) n
  run_all-refuses = one_reason (InForm s → ⊥) (not (formed s)) 13 (run_all s).refusal not-formed (run_all-by (formed s) refl)

  pub wanted-refuses : (n : ℕ) → ((wanted s).refusal ≡ n) ↔ (13 when (InForm s → ⊥) otherwise nothing) n
  wanted-refuses = one_reason (InForm s → ⊥) (not (formed s)) 13 (wanted s).refusal not-formed (wanted_by (formed s) refl)

-- ---- fresh: 1 exactly for a server above 11, and then the lent one stays

-- nothing is held of a number: no pieces, promise 0, no arrival set, nothing accepted or committed, not run
pub record Nothing (v : Record) : Type 0 where
  pub pieces : v.pieces.count ≡ 0
  pub promise : v.promise ≡ 0
  pub arrival : v.arrival.some ≡ 0
  pub accepted : v.accepted.some ≡ 0
  pub committed : v.committed.some ≡ 0
  pub ran : v.ran ≡ 0

module _ (s : Server) (id : ℕ) where
  fresh-by : (b : Bool) → bad_server id ≡ b → fresh s id ≡ cond b (record { refusal = 1; server = s }) (record { refusal = 0; server = fresh_server id })
  unfolding fresh
  fresh-by b e = rw e

  fresh-number : (b : Bool) → bad_server id ≡ b → (fresh s id).refusal ≡ cond b 1 0
  fresh-number true e = ap (λ (x : Begun). x.refusal) (fresh-by true e)
  fresh-number false e = ap (λ (x : Begun). x.refusal) (fresh-by false e)

  pub fresh-refuses : (n : ℕ) → ((fresh s id).refusal ≡ n) ↔ (1 when (11 < id) otherwise nothing) n
  fresh-refuses = one_reason (11 < id) (bad_server id) 1 (fresh s id).refusal (server-bad id) (fresh-number (bad_server id) refl)

  pub refused-stays : 11 < id → (fresh s id).server ≡ s
  refused-stays h = ap (λ (x : Begun). x.server) (fresh-by true ((server-bad id).1 h))

  -- "pieces or none; promised ballot (at first 0); .. also the 16 counters .. and the log"
  module _ (l : id ≤ 11) where
    abbrev begun : Server
    begun = (fresh s id).server

    begun-is : begun ≡ fresh_server id
    begun-is = ap (λ (x : Begun). x.server) (fresh-by false ((server-good id).1 l))

    pub fresh-id : begun.id ≡ id
    unfolding fresh_server
    fresh-id = ap (λ (x : Server). x.id) begun-is

    pub fresh-log : begun.log.count ≡ 0
    unfolding fresh_server
    fresh-log = ap (λ (x : Server). x.log.count) begun-is

    pub fresh-counters : (k : ℕ) → k ≤ 15 → counter_at begun.counters k ≡ record { value = pos 0; full = 0 }
    unfolding fresh_server
    fresh-counters k h = ap (λ (x : Server). counter_at x.counters k) begun-is ∙ at_first_lem k h

    pub fresh-records : (t : ℕ) → t ≤ 63 → Nothing (record_at begun t)
    unfolding fresh_server
    fresh-records t h =
        rw (begun-is, get_or-replicate 64 t fresh_record no_record (omega arith))
        (record { pieces = refl; promise = refl; arrival = refl; accepted = refl; committed = refl; ran = refl })
