-- What a step does to servers, messages and the order of first runs: one of four things, or, where a server takes a message, two of them in a row: it changes a record and answers, and then runs. What each of these keeps, every step keeps, and so it holds of every cluster that is reached. Assumes nothing.
use mathlib.Core.Path.{◌≡◌, refl, ap}
use mathlib.Core.Bool.{Bool, true, false, cond}
use mathlib.Core.Option.{some}
use mathlib.Core.List.{◌∷◌}
use Prim.Native.Nat.{ℕ}
use lib.Dec.{eqb}
use Rattle.wire.specs.declared.Message.{Message}
use Rattle.wire.specs.Messages.{blank}
use Rattle.server.specs.declared.Changed.{Changed}
use Rattle.server.specs.declared.Server.{Server}
use Rattle.server.specs.declared.Ran.{Ran}
use Rattle.server.specs.Run.{ran_none, run, run_all}
use Rattle.server.specs.Serve.{arrival_for}
use Rattle.server.proofs.Passed.{Passed}
use Rattle.server.proofs.Did.{Did}
use Rattle.drive.specs.declared.Drive.{Drive}
use Rattle.drive.specs.declared.Moved.{Moved}
use Rattle.drive.specs.Held.{touched}
use Rattle.drive.specs.Form.{formed}
use Rattle.drive.specs.Due.{due_message, servers_of, due}
use Rattle.drive.specs.Host.{start, recover, again}
use Rattle.drive.proofs.FormParts.{formed_parts, phase_below}
use Rattle.safety.specs.Cluster.{World, Cluster, put, ballot_of, ran, asked, moved, began, vanished, Reaches, MayTake, Next, takes, runs, runs_out, sends, hears, moves_on, starts, recovers, tries_again, vanishes, at_first, Reached, fresh, then}
use Rattle.safety.proofs.View.{record_of}
use Rattle.safety.proofs.Serving.{after, Runs, once, out, idle, after-runs, Outcome, refuses, takes as took, outcome}
use Rattle.safety.proofs.Kept.{Kept}
use Rattle.safety.proofs.ServersKeep.{takes-kept}
use Rattle.safety.proofs.Histories.{next-kept, reached-kept}
use Rattle.safety.proofs.SendsKeep.{Due, due_is}

pub record Quiet (c c' : Cluster) : Type 0 where
  pub servers : (s : ℕ) → c'.servers s ≡ c.servers s
  pub sent : c'.sent ≡ c.sent
  pub order : c'.order ≡ c.order

abbrev pub with_message : Cluster → Message → Cluster
with_message c m = record { servers = c.servers; stations = c.stations; taken = c.taken; sent = m ∷ c.sent; order = c.order }

pub data Change (w : World) (c : Cluster) : Cluster → Type 0 where
  serves : (i : ℕ) (m : Message) (o : Changed) → Reaches c m → Passed (c.servers i) m →
      Did (c.servers i).id (arrival_for (c.servers i) m) (record_of c i m.t) m o → Change w c (after c i m.t o)
  has_run : (i : ℕ) (r : Ran) → Runs (c.servers i) r → Change w c (ran c i r)
  sent : (j : ℕ) (d : Drive) (m : Message) → c.stations j ≡ some d → Due d m → Change w c (with_message c m)
  quiet : {c' : Cluster} → Quiet c c' → Change w c c'

quiet_refl : (c c' : Cluster) → c'.servers ≡ c.servers → c'.sent ≡ c.sent → c'.order ≡ c.order → Quiet c c'
quiet_refl c c' e1 e2 e3 = record { servers = λ s. ap (λ (f : ℕ → Server). f s) e1; sent = e2; order = e3 }

pub began_quiet : (c : Cluster) (j : ℕ) (r : Moved) → Quiet c (began c j r)
unfolding began
began_quiet c j r = go (eqb r.refusal 0)
  where
    go : (b : Bool) → Quiet c (cond b (record { servers = c.servers; stations = put c.stations j (some r.drive); taken = ballot_of r.drive ∷ c.taken; sent = c.sent; order = c.order }) c)
    go true = record { servers = λ s. refl; sent = refl; order = refl }
    go false = record { servers = λ s. refl; sent = refl; order = refl }

-- a step is one of them, or a message taken and then what it runs
pub data Steps (w : World) (c : Cluster) : Cluster → Type 0 where
  one : {c' : Cluster} → Change w c c' → Steps w c c'
  two : (i : ℕ) (m : Message) (o : Changed) (r : Ran) → MayTake i m → Reaches c m → Passed (c.servers i) m →
      Did (c.servers i).id (arrival_for (c.servers i) m) (record_of c i m.t) m o → Runs ((after c i m.t o).servers i) r → Steps w c (ran (after c i m.t o) i r)

pub steps_of : (w : World) {c c' : Cluster} → Next w c c' → Steps w c c'
unfolding moved vanished asked due
steps_of w {c} (takes i m may r) = go (outcome c i m)
  where
    go : {c' : Cluster} → Outcome c i m c' → Steps w c c'
    go refuses = one (has_run i (ran_none (c.servers i) 0) (idle 0))
    go (took o q p d rn) = two i m o q may r p d (after-runs rn)
steps_of w {c} (runs i) = one (has_run i (run (c.servers i)) once)
steps_of w {c} (runs_out i) = one (has_run i (run_all (c.servers i)) out)
steps_of w {c} (sends j d at) = one (go (formed d) refl)
  where
    go : (b : Bool) → formed d ≡ b → Change w c (asked c (cond b (record { refusal = 0; message = due_message d; servers = servers_of (touched d) }) (record { refusal = 13; message = blank; servers = 0 })))
    go true e = sent j d (due_message d) at (due_is d (phase_below d (formed_parts d e)))
    go false e = quiet (record { servers = λ s. refl; sent = refl; order = refl })
steps_of w {c} (hears j d m at h) = one (quiet (record { servers = λ s. refl; sent = refl; order = refl }))
steps_of w {c} (moves_on j d at) = one (quiet (record { servers = λ s. refl; sent = refl; order = refl }))
steps_of w {c} (starts j lent q t u) = one (quiet (began_quiet c j (start lent q t (w.pieces t))))
steps_of w {c} (recovers j lent q t floor u) = one (quiet (began_quiet c j (recover lent q t (w.pieces t) floor)))
steps_of w {c} (tries_again j d at u) = one (quiet (began_quiet c j (again d)))
steps_of w {c} (vanishes j) = one (quiet (record { servers = λ s. refl; sent = refl; order = refl }))

-- ---- what these keep

module _ (w : World) (P : Cluster → Type 0) (keep : (c c' : Cluster) → Kept w c → Kept w c' → Change w c c' → P c → P c') where
  pub through : {c c' : Cluster} → Next w c c' → Kept w c → P c → P c'
  through {c} {c'} n k p = go c' (steps_of w n) (next-kept w n k)
    where
      go : (c' : Cluster) → Steps w c c' → Kept w c' → P c'
      go c' (one ch) k' = keep c c' k k' ch p
      go c' (two i m o r may rs q did rn) k' =
          let z = after c i m.t o in
          let kz = takes-kept w c i m may rs k o q did in
          keep z c' kz k' (has_run i r rn) (keep c z k kz (serves i m o rs q did) p)

  pub always : {c : Cluster} → P (at_first w) → Reached w c → P c
  always h fresh = h
  always h (then r s) = through s (reached-kept w r) (always h r)
