-- A server's step in the cluster: it refuses, and nothing changes; or it takes the message, and one record of it changes and one answer is sent, and then, if that was a Commit or Done, runs happen until nothing is left.
-- Assumes nothing.
use mathlib.Core.Path.{◌≡◌, refl, sym, ◌∙◌, ap, subst}
use mathlib.Core.Logic.{◌≢◌}
use mathlib.Core.Bool.{Bool, true, false, cond}
use mathlib.Core.List.{List, ◌∷◌, Memᴰ}
use Prim.Native.Nat.{ℕ, ◌<◌}
use native.Mathlib.Decide.{ℕ_discrete}
use borrow.Author.Tests.{eqb-true}
use lib.Dec.{eqb}
use lib.ListN.{length}
use lib.Seq.{get_or-set_same, get_or-set_other}
use Rattle.wire.specs.declared.Message.{Message}
use Rattle.wire.specs.Codes.{Inquire, Fetch, commits}
use Rattle.wire.specs.Messages.{commit_ok}
use Rattle.wire.proofs.Columns.{commit-codes}
use Rattle.server.specs.declared.Record.{Record}
use Rattle.server.specs.declared.Changed.{Changed}
use Rattle.server.specs.declared.Server.{Server}
use Rattle.server.specs.declared.Served.{Served}
use Rattle.server.specs.declared.Ran.{Ran}
use Rattle.server.specs.Held.{no_record, record_at, put_record}
use Rattle.server.specs.Refusals.{refusal}
use Rattle.server.specs.Changes.{becomes, committed, change}
use Rattle.server.specs.Run.{ran_none, run, run_all}
use Rattle.server.specs.Serve.{arrival_for, refused, served, taken, then_runs, stepped, serve}
use Rattle.server.proofs.Passed.{Passed, passed}
use Rattle.server.proofs.Did.{Did, counts-did, change-did}
use Rattle.server.proofs.DoesIs.{at-commit}
use Rattle.server.proofs.RunLeaves.{Leaves, leaves-refl, run-leaves, run_all-leaves}
use Rattle.safety.specs.Orders.{entries, firsts}
use Rattle.safety.specs.Cluster.{Cluster, put, answered, ran, Reaches, sent, inquires, fetches}
use Rattle.safety.proofs.View.{record_of, put_same, put_other, put-put}
use Rattle.safety.proofs.Lists.{firsts_new}

-- ---- what a server has in its log when it has taken a message, or has run, stands in the order of first runs

pub answered_enters : (c : Cluster) (i : ℕ) (r : Served) (t : ℕ) → Memᴰ t (entries r.server.log) → Memᴰ t (answered c i r).order
unfolding answered
answered_enters c i r t m = firsts_new c.order (entries r.server.log) t m

pub ran_enters : (c : Cluster) (i : ℕ) (r : Ran) (t : ℕ) → Memᴰ t (entries r.server.log) → Memᴰ t (ran c i r).order
unfolding ran
ran_enters c i r t m = firsts_new c.order (entries r.server.log) t m

-- ---- what it does

-- the server i is z
abbrev pub with_server : Cluster → ℕ → Server → List Message → Cluster
with_server c i z l = record { servers = put c.servers i z; stations = c.stations; taken = c.taken; sent = l; order = c.order }

-- the server i did o at the number t
abbrev pub after : Cluster → ℕ → ℕ → Changed → Cluster
after c i t o = with_server c i (put_record (c.servers i) t o.after) (o.reply ∷ c.sent)

-- a run, runs until nothing is left, or none
pub data Runs (s : Server) : Ran → Type 0 where
  once : Runs s (run s)
  out : Runs s (run_all s)
  idle : (n : ℕ) → Runs s (ran_none s n)

pub runs_leave : {s : Server} {r : Ran} → Runs s r → Leaves s r.server
runs_leave {s} once = run-leaves s
runs_leave {s} out = run_all-leaves s
runs_leave {s} (idle n) = leaves-refl s

-- what runs after a message: all that is ready after a Commit or Done, and nothing after any other
pub data RunsAfter (m : Message) (s : Server) : Ran → Type 0 where
  still : commits m.code ≡ false → RunsAfter m s (ran_none s 0)
  all : commits m.code ≡ true → RunsAfter m s (run_all s)

pub after-runs : {m : Message} {s : Server} {r : Ran} → RunsAfter m s r → Runs s r
after-runs (still e) = idle 0
after-runs (all e) = out

pub data Outcome (c : Cluster) (i : ℕ) (m : Message) : Cluster → Type 0 where
  refuses : Outcome c i m (ran c i (ran_none (c.servers i) 0))
  takes : (o : Changed) (r : Ran) → Passed (c.servers i) m → Did (c.servers i).id (arrival_for (c.servers i) m) (record_of c i m.t) m o →
      RunsAfter m ((after c i m.t o).servers i) r → Outcome c i m (ran (after c i m.t o) i r)

-- the server that ran after it, in the cluster before it
abbrev ran_after : Cluster → ℕ → Server → Message → Cluster
ran_after c i z x = record { servers = put c.servers i z; stations = c.stations; taken = c.taken; sent = x ∷ c.sent; order = firsts c.order (entries z.log) }

in_one : (c : Cluster) (i t : ℕ) (o : Changed) (R : Server → Ran) → ran (after c i t o) i (R ((after c i t o).servers i)) ≡ ran_after c i (R (put_record (c.servers i) t o.after)).server o.reply
unfolding ran
in_one c i t o R =
    ap (λ (z : Server). ran (after c i t o) i (R z)) (put_same c.servers i (put_record (c.servers i) t o.after))
    ∙ ap (λ (f : ℕ → Server). record { servers = f; stations = c.stations; taken = c.taken; sent = o.reply ∷ c.sent; order = firsts c.order (entries (R (put_record (c.servers i) t o.after)).server.log) })
    (put-put c.servers i (put_record (c.servers i) t o.after) (R (put_record (c.servers i) t o.after)).server)

pub outcome : (c : Cluster) (i : ℕ) (m : Message) → Outcome c i m (answered c i (serve (c.servers i) m))
unfolding answered ran serve stepped taken then_runs committed
outcome c i m = go (eqb (refusal (c.servers i) m) 0) refl (commits m.code) refl
  where
    s : Server
    s = c.servers i

    does : Changed
    does = change s.id (arrival_for s m) (record_at s m.t) m

    -- it did x, ran until nothing was left, and told how many that were
    told : Changed → Served
    told x = then_runs (served s m.t x)

    commits-to : commits m.code ≡ true → does ≡ committed s.id (record_at s m.t) m
    commits-to q = at-commit s.id (arrival_for s m) (record_at s m.t) m (sym (commit-codes m.code) ∙ q)

    counted : Changed
    counted = becomes (committed s.id (record_at s m.t) m).after (commit_ok m.t s.id (run_all (put_record s m.t (committed s.id (record_at s m.t) m).after)).many)

    go : (b : Bool) → eqb (refusal s m) 0 ≡ b → (k : Bool) → commits m.code ≡ k → Outcome c i m (answered c i (cond b (cond k (told does) (served s m.t does)) (refused s (refusal s m))))
    go true e true q =
        subst (λ x. Outcome c i m (answered c i (told x))) (sym (commits-to q))
        (subst (Outcome c i m) (in_one c i m.t counted run_all)
        (takes counted (run_all ((after c i m.t counted).servers i)) (passed s m (eqb-true (refusal s m) 0 e)) (counts-did s.id (arrival_for s m) (record_at s m.t) m _ q) (all q)))
    go true e false q =
        subst (Outcome c i m) (in_one c i m.t does (λ z. ran_none z 0))
        (takes does (ran_none ((after c i m.t does).servers i) 0) (passed s m (eqb-true (refusal s m) 0 e)) (change-did s.id (arrival_for s m) (record_at s m.t) m) (still q))
    go false e k q =
        subst (λ (b : Bool). Outcome c i m (record { servers = put c.servers i s; stations = c.stations; taken = c.taken; sent = cond b ((refused s (refusal s m)).reply ∷ c.sent) c.sent; order = firsts c.order (entries s.log) })) (sym e) refuses

-- a message that a drive or a server made was sent
pub was_sent_lem : {c : Cluster} {m : Message} → Reaches c m → m.code ≢ Inquire → m.code ≢ Fetch → Memᴰ m c.sent
was_sent_lem (sent k) n n' = k
was_sent_lem (inquires t e) n n' = absurd (n (ap (λ (m : Message). m.code) e))
was_sent_lem (fetches t e) n n' = absurd (n' (ap (λ (m : Message). m.code) e))

-- where the records are after it
pub data Place (c : Cluster) (i t : ℕ) (o : Changed) (s u : ℕ) : Type 0 where
  here : s ≡ i → u ≡ t → record_of (after c i t o) s u ≡ o.after → Place c i t o s u
  elsewhere : record_of (after c i t o) s u ≡ record_of c s u → Place c i t o s u

module _ (c : Cluster) (i t : ℕ) (o : Changed) (l : t < length (c.servers i).records) where
  pub record-here : record_of (after c i t o) i t ≡ o.after
  record-here = ap (λ (s : Server). record_at s t) (put_same c.servers i _) ∙ get_or-set_same (c.servers i).records t o.after no_record l

  record-number : (u : ℕ) → u ≢ t → record_of (after c i t o) i u ≡ record_of c i u
  record-number u n = ap (λ (s : Server). record_at s u) (put_same c.servers i _) ∙ get_or-set_other (c.servers i).records t u o.after no_record n

  record-server : (s u : ℕ) → s ≢ i → record_of (after c i t o) s u ≡ record_of c s u
  record-server s u n = ap (λ (s : Server). record_at s u) (put_other c.servers i _ s n)

  pub place : (s u : ℕ) → Place c i t o s u
  place s u = go (ℕ_discrete s i) (ℕ_discrete u t)
    where
      go : Dec (s ≡ i) → Dec (u ≡ t) → Place c i t o s u
      go (no n) q = elsewhere (record-server s u n)
      go (yes e) (no n) = elsewhere (subst (λ s. record_of (after c i t o) s u ≡ record_of c s u) (sym e) (record-number u n))
      go (yes e) (yes e') = here e e' (subst (λ s. record_of (after c i t o) s u ≡ o.after) (sym e) (subst (λ u. record_of (after c i t o) i u ≡ o.after) (sym e') record-here))

  -- a law of all records, after one was put
  pub all-records : (P : ℕ → ℕ → Record → Type 0) → P i t o.after → ((s u : ℕ) → P s u (record_of c s u)) → (s u : ℕ) → P s u (record_of (after c i t o) s u)
  all-records P h f s u = go (place s u)
    where
      go : Place c i t o s u → P s u (record_of (after c i t o) s u)
      go (elsewhere e) = subst (P s u) (sym e) (f s u)
      go (here e e' k) = subst (P s u) (sym k) (subst (λ s. P s u o.after) (sym e) (subst (λ u. P i u o.after) (sym e') h))
