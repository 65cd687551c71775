-- In every history each server's log is in the order of the server's dependencies. Assumes nothing.
use mathlib.Core.Path.{◌≡◌, refl, sym, ◌∙◌, ap, subst}
use mathlib.Core.Bool.{true, cond}
use mathlib.Core.List.Memᴰ
use Prim.Native.Nat.{ℕ, ◌≤◌, ◌<◌}
use native.Mathlib.Omega.{arith}
use native.Mathlib.Decide.{dec_lt}
use lib.ListN.{get_or, set, get_or-eq_default}
use Rattle.masks.specs.Folds.{tab}
use Rattle.masks.proofs.FoldLaws.{length-tab}
use Rattle.rules.specs.declared.MaybeSet.{MaybeSet}
use Rattle.rules.specs.Flags.{there}
use Rattle.rules.specs.Sets.{members}
use Rattle.server.specs.declared.Record.{Record}
use Rattle.server.specs.declared.Server.{Server}
use Rattle.server.specs.declared.Ran.{Ran}
use Rattle.server.specs.Held.{no_record, record_at, committed_at}
use Rattle.server.specs.Host.{fresh_server}
use Rattle.server.specs.Run.{deps_at, deps_of}
use Rattle.server.proofs.RunLeaves.{set-either}
use Rattle.server.proofs.ServeKeepsForm.{did_committed}
use Rattle.server.proofs.RunKeepsForm.{deps_at_lem}
use Rattle.safety.specs.Orders.{entries}
use Rattle.safety.specs.Cluster.{World, Cluster, first_server, at_first, ran, Reached}
use Rattle.safety.proofs.View.{put_all}
use Rattle.safety.proofs.Serving.{Runs, once, out, idle}
use Rattle.safety.proofs.Kept.{Kept}
use Rattle.safety.proofs.Changes.{Change, serves, has_run, sent, quiet, always}
use Rattle.safety.proofs.InForm.{AllFormal, sound_of, formal_kept, first-formal}
use Rattle.safety.proofs.Lists.{earlier_nil}
use Rattle.safety.proofs.LogsInOrder.{InOrder, more-order}
use Rattle.safety.proofs.RunsInOrder.{Holds, Orderly, run_orderly, run_all_orderly}

-- what t depends on at a server is in its committed set alone
pub deps_same : (z z' : Server) (t : ℕ) → (record_at z' t).committed ≡ (record_at z t).committed → get_or (deps_of z') t 0 ≡ get_or (deps_of z) t 0
unfolding deps_of deps_at
deps_same z z' t e = go (dec_lt t 64)
  where
    go : Dec (t < 64) → get_or (tab (deps_at z') 64) t 0 ≡ get_or (tab (deps_at z) 64) t 0
    go (yes l) = deps_at_lem z' t l ∙ ap (λ (v : MaybeSet). cond (there v.some) (members v.set) 0) e ∙ sym (deps_at_lem z t l)
    go (no l) = past z' ∙ sym (past z)
      where
        past : (z : Server) → get_or (tab (deps_at z) 64) t 0 ≡ 0
        past z = get_or-eq_default (tab (deps_at z) 64) 0 (subst (λ n. n ≤ t) (sym (length-tab (deps_at z) 64)) (omega arith))

still-committed : {v v' : MaybeSet} → v' ≡ v → there v.some ≡ true → there v'.some ≡ true
still-committed e h = ap (λ (v : MaybeSet). there v.some) e ∙ h

abbrev pub LogOrder : Server → Type 0
LogOrder z = InOrder (deps_of z) (Holds z) (entries z.log)

abbrev pub LogOrders : Cluster → Type 0
LogOrders c = (s : ℕ) → LogOrder (c.servers s)

runs-order : {s : Server} {r : Ran} → Runs s r → Orderly s → LogOrder r.server
runs-order {s} once h = (run_orderly s h).order
runs-order (idle n) h = h.order
runs-order {s} out h = (run_all_orderly s h).order

pub logs_kept : (w : World) {c c' : Cluster} → Kept w c → AllFormal c → Change w c c' → LogOrders c → LogOrders c'
unfolding ran
logs_kept w {c} k f (serves i m o rs p did) lo =
    put_all (λ s z. LogOrder z) c.servers i _
    (more-order (record { still = λ t e. still-committed (stay t e) e; same = λ t e. deps_same (c.servers i) _ t (stay t e) }) (lo i)) lo
  where
    stay : (t : ℕ) → committed_at (c.servers i) t ≡ true → (get_or (set (c.servers i).records m.t o.after) t no_record).committed ≡ (record_at (c.servers i) t).committed
    stay t e = set-either (λ v. v.committed ≡ (record_at (c.servers i) t).committed) (c.servers i).records m.t t o.after no_record refl
        (λ z. ap (λ (v : Record). v.committed) (did_committed did (subst (λ x. committed_at (c.servers i) x ≡ true) z e)) ∙ ap (λ x. (record_at (c.servers i) x).committed) (sym z))
logs_kept w {c} k f (has_run i r rn) lo = put_all (λ s z. LogOrder z) c.servers i r.server (runs-order rn (record { sound = sound_of w c k i (f i); order = lo i })) lo
logs_kept w k f (sent j d m at du) lo = lo
logs_kept w k f (quiet q) lo = λ s. subst LogOrder (sym (q.servers s)) (lo s)

module _ (w : World) where
  pub first-logs : LogOrders (at_first w)
  unfolding at_first first_server fresh_server entries
  first-logs s = record { committed = λ t m. absurd (Memᴰ.not-nil m); before = λ t u m. absurd (Memᴰ.not-nil m); order = λ t u m. absurd (earlier_nil m); once = λ t m. earlier_nil m }

  pub reached-logs : {c : Cluster} → Reached w c → LogOrders c
  reached-logs r = (always w (λ c. AllFormal c × LogOrders c) (λ c c' k k' ch h. (formal_kept w k ch h.0, logs_kept w k h.0 ch h.1)) (first-formal w, first-logs) r).1
