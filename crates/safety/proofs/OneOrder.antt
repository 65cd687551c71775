-- One order of all numbers, that of first runs anywhere, in which every server ran its pairs in conflict. Assumes nothing.
use mathlib.Core.Path.{◌≡◌, refl, sym, ◌∙◌, ap, subst}
use mathlib.Core.Logic.{◌⊎◌, inl, inr}
use mathlib.Core.Bool.{true}
use mathlib.Core.List.Memᴰ
use mathlib.Core.List.{List, [], ◌++◌, append-nil, append_assoc, Memᴰ}
use Prim.Native.Nat.{ℕ, ◌<◌}
use native.Mathlib.Omega.{arith}
use Rattle.masks.specs.Bits.{In}
use Rattle.rules.specs.declared.Pieces.{Pieces}
use Rattle.rules.specs.Pieces.{pieces_kept}
use Rattle.rules.specs.Sets.{word}
use Rattle.rules.specs.Conflict.{conflict}
use Rattle.rules.proofs.SetLaws.{in-members-of}
use Rattle.graph.specs.Before.{Before, direct}
use Rattle.server.specs.declared.Server.{Server}
use Rattle.server.specs.Held.{committed_at}
use Rattle.server.specs.Host.{fresh_server}
use Rattle.server.specs.Run.{deps_of}
use Rattle.safety.specs.Orders.{entries, Earlier, firsts}
use Rattle.safety.specs.Cluster.{World, Cluster, first_server, at_first, ran, Reached}
use Rattle.safety.specs.Statements.{Committed, log_of, OneOrder, OrderGrows}
use Rattle.drive.proofs.QuorumOfTwo.{shard_below}
use Rattle.safety.proofs.View.{record_of, put_same, put_all}
use Rattle.safety.proofs.Kept.{Kept}
use Rattle.safety.proofs.Histories.{reached-kept}
use Rattle.safety.proofs.Changes.{Change, serves, has_run, sent, quiet, through, always}
use Rattle.safety.proofs.Coverage.{coverage}
use Rattle.safety.proofs.Conflicts.{conflict-touches}
use Rattle.safety.proofs.Lists.{earlier_fst, earlier_snd, earlier_nil, firsts-grows, firsts_old, firsts_new, firsts_from, completed-earlier, completed_all, completed-once, completed-only}
use Rattle.safety.proofs.LogsInOrder.{InOrder, more-order, firsts-order, same_order}
use Rattle.safety.proofs.RunsInOrder.{Holds}
use Rattle.safety.proofs.InForm.{AllFormal, formal_kept, first-formal}
use Rattle.safety.proofs.LogOrders.{LogOrders, logs_kept, first-logs, reached-logs}
use Rattle.safety.proofs.CommitsSent.{SentCommit, CommitsSent, commits_kept, first_commits, commits-sent, all_deps, committed_small, deps-held, server-more, step_more}
use Rattle.safety.proofs.Coverage.{reached-named}

-- ---- the order of first runs

pub record History (c : Cluster) : Type 0 where
  pub order : InOrder (all_deps c) (SentCommit c) c.order
  pub logs : (s t : ℕ) → Memᴰ t (log_of c s) → Memᴰ t c.order
  pub small : (t : ℕ) → Memᴰ t c.order → t < 64

history_kept : (w : World) {c c' : Cluster} → Kept w c → Kept w c' → LogOrders c' → CommitsSent c' → Change w c c' → History c → History c'
unfolding ran
history_kept w {c} {c'} k k' lo cs (serves i m o rs p did) h = record {
  order = more-order (step_more w c c' k k' (serves i m o rs p did)) h.order;
  logs = λ s t. put_all (λ s z. Memᴰ t (entries z.log) → Memᴰ t c.order) c.servers i _ (h.logs i t) (λ s. h.logs s t) s;
  small = h.small;
}
history_kept w {c} {c'} k k' lo cs (has_run i q rn) h = record {
  order = firsts-order c.order (entries q.server.log) (more-order (step_more w c c' k k' (has_run i q rn)) h.order)
      (subst (λ (z : Server). InOrder (all_deps c') (SentCommit c') (entries z.log)) (put_same c.servers i q.server) (more-order (server-more w c' k' cs i) (lo i)));
  logs = λ s t. put_all (λ s z. Memᴰ t (entries z.log) → Memᴰ t (firsts c.order (entries q.server.log))) c.servers i q.server
      (firsts_new c.order (entries q.server.log) t) (λ s k. firsts_old c.order (entries q.server.log) t (h.logs s t k)) s;
  small = λ t m. below t (firsts_from c.order (entries q.server.log) t m);
}
  where
    below : (t : ℕ) → Memᴰ t c.order ⊎ Memᴰ t (entries q.server.log) → t < 64
    below t (inl q) = h.small t q
    below t (inr m) = committed_small w c' k' i t ((lo i).committed t (subst (λ (z : Server). Memᴰ t (entries z.log)) (sym (put_same c.servers i q.server)) m))
history_kept w {c} {c'} k k' lo cs (sent j d m at du) h = record { order = more-order (step_more w c c' k k' (sent j d m at du)) h.order; logs = h.logs; small = h.small }
history_kept w {c} {c'} k k' lo cs (quiet q) h = record {
  order = subst (InOrder (all_deps c') (SentCommit c')) (sym q.order) (more-order (step_more w c c' k k' (quiet q)) h.order);
  logs = λ s t k. subst (Memᴰ t) (sym q.order) (h.logs s t (subst (λ (z : Server). Memᴰ t (entries z.log)) (q.servers s) k));
  small = λ t k. h.small t (subst (Memᴰ t) q.order k);
}

first_history : (w : World) → History (at_first w)
unfolding at_first first_server fresh_server entries
first_history w = record {
  order = record { committed = λ t m. absurd (Memᴰ.not-nil m); before = λ t u m. absurd (Memᴰ.not-nil m); order = λ t u m. absurd (earlier_nil m); once = λ t m. earlier_nil m };
  logs = λ s t k. absurd (Memᴰ.not-nil k);
  small = λ t k. absurd (Memᴰ.not-nil k);
}

-- with all that it needs of the cluster before
record Known (c : Cluster) : Type 0 where
  formal : AllFormal c
  logs : LogOrders c
  commits : CommitsSent c
  history : History c

known_kept : (w : World) {c c' : Cluster} → Kept w c → Kept w c' → Change w c c' → Known c → Known c'
known_kept w k k' ch h =
    let logs = logs_kept w k h.formal ch h.logs in
    let commits = commits_kept w k ch h.commits in
    record { formal = formal_kept w k ch h.formal; logs = logs; commits = commits; history = history_kept w k k' logs commits ch h.history }

pub reached_history : (w : World) {c : Cluster} → Reached w c → History c
reached_history w r = (always w Known (λ c c'. known_kept w) (record { formal = first-formal w; logs = first-logs w; commits = first_commits w; history = first_history w }) r).history

-- ---- the theorem

pub one_order : (w : World) (c : Cluster) → Reached w c → OneOrder w c
one_order w c r = record {
  all = λ t l. completed_all c.order 64 t (omega arith);
  only = λ t m. let l = completed-only c.order 64 h.small t m in omega arith;
  once = completed-once c.order 64 h.order.once;
  ran = h.logs;
  runs = λ s t u k m cf. completed-earlier c.order 64 t u (runs s t u k m cf);
}
  where
    h : History c
    h = reached_history w r

    runs : (s t u k : ℕ) → Earlier t u (log_of c s) → conflict k (w.pieces t) (w.pieces u) ≡ true → Earlier t u c.order
    runs s t u k m cf = same_order log h.order t u m (h.logs s t (earlier_fst m)) (h.logs s u (earlier_snd m)) (tied (coverage w c r s s t u k _ _ ct cu (λ e. log.once t (subst (λ x. Earlier t x (log_of c s)) (sym e) m)) cf))
      where
        own : InOrder (deps_of (c.servers s)) (Holds (c.servers s)) (log_of c s)
        own = reached-logs w r s

        log : InOrder (all_deps c) (SentCommit c) (log_of c s)
        log = more-order (server-more w c (reached-kept w r) (commits-sent w r) s) own

        ct : Committed c s t (record_of c s t).committed.set
        ct = record { holds = own.committed t (earlier_fst m); is = refl }

        cu : Committed c s u (record_of c s u).committed.set
        cu = record { holds = own.committed u (earlier_snd m); is = refl }

        small : k < 4
        small = let n = (reached-named w r).records s t in shard_below (w.pieces t) k (conflict-touches k (w.pieces t) (w.pieces u) (subst (λ (p : Pieces). pieces_kept p ≡ true) (n.committed ct.holds) (n.kept ct.holds)) cf)

        dep : (t u : ℕ) → committed_at (c.servers s) t ≡ true → In (word (record_of c s t).committed.set k) u → Before (all_deps c) u t
        dep t u e i = direct (subst (λ w. In w u) (sym (deps-held w c (reached-kept w r) (commits-sent w r) s t e)) (in-members-of (record_of c s t).committed.set u k small i))

        tied : In (word (record_of c s t).committed.set k) u ⊎ In (word (record_of c s u).committed.set k) t → Before (all_deps c) t u ⊎ Before (all_deps c) u t
        tied (inl i) = inr (dep t u ct.holds i)
        tied (inr i) = inl (dep u t cu.holds i)

-- the order after one of the things that a step does
grows : (w : World) {c c' : Cluster} → Change w c c' → (l : List ℕ) × (c'.order ≡ c.order ++ l)
unfolding ran
grows w {c} (serves i m o rs p did) = ([], sym (append-nil c.order))
grows w {c} (has_run i q rn) = firsts-grows c.order (entries q.server.log)
grows w {c} (sent j d m at du) = ([], sym (append-nil c.order))
grows w {c} (quiet q) = ([], q.order ∙ sym (append-nil c.order))

pub order-grows : (w : World) → OrderGrows w
order-grows w c c' r s = through w (λ z. (l : List ℕ) × (z.order ≡ c.order ++ l)) (λ z z'. more) s (reached-kept w r) ([], sym (append-nil c.order))
  where
    more : {z z' : Cluster} → Kept w z → Kept w z' → Change w z z' → (l : List ℕ) × (z.order ≡ c.order ++ l) → (l : List ℕ) × (z'.order ≡ c.order ++ l)
    more k k' ch (l, e) = let g = grows w ch in (l ++ g.0, g.1 ∙ ap (λ (o : List ℕ). o ++ g.0) e ∙ append_assoc c.order l g.0)
