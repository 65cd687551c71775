-- At no server is anything left to run: nothing runs next there. A Commit ends with runs until nothing is left, and nothing else commits. Assumes nothing.
use mathlib.Core.Path.{◌≡◌, refl, sym, ◌∙◌, ap, subst}
use mathlib.Core.Bool.{true, false, cond, true≢false}
use Prim.Native.Nat.{ℕ, ◌-◌}
use native.Mathlib.Omega.{arith}
use lib.Dec.{ltb}
use Rattle.masks.specs.Bits.{In}
use Rattle.masks.proofs.Bools.{and_yes_r, true_and_false, cond_true}
use Rattle.masks.proofs.Laws.{in_has, empty_word}
use Rattle.masks.proofs.FoldLaws.{has_mask, mask_cong, tab_cong}
use Rattle.masks.proofs.Counts.{size_none}
use Rattle.rules.specs.declared.MaybeSet.{MaybeSet}
use Rattle.rules.specs.Flags.{there}
use Rattle.rules.specs.Sets.{members}
use Rattle.wire.specs.declared.Message.{Message}
use Rattle.wire.specs.Codes.{commits}
use Rattle.graph.specs.Walk.{rows_of, next_group}
use Rattle.graph.proofs.Rows.{Words}
use Rattle.graph.proofs.NextGroups.{next-runs, next-lt}
use Rattle.server.specs.declared.Changed.{Changed}
use Rattle.server.specs.declared.Record.{Record}
use Rattle.server.specs.declared.Server.{Server}
use Rattle.server.specs.declared.Ran.{Ran}
use Rattle.server.specs.Held.{no_record, record_at, put_record, committed_at, ran_at, committed_word, ran_word}
use Rattle.server.specs.Form.{formed}
use Rattle.server.specs.Run.{deps_at, deps_of, next_run, ran_none, turn, run, turns, ran_from, run_all}
use Rattle.server.proofs.Did.{Did, tells, is_done, pre_accepts_first, pre_accepts_again, accepts, prepares, commits_first}
use Rattle.server.proofs.FormParts.{parts_formed}
use Rattle.server.proofs.RunLeaves.{set-either}
use Rattle.server.proofs.RunTurns.{turns-stop, group-nothing, quiet}
use Rattle.server.proofs.ServeKeepsForm.{did_ran}
use Rattle.server.proofs.RunKeepsForm.{in_committed}
use Rattle.server.proofs.CommitRuns.{run_all-rests}
use Rattle.drive.specs.Host.{start, recover, again}
use Rattle.safety.specs.Cluster.{World, Cluster, at_first, ran, asked, moved, vanished, Next, takes, runs, runs_out, sends, hears, moves_on, starts, recovers, tries_again, vanishes, Reached, fresh, then}
use Rattle.safety.specs.Statements.{NothingLeft}
use Rattle.safety.proofs.View.{put_all, put-put}
use Rattle.safety.proofs.Serving.{after, still, all, Outcome, refuses, takes as took, outcome}
use Rattle.safety.proofs.Kept.{Kept}
use Rattle.safety.proofs.ServersKeep.{takes-kept}
use Rattle.safety.proofs.Histories.{at_first_lem, reached-kept}
use Rattle.safety.proofs.Changes.{Quiet, serves, began_quiet}
use Rattle.safety.proofs.InForm.{AllFormal, deps_fit, sound_of, formal_kept, reached-formal}

-- ---- where nothing runs next, a run gives 0 and leaves the server

module _ (s : Server) (f : formed s ≡ true) (e : next_run s ≡ 0) where
  run-rests : run s ≡ ran_none s 0
  unfolding run turn
  run-rests = cond_true (formed s) (turn s (next_run s)) (ran_none s 13) f ∙ ap (turn s) e ∙ (λ i. record { refusal = 0; many = size_none i; server = group-nothing s i })

  all-rests : run_all s ≡ ran_none s 0
  unfolding run_all
  all-rests =
      cond_true (formed s) (ran_from s (turns 64 s)) (ran_none s 13) f
      ∙ ap (ran_from s) (turns-stop 64 s e)
      ∙ ap (λ n. record { refusal = 0; many = n; server = s }) (let z : s.log.count - s.log.count ≡ 0 = omega arith in z)

-- ---- what runs next depends on what is committed and what has run, and on nothing else

module _ (z z' : Server) (ec : (t : ℕ) → (record_at z' t).committed ≡ (record_at z t).committed) (er : (t : ℕ) → (record_at z' t).ran ≡ (record_at z t).ran) where
  same-deps : deps_of z' ≡ deps_of z
  unfolding deps_of deps_at
  same-deps = tab_cong (deps_at z') (deps_at z) 64 (λ t l. ap (λ (v : MaybeSet). cond (there v.some) (members v.set) 0) (ec t))

  same_held : committed_word z' ≡ committed_word z
  unfolding committed_word
  same_held = mask_cong (committed_at z') (committed_at z) 64 (λ t l. ap (λ (v : MaybeSet). there v.some) (ec t))

  same-ran : ran_word z' ≡ ran_word z
  unfolding ran_word
  same-ran = mask_cong (ran_at z') (ran_at z) 64 (λ t l. ap there (er t))

  next-same : next_run z' ≡ next_run z
  unfolding next_run
  next-same = λ i. next_group (rows_of (same-deps i)) (same_held i) (same-ran i)

-- a message that is no Commit commits nothing
did_still : {id a : ℕ} {v : Record} {m : Message} {o : Changed} → Did id a v m o → commits m.code ≡ false → o.after.committed ≡ v.committed
did_still (tells r p) h = refl
did_still (is_done e) h = refl
did_still (pre_accepts_first k op n) h = refl
did_still (pre_accepts_again k op n) h = refl
did_still (accepts k op) h = refl
did_still (prepares k op) h = refl
did_still (commits_first j k n) h = absurd (true_and_false k h)

did_next : {id a : ℕ} (s : Server) (m : Message) (o : Changed) → Did id a (record_at s m.t) m o → commits m.code ≡ false → next_run (put_record s m.t o.after) ≡ next_run s
did_next s m o did h = next-same s (put_record s m.t o.after)
    (λ t. set-either (λ v. v.committed ≡ (record_at s t).committed) s.records m.t t o.after no_record refl (λ z. did_still did h ∙ ap (λ x. (record_at s x).committed) (sym z)))
    (λ t. set-either (λ v. v.ran ≡ (record_at s t).ran) s.records m.t t o.after no_record refl (λ z. did_ran did ∙ ap (λ x. (record_at s x).ran) (sym z)))

-- ---- kept by every step

abbrev Rests : Cluster → Type 0
Rests c = (s : ℕ) → next_run (c.servers s) ≡ 0

as_it_was : {c c' : Cluster} → Quiet c c' → Rests c → Rests c'
as_it_was q h s = ap next_run (q.servers s) ∙ h s

rests_kept : (w : World) {c c' : Cluster} → Kept w c → AllFormal c → Next w c c' → Rests c → Rests c'
unfolding ran asked moved vanished
rests_kept w {c} k f (takes i m may rs) h = go (outcome c i m)
  where
    go : {c' : Cluster} → Outcome c i m c' → Rests c'
    go refuses = put_all (λ s z. next_run z ≡ 0) c.servers i (c.servers i) (h i) h
    go (took o r p did (still e)) =
        let z = put_all (λ s z. next_run z ≡ 0) c.servers i (put_record (c.servers i) m.t o.after) (did_next (c.servers i) m o did e ∙ h i) h in
        put_all (λ s z. next_run z ≡ 0) (after c i m.t o).servers i ((after c i m.t o).servers i) (z i) z
    go (took o r p did (all e)) = λ s.
        let z = after c i m.t o in
        let kz = takes-kept w c i m may rs k o p did in
        let fz = formal_kept w k (serves i m o rs p did) f in
        subst (λ (g : ℕ → Server). next_run (g s) ≡ 0) (sym (put-put c.servers i (put_record (c.servers i) m.t o.after) (run_all (z.servers i)).server))
        (put_all (λ s x. next_run x ≡ 0) c.servers i (run_all (z.servers i)).server (run_all-rests (z.servers i) (sound_of w z kz i (fz i))) h s)
rests_kept w {c} k f (runs i) h = put_all (λ s z. next_run z ≡ 0) c.servers i (run (c.servers i)).server
    (ap (λ (r : Ran). next_run r.server) (run-rests (c.servers i) (parts_formed (c.servers i) (f i).form) (h i)) ∙ h i) h
rests_kept w {c} k f (runs_out i) h = put_all (λ s z. next_run z ≡ 0) c.servers i (run_all (c.servers i)).server
    (ap (λ (r : Ran). next_run r.server) (all-rests (c.servers i) (parts_formed (c.servers i) (f i).form) (h i)) ∙ h i) h
rests_kept w k f (sends j d at) h = h
rests_kept w k f (hears j d m at q) h = h
rests_kept w k f (moves_on j d at) h = h
rests_kept w {c} k f (starts j lent q t u) h = as_it_was (began_quiet c j (start lent q t (w.pieces t))) h
rests_kept w {c} k f (recovers j lent q t floor u) h = as_it_was (began_quiet c j (recover lent q t (w.pieces t) floor)) h
rests_kept w {c} k f (tries_again j d at u) h = as_it_was (began_quiet c j (again d)) h
rests_kept w k f (vanishes j) h = h

-- at first nothing is committed, and so nothing is ready
first_rests : (w : World) → Rests (at_first w)
unfolding next_run
first_rests w s =
    empty_word 64 (next_run z) (next-lt (deps_of z) fit (committed_word z) (ran_word z))
    (λ u i. uncommitted _ (in_committed z _ (next-runs (deps_of z) fit (committed_word z) (ran_word z) u i).ready.closed.self))
  where
    z : Server
    z = (at_first w).servers s

    fit : Words (deps_of z)
    fit = deps_fit w (at_first w) (reached-kept w fresh) s

    uncommitted : (t : ℕ) → committed_at z t ≡ true → ⊥
    uncommitted t = at_first_lem w (λ (v : Record). there v.committed.some ≡ true → ⊥) (λ e. true≢false (sym e)) (λ e. true≢false (sym e)) s t

reached_rests : (w : World) {c : Cluster} → Reached w c → Rests c
reached_rests w fresh = first_rests w
reached_rests w (then r s) = rests_kept w (reached-kept w r) (reached-formal w r) s (reached_rests w r)

-- ---- the theorem

has-run : (s : Server) (t : ℕ) → In (ran_word s) t → ran_at s t ≡ true
unfolding ran_word
has-run s t i = and_yes_r (ltb t 64) (ran_at s t) (sym (has_mask (ran_at s) 64 t) ∙ in_has i)

pub nothing_left : (w : World) (c : Cluster) → Reached w c → NothingLeft c
nothing_left w c r = record {
  closed = λ s t h. has-run (c.servers s) t (quiet (c.servers s) (record { records = k.sizes.records s; words = deps_fit w c k s }) (rests s) t h);
  runs = λ s. run-rests (c.servers s) (parts_formed (c.servers s) (formal s).form) (rests s);
  runs_out = λ s. all-rests (c.servers s) (parts_formed (c.servers s) (formal s).form) (rests s);
}
  where
    k : Kept w c
    k = reached-kept w r

    formal : AllFormal c
    formal = reached-formal w r

    rests : Rests c
    rests = reached_rests w r
