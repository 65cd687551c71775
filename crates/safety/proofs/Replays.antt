-- A server's counters and results are what its log gives, from the counters that its shard began with. Assumes nothing.
use mathlib.Core.Path.{◌≡◌, refl, sym, ◌∙◌, ap, subst}
use mathlib.Core.Logic.{◌⊎◌, inl, inr}
use mathlib.Core.Bool.{Bool, true, false, cond}
use mathlib.Core.List.Memᴰ
use mathlib.Core.List.{List, [], ◌∷◌, ◌++◌, Memᴰ}
use Prim.Native.Nat.{ℕ}
use native.Mathlib.Omega.{arith}
use lib.ListN.{length, get_or, set, length-set}
use lib.Seq.{get_or-set_same, get_or-set_other}
use Rattle.masks.proofs.Bools.{true_and_false}
use Rattle.rules.specs.declared.Pieces.{Pieces}
use Rattle.rules.specs.declared.MaybeSet.{MaybeSet}
use Rattle.rules.specs.Flags.{there}
use Rattle.rules.specs.Cluster.{shard_of}
use Rattle.counters.specs.declared.Counters.{Counters}
use Rattle.counters.specs.Effects.{execute}
use Rattle.server.specs.declared.Record.{Record}
use Rattle.server.specs.declared.Server.{Server}
use Rattle.server.specs.declared.Ran.{Ran}
use Rattle.server.specs.Held.{no_record, record_at, shard, committed_at}
use Rattle.server.specs.Form.{formed}
use Rattle.server.specs.Host.{fresh_server}
use Rattle.server.specs.Run.{with_results, run_one, next_run, run_group, turn, ran_none, run, turns, ran_from, run_all}
use Rattle.server.proofs.RunLeaves.{run_one-leaves, set-either}
use Rattle.server.proofs.RunTurns.{turns-keep}
use Rattle.server.proofs.RunsOneByOne.{May, ran_keeps, Logs, logs_more, list_more}
use Rattle.server.proofs.RunKeepsForm.{Sound, logs-formed, group_sound, way}
use Rattle.server.proofs.ServeKeepsForm.{did_committed}
use Rattle.safety.specs.Orders.{entries}
use Rattle.safety.specs.Cluster.{World, Cluster, home_of, first_server, at_first, ran, Reached}
use Rattle.safety.proofs.View.{put_all}
use Rattle.safety.proofs.Serving.{Runs, once, out, idle}
use Rattle.safety.proofs.Kept.{Kept}
use Rattle.safety.proofs.Changes.{Change, serves, has_run, sent, quiet, always}
use Rattle.safety.proofs.Coverage.{first-named}
use Rattle.safety.proofs.PiecesNamed.{Named, named_kept}
use Rattle.safety.proofs.InForm.{AllFormal, sound_of, formal_kept, first-formal}
use Rattle.safety.proofs.RunsInOrder.{entries-word}
use Rattle.safety.proofs.LogOrders.{LogOrders, logs_kept, first-logs}
use Rattle.safety.proofs.Sifting.{until, until_old, until_new}

-- the counters of shard k after the transactions of a list
unfoldable pub replay : World → ℕ → Counters → List ℕ → Counters
replay w k c [] = c
replay w k c (t ∷ l) = replay w k (execute (w.pieces t) k c).counters l

pub replay_more : (w : World) (k : ℕ) (c : Counters) (l : List ℕ) (t : ℕ) → replay w k c (l ++ (t ∷ [])) ≡ (execute (w.pieces t) k (replay w k c l)).counters
unfolding replay
replay_more w k c [] t = refl
replay_more w k c (x ∷ l) t = replay_more w k (execute (w.pieces x) k c).counters l t

pub record Replayed (w : World) (k : ℕ) (z : Server) : Type 0 where
  pub counters : z.counters ≡ replay w k (w.counters k) (entries z.log)
  pub results : (u : ℕ) → Memᴰ u (entries z.log) → (record_at z u).values ≡ (execute (w.pieces u) k (replay w k (w.counters k) (until u (entries z.log)))).values

-- ---- a number runs

entries_more : (x : Server) (t : ℕ) → May x t → Logs x → entries (run_one x t).log ≡ entries x.log ++ (t ∷ [])
unfolding entries
entries_more x t m g = list_more x t m g

record Stand (w : World) (k : ℕ) (z : Server) : Type 0 where
  logs : Logs z
  size : length z.records ≡ 64
  own : shard z ≡ k
  named : (u : ℕ) → committed_at z u ≡ true → (record_at z u).pieces ≡ w.pieces u
  replayed : Replayed w k z

stand_more : (w : World) (k : ℕ) (x : Server) (t : ℕ) → May x t → Stand w k x → Stand w k (run_one x t)
unfolding run_one
stand_more w k x t m h = record {
  logs = logs_more x t m h.logs;
  size = length-set x.records t _ ∙ h.size;
  own = h.own;
  named = λ u e. let q = (run_one-leaves x t).held u in q.pieces ∙ h.named u (sym (ap (λ (v : MaybeSet). there v.some) q.committed) ∙ e);
  replayed = record { counters = counters; results = λ u k. results u (Memᴰ.append_cases (entries x.log) (subst (Memᴰ u) more k)) };
}
  where
    pieces : (record_at x t).pieces ≡ w.pieces t
    pieces = h.named t m.committed

    more : entries (run_one x t).log ≡ entries x.log ++ (t ∷ [])
    more = entries_more x t m h.logs

    counters : (execute (record_at x t).pieces (shard x) x.counters).counters ≡ replay w k (w.counters k) (entries (run_one x t).log)
    counters =
        ap (λ (p : Pieces). (execute p (shard x) x.counters).counters) pieces
        ∙ ap (λ n. (execute (w.pieces t) n x.counters).counters) h.own
        ∙ ap (λ (c : Counters). (execute (w.pieces t) k c).counters) h.replayed.counters
        ∙ sym (replay_more w k (w.counters k) (entries x.log) t)
        ∙ ap (replay w k (w.counters k)) (sym more)

    absent : Memᴰ t (entries x.log) → ⊥
    absent q = true_and_false (entries-word x.log h.logs.lined t q) m.new

    R : Record
    R = with_results (execute (record_at x t).pieces (shard x) x.counters).values (record_at x t)

    results : (u : ℕ) → Memᴰ u (entries x.log) ⊎ Memᴰ u (t ∷ []) → (get_or (set x.records t R) u no_record).values ≡ (execute (w.pieces u) k (replay w k (w.counters k) (until u (entries (run_one x t).log)))).values
    results u (inl q) =
        ap (λ (v : Record). v.values) (get_or-set_other x.records t u R no_record (λ e. absent (subst (λ y. Memᴰ y (entries x.log)) e q)))
        ∙ h.replayed.results u q
        ∙ ap (λ (l : List ℕ). (execute (w.pieces u) k (replay w k (w.counters k) l)).values) (sym (ap (until u) more ∙ until_old u (entries x.log) (t ∷ []) q))
    results u (inr q) = subst (λ u. (get_or (set x.records t R) u no_record).values ≡ (execute (w.pieces u) k (replay w k (w.counters k) (until u (entries (run_one x t).log)))).values) (sym (Memᴰ.eq_of_singleton q))
        (ap (λ (v : Record). v.values) (get_or-set_same x.records t R no_record (let l = m.small in omega (arith, h.size)))
        ∙ ap (λ (p : Pieces). (execute p (shard x) x.counters).values) pieces
        ∙ ap (λ n. (execute (w.pieces t) n x.counters).values) h.own
        ∙ ap (λ (c : Counters). (execute (w.pieces t) k c).values) h.replayed.counters
        ∙ ap (λ (l : List ℕ). (execute (w.pieces t) k (replay w k (w.counters k) l)).values) (sym (ap (until t) more ∙ until_new t (entries x.log) [] absent)))

-- ---- runs

record Standing (w : World) (k : ℕ) (z : Server) : Type 0 where
  sound : Sound z
  own : shard z ≡ k
  named : (u : ℕ) → committed_at z u ≡ true → (record_at z u).pieces ≡ w.pieces u
  replayed : Replayed w k z

group_standing : (w : World) (k : ℕ) (z : Server) → Standing w k z → Standing w k (run_group z (next_run z))
group_standing w k z h =
    let p = way z h.sound.memory h.sound.form in
    let q = ran_keeps (Stand w k) (stand_more w k) p.ran (record { logs = logs-formed z h.sound.memory h.sound.form; size = h.sound.memory.records; own = h.own; named = h.named; replayed = h.replayed }) in
    record { sound = group_sound z h.sound; own = q.own; named = q.named; replayed = q.replayed }

runs_replayed : (w : World) (k : ℕ) {z : Server} {r : Ran} → Runs z r → Standing w k z → Replayed w k r.server
unfolding run turn run_all
runs_replayed w k {z} once h = go (formed z)
  where
    go : (b : Bool) → Replayed w k (cond b (turn z (next_run z)) (ran_none z 13)).server
    go true = (group_standing w k z h).replayed
    go false = h.replayed
runs_replayed w k (idle n) h = h.replayed
runs_replayed w k {z} out h = go (formed z)
  where
    go : (b : Bool) → Replayed w k (cond b (ran_from z (turns 64 z)) (ran_none z 13)).server
    go true = (turns-keep (Standing w k) (group_standing w k) 64 z h).replayed
    go false = h.replayed

-- ---- histories

abbrev pub AllReplayed : World → Cluster → Type 0
AllReplayed w c = (s : ℕ) → Replayed w (home_of s) (c.servers s)

replayed_kept : (w : World) {c c' : Cluster} → Kept w c → Named w c → AllFormal c → LogOrders c → Change w c c' → AllReplayed w c → AllReplayed w c'
unfolding ran
replayed_kept w {c} k na f lo (serves i m o rs p did) a =
    put_all (λ s z. Replayed w (home_of s) z) c.servers i _
    (record {
      counters = (a i).counters;
      results = λ u h. ap (λ (v : Record). v.values) (same u ((lo i).committed u h)) ∙ (a i).results u h;
    }) a
  where
    same : (u : ℕ) → committed_at (c.servers i) u ≡ true → get_or (set (c.servers i).records m.t o.after) u no_record ≡ record_at (c.servers i) u
    same u e = set-either (λ v. v ≡ record_at (c.servers i) u) (c.servers i).records m.t u o.after no_record refl
        (λ z. did_committed did (subst (λ x. committed_at (c.servers i) x ≡ true) z e) ∙ ap (record_at (c.servers i)) (sym z))
replayed_kept w {c} k na f lo (has_run i r rn) a =
    put_all (λ s z. Replayed w (home_of s) z) c.servers i r.server
    (runs_replayed w (home_of i) rn (record { sound = sound_of w c k i (f i); own = ap shard_of (k.sizes.ids i); named = λ u e. (na.records i u).committed e; replayed = a i })) a
replayed_kept w k na f lo (sent j d m at du) a = a
replayed_kept w k na f lo (quiet q) a = λ s. subst (Replayed w (home_of s)) (sym (q.servers s)) (a s)

first_replayed : (w : World) → AllReplayed w (at_first w)
unfolding at_first first_server fresh_server entries replay
first_replayed w s = record { counters = refl; results = λ u h. absurd (Memᴰ.not-nil h) }

-- with all that it needs of the cluster before
record Known (w : World) (c : Cluster) : Type 0 where
  named : Named w c
  formal : AllFormal c
  logs : LogOrders c
  replayed : AllReplayed w c

known_kept : (w : World) {c c' : Cluster} → Kept w c → Kept w c' → Change w c c' → Known w c → Known w c'
known_kept w k k' ch h = record {
  named = named_kept w k ch h.named;
  formal = formal_kept w k ch h.formal;
  logs = logs_kept w k h.formal ch h.logs;
  replayed = replayed_kept w k h.named h.formal h.logs ch h.replayed;
}

pub reached_replayed : (w : World) {c : Cluster} → Reached w c → AllReplayed w c
reached_replayed w r = (always w (Known w) (λ c c'. known_kept w) (record { named = first-named w; formal = first-formal w; logs = first-logs w; replayed = first_replayed w }) r).replayed
