-- The servers' steps keep what is kept: a message taken or refused, with what it runs, and a run. Assumes nothing.
use mathlib.Core.Path.{◌≡◌, refl, sym, ◌∙◌, ap, subst}
use mathlib.Core.Logic.{◌⊎◌, inl, inr, ◌≢◌}
use mathlib.Core.Bool.{Bool, true, false, cond}
use mathlib.Core.List.Memᴰ
use mathlib.Core.List.{◌∷◌, Memᴰ}
use Prim.Native.Nat.{ℕ, ◌^◌, ◌<◌}
use native.Mathlib.Omega.{arith}
use lib.ListN.{length, length-set}
use lib.Pow.{pow_pos}
use Rattle.masks.specs.Folds.{mask_of}
use Rattle.masks.proofs.FoldLaws.{mask_bound}
use Rattle.rules.specs.declared.Set.{Set}
use Rattle.rules.specs.declared.MaybeWord.{MaybeWord}
use Rattle.rules.specs.declared.MaybeSet.{MaybeSet}
use Rattle.rules.specs.Flags.{there}
use Rattle.wire.specs.declared.Message.{Message}
use Rattle.wire.specs.Codes.{Accept}
use Rattle.server.specs.declared.Changed.{Changed}
use Rattle.server.specs.declared.Record.{Record}
use Rattle.server.specs.declared.Server.{Server}
use Rattle.server.specs.declared.Ran.{Ran}
use Rattle.server.specs.Held.{record_at}
use Rattle.server.specs.Run.{ran_none}
use Rattle.server.specs.Serve.{came_earlier, arrival_set, fixes, arrival_for, serve}
use Rattle.server.proofs.Passed.{Passed, number_below}
use Rattle.server.proofs.Did.{Did, tells, is_done, pre_accepts_first, pre_accepts_again, accepts, prepares, commits_first}
use Rattle.server.proofs.RunLeaves.{SameHeld, Leaves, leaves-refl}
use Rattle.safety.specs.Cluster.{World, Cluster, put, id_of, answered, ran, Reaches, MayTake}
use Rattle.safety.proofs.Slice.{Holds}
use Rattle.safety.proofs.Summary.{Step}
use Rattle.safety.proofs.View.{Said, SaysAccept, record_of, CommitOf, slice_of, touched_of, step_of, put_all}
use Rattle.safety.proofs.Serving.{after, runs_leave, after-runs, Outcome, refuses, takes, outcome}
use Rattle.safety.proofs.ServerStep.{server-step}
use Rattle.safety.proofs.Kept.{Sizes, Kept, quiet-kept}

-- ---- where the records stay, but for their results, and nothing is sent

module _ (w : World) (c c' : Cluster) (same : (s u : ℕ) → SameHeld (record_of c s u) (record_of c' s u)) (sent : c'.sent ≡ c.sent) where
  old-message : (m : Message) → Memᴰ m c'.sent → Memᴰ m c.sent
  old-message m k = subst (Memᴰ m) sent k

  said-again : {t k : ℕ} {P : Message → Type 0} → Said c.sent t k P → Said c'.sent t k P
  said-again h = record { message = h.message; within = subst (Memᴰ h.message) (sym sent) h.within; coded = h.coded; numbered = h.numbered; says = h.says }

  said-before : {t k : ℕ} {P : Message → Type 0} → Said c'.sent t k P → Said c.sent t k P
  said-before h = record { message = h.message; within = old-message _ h.within; coded = h.coded; numbered = h.numbered; says = h.says }

  pub still-step : (t : ℕ) → Step (touched_of w t) (slice_of c t) (slice_of c' t)
  still-step t = step_of (touched_of w t) c c' t
      (λ s. record {
        promise = let e = (same s t).promise in omega arith;
        arrival = λ x h. subst (λ (a : MaybeWord). Holds a x) (sym (same s t).arrival) h;
        fresh = λ x h. inl (subst (λ (a : MaybeWord). Holds a x) (same s t).arrival h);
        accepted = inl (same s t).accepted;
      })
      (λ m k. subst (Memᴰ m) (sym sent) k)
      (λ m k. inl (old-message m k))
      (λ s v k e. inl (CommitOf.held s (ap (λ (x : MaybeSet). there x.some) (sym (same s t).committed) ∙ k) (ap (λ (x : MaybeSet). x.set) (sym (same s t).committed) ∙ e)))

  pub still_kept : c'.stations ≡ c.stations → c'.taken ≡ c.taken → Sizes c' → Kept w c → Kept w c'
  still_kept es et sz k = quiet-kept w c c' es et still-step (λ t. record { pre_accept_ok = said-again }) (λ t b v a. said-before a) sz k

-- a server of which only results, counters and log differ
module _ (w : World) (c c' : Cluster) (i : ℕ) (z : Server) (lv : Leaves (c.servers i) z) (es : c'.servers ≡ put c.servers i z) where
  leaves-same : (s u : ℕ) → SameHeld (record_of c s u) (record_of c' s u)
  leaves-same s u = subst (λ (f : ℕ → Server). SameHeld (record_of c s u) (record_at (f s) u)) (sym es)
      (put_all (λ s x. SameHeld (record_of c s u) (record_at x u)) c.servers i z (lv.held u) (λ s. (leaves-refl (c.servers s)).held u) s)

  leaves-sizes : Sizes c → Sizes c'
  leaves-sizes sz = record {
    ids = λ s. subst (λ (f : ℕ → Server). (f s).id ≡ id_of s) (sym es) (put_all (λ s (x : Server). x.id ≡ id_of s) c.servers i z (lv.id ∙ sz.ids i) sz.ids s);
    records = λ s. subst (λ (f : ℕ → Server). length (f s).records ≡ 64) (sym es) (put_all (λ s (x : Server). length x.records ≡ 64) c.servers i z (lv.size ∙ sz.records i) sz.records s);
  }

  pub leaves_kept : c'.stations ≡ c.stations → c'.taken ≡ c.taken → c'.sent ≡ c.sent → Kept w c → Kept w c'
  leaves_kept e1 e2 e3 k = still_kept w c c' leaves-same e3 e1 e2 (leaves-sizes k.sizes) k

pub ran_kept : (w : World) (c : Cluster) (i : ℕ) (r : Ran) → Leaves (c.servers i) r.server → Kept w c → Kept w (ran c i r)
unfolding ran
ran_kept w c i r lv k = leaves_kept w c _ i r.server lv refl refl refl refl k

-- ---- a message

-- the word that a PreAccept fixes has 64 digits
pub arrival_fits : (s : Server) (m : Message) → arrival_for s m < 2 ^ 64
unfolding arrival_for arrival_set
arrival_fits s m = go (fixes (record_at s m.t) m)
  where
    go : (b : Bool) → cond b (mask_of (came_earlier s m.pieces) 64) 0 < 2 ^ 64
    go true = mask_bound (came_earlier s m.pieces) 64
    go false = pow_pos 64

reply-code : {id x : ℕ} {v : Record} {m : Message} {o : Changed} → Did id x v m o → o.reply.code ≢ Accept
reply-code (tells r p) e = omega (arith, p.above)
reply-code (is_done h) e = omega arith
reply-code (pre_accepts_first k op n) e = omega arith
reply-code (pre_accepts_again k op n) e = omega arith
reply-code (accepts k op) e = omega arith
reply-code (prepares k op) e = omega arith
reply-code (commits_first j k n) e = omega arith

-- a server's id is its own number
own_id : (i id : ℕ) → id ≡ id_of i → i < 12 → id ≡ i
own_id i id e l = omega arith

module _ (w : World) (c : Cluster) (i : ℕ) (m : Message) (may : MayTake i m) (rs : Reaches c m) (k : Kept w c) where
  -- what it does by itself, and then with what it runs
  pub takes-kept : (o : Changed) → Passed (c.servers i) m → Did (c.servers i).id (arrival_for (c.servers i) m) (record_of c i m.t) m o → Kept w (after c i m.t o)
  takes-kept o p did = quiet-kept w c (after c i m.t o) refl refl
      (server-step w c i (c.servers i).id (arrival_for (c.servers i) m) (arrival_fits (c.servers i) m) m o rs (λ a. own_id i (c.servers i).id (k.sizes.ids i) (may a)) small did)
      (λ t. record { pre_accept_ok = λ h. record { message = h.message; within = Memᴰ.tail h.within; coded = h.coded; numbered = h.numbered; says = h.says } })
      (λ t b v a. before t b v a (Memᴰ.cases_cons a.within))
      (record {
        ids = put_all (λ s (x : Server). x.id ≡ id_of s) c.servers i _ (k.sizes.ids i) k.sizes.ids;
        records = put_all (λ s (x : Server). length x.records ≡ 64) c.servers i _ (length-set (c.servers i).records m.t o.after ∙ k.sizes.records i) k.sizes.records;
      })
      k
    where
      small : m.t < length (c.servers i).records
      small = let n = number_below m p.numbers in omega (arith, k.sizes.records i)

      before : (t b : ℕ) (v : Set) (a : Said (o.reply ∷ c.sent) t Accept (SaysAccept b v)) → (a.message ≡ o.reply) ⊎ Memᴰ a.message c.sent → Said c.sent t Accept (SaysAccept b v)
      before t b v a (inl e) = absurd (reply-code did (ap (λ (m : Message). m.code) (sym e) ∙ a.coded))
      before t b v a (inr h) = record { message = a.message; within = h; coded = a.coded; numbered = a.numbered; says = a.says }

  pub answered-kept : Kept w (answered c i (serve (c.servers i) m))
  answered-kept = go (outcome c i m)
    where
      go : {c' : Cluster} → Outcome c i m c' → Kept w c'
      go refuses = ran_kept w c i (ran_none (c.servers i) 0) (leaves-refl (c.servers i)) k
      go (takes o r p did rn) = ran_kept w (after c i m.t o) i r (runs_leave (after-runs rn)) (takes-kept o p did)
