-- What a server does has a summary, whatever the number. Assumes nothing.
use mathlib.Core.Path.{◌≡◌, refl, sym, ◌∙◌, ap, subst}
use mathlib.Core.Logic.{◌⊎◌, inl, inr, ◌≢◌}
use mathlib.Core.Bool.{true, true≢false, false≢true}
use mathlib.Core.List.Memᴰ
use mathlib.Core.List.{List, ◌∷◌, Memᴰ}
use Prim.Native.Nat.{ℕ, ◌^◌, ◌<◌}
use native.Mathlib.Omega.{arith}
use native.Mathlib.Decide.{ℕ_discrete}
use lib.Dec.{eqb}
use lib.ListN.{length}
use borrow.Author.Tests.{eqb-true}
use Rattle.masks.proofs.Bools.{or_yes}
use Rattle.rules.specs.declared.Set.{Set}
use Rattle.rules.specs.declared.MaybeWord.{MaybeWord}
use Rattle.rules.specs.declared.MaybeSet.{MaybeSet}
use Rattle.rules.specs.Flags.{there}
use Rattle.wire.specs.declared.Message.{Message}
use Rattle.wire.specs.Codes.{Accept, AcceptOK, Commit, Done, commits, asks}
use Rattle.wire.specs.Messages.{prepare_ok}
use Rattle.server.specs.declared.Record.{Record}
use Rattle.server.specs.declared.Changed.{Changed}
use Rattle.server.specs.Held.{committed_at}
use Rattle.server.proofs.Did.{Did, tells, is_done, pre_accepts_first, pre_accepts_again, accepts, prepares, commits_first, Open, Plain}
use Rattle.safety.specs.Cluster.{World, Cluster, Reaches}
use Rattle.safety.proofs.Slice.{Slice, Holds, Votes}
use Rattle.safety.proofs.Summary.{Voting, Preparing, Step}
use Rattle.safety.proofs.View.{Said, SaysAcceptOK, record_of, CommitOf, slice_of, touched_of, of_another, NewSound, RecordMoves, step_of}
use Rattle.safety.proofs.Serving.{after, was_sent_lem, Place, here, elsewhere, place, record-here}

-- a record that stays
pub moves_still : (c c' : Cluster) (u s : ℕ) → record_of c' s u ≡ record_of c s u → RecordMoves (slice_of c u) (slice_of c' u) s
moves_still c c' u s e = record {
  promise = let z = ap (λ (v : Record). v.promise) e in omega arith;
  arrival = λ w h. subst (λ (a : MaybeWord). Holds a w) (ap (λ (v : Record). v.arrival) (sym e)) h;
  fresh = λ w h. inl (subst (λ (a : MaybeWord). Holds a w) (ap (λ (v : Record). v.arrival) e) h);
  accepted = inl (ap (λ (v : Record). v.accepted) e);
}

pub held-still : (c c' : Cluster) (u s : ℕ) (v : Set) → record_of c' s u ≡ record_of c s u → committed_at (c'.servers s) u ≡ true → (record_of c' s u).committed.set ≡ v → CommitOf c u v
held-still c c' u s v e k z =
    CommitOf.held s (ap (λ (r : Record). there r.committed.some) (sym e) ∙ k) (ap (λ (r : Record). r.committed.set) (sym e) ∙ z)

-- what is sent beside what was
pub new_or_old : (P : Message → Type 0) (r : Message) (l : List Message) → P r → (m : Message) → Memᴰ m (r ∷ l) → Memᴰ m l ⊎ P m
new_or_old P r l h m k = go (Memᴰ.cases_cons k)
  where
    go : (m ≡ r) ⊎ Memᴰ m l → Memᴰ m l ⊎ P m
    go (inl e) = inr (subst P (sym e) h)
    go (inr k) = inl k

-- nothing rests on an answer whose code is none of these
plain-commit : (r : Message) → Plain r → commits r.code ≡ true → ⊥
plain-commit r p k = go (or_yes (eqb r.code Commit) (eqb r.code Done) k)
  where
    go : (eqb r.code Commit ≡ true) ⊎ (eqb r.code Done ≡ true) → ⊥
    go (inl e) = let z = eqb-true r.code Commit e in omega (arith, p.above)
    go (inr e) = p.not_done (eqb-true r.code Done e)

-- i answers by its id; that is i itself, no learner, where the message asks
module _ (touched : ℕ) (c c' : Cluster) (i id w : ℕ) (wl : w < 2 ^ 64) (m : Message) (rs : Reaches c m) (own : asks m.code ≡ true → id ≡ i) where
  abbrev A : Slice
  A = slice_of c m.t

  abbrev A' : Slice
  A' = slice_of c' m.t

  abbrev R : Record
  R = record_of c i m.t

  abbrev R' : Record
  R' = record_of c' i m.t

  voting : m.code ≡ Accept → Open R m → R'.promise ≡ m.ballot → Votes R'.accepted m.ballot m.set → Voting A A' i m.ballot m.set
  voting k op p n = record {
    low = op.low;
    promises = p;
    now = n;
    asked = record { message = m; within = was_sent_lem rs (λ z. omega arith) (λ z. omega arith); coded = k; numbered = refl; says = (refl, refl) };
  }

  same-arrival : R'.arrival ≡ R.arrival → (w : ℕ) → Holds R.arrival w → Holds R'.arrival w
  same-arrival e w h = subst (λ (a : MaybeWord). Holds a w) (sym e) h

  same-arrived : R'.arrival ≡ R.arrival → (w : ℕ) → Holds R'.arrival w → Holds R.arrival w
  same-arrived e w h = subst (λ (a : MaybeWord). Holds a w) e h

  -- ---- what became of the record

  moves-here : {o : Changed} → Did id w R m o → R' ≡ o.after → RecordMoves A A' i
  moves-here (tells r p) e = moves_still c c' m.t i e
  moves-here (is_done h) e = moves_still c c' m.t i e
  moves-here (pre_accepts_first k op n) e = record {
    promise = let z = ap (λ (v : Record). v.promise) e in omega (arith, op.low);
    arrival = λ w h. absurd (true≢false (sym h.some ∙ n));
    fresh = λ y h. inr (let z = sym h.is ∙ ap (λ (v : Record). v.arrival.word) e in subst (λ y. y < 2 ^ 64) (sym z) wl);
    accepted = inl (ap (λ (v : Record). v.accepted) e);
  }
  moves-here (pre_accepts_again k op n) e = record {
    promise = let z = ap (λ (v : Record). v.promise) e in omega (arith, op.low);
    arrival = same-arrival (ap (λ (v : Record). v.arrival) e);
    fresh = λ w h. inl (same-arrived (ap (λ (v : Record). v.arrival) e) w h);
    accepted = inl (ap (λ (v : Record). v.accepted) e);
  }
  moves-here (accepts k op) e = record {
    promise = let z = ap (λ (v : Record). v.promise) e in omega (arith, op.low);
    arrival = same-arrival (ap (λ (v : Record). v.arrival) e);
    fresh = λ w h. inl (same-arrived (ap (λ (v : Record). v.arrival) e) w h);
    accepted = inr (m.ballot, m.set, voting k op (ap (λ (v : Record). v.promise) e) (subst (λ (v : Record). Votes v.accepted m.ballot m.set) (sym e) (record { some = refl; at = refl; is = refl })));
  }
  moves-here (prepares k op) e = record {
    promise = let z = ap (λ (v : Record). v.promise) e in omega (arith, op.low);
    arrival = same-arrival (ap (λ (v : Record). v.arrival) e);
    fresh = λ w h. inl (same-arrived (ap (λ (v : Record). v.arrival) e) w h);
    accepted = inl (ap (λ (v : Record). v.accepted) e);
  }
  moves-here (commits_first j k n) e = record {
    promise = let z = ap (λ (v : Record). v.promise) e in omega arith;
    arrival = same-arrival (ap (λ (v : Record). v.arrival) e);
    fresh = λ w h. inl (same-arrived (ap (λ (v : Record). v.arrival) e) w h);
    accepted = inl (ap (λ (v : Record). v.accepted) e);
  }

  still_open : {A : Type 0} → R'.committed ≡ R.committed → Open R m → committed_at (c'.servers i) m.t ≡ true → A
  still_open e op k = absurd (true≢false (sym k ∙ ap (λ (r : MaybeSet). there r.some) e ∙ op.uncommitted))

  committed-here : (v : Set) {o : Changed} → Did id w R m o → R' ≡ o.after → committed_at (c'.servers i) m.t ≡ true → R'.committed.set ≡ v → CommitOf c m.t v
  committed-here v (tells r p) e k z = held-still c c' m.t i v e k z
  committed-here v (is_done h) e k z = held-still c c' m.t i v e k z
  committed-here v (pre_accepts_first q op n) e k z = still_open (ap (λ (r : Record). r.committed) e) op k
  committed-here v (pre_accepts_again q op n) e k z = still_open (ap (λ (r : Record). r.committed) e) op k
  committed-here v (accepts q op) e k z = still_open (ap (λ (r : Record). r.committed) e) op k
  committed-here v (prepares q op) e k z = still_open (ap (λ (r : Record). r.committed) e) op k
  committed-here v (commits_first j q n) e k z =
      CommitOf.sent m (was_sent_lem rs (λ y. false≢true (sym (ap commits y) ∙ q)) (λ y. false≢true (sym (ap commits y) ∙ q))) q refl (sym (ap (λ (r : Record). r.committed.set) e) ∙ z)

  -- ---- what the answer rests on

  reply-sound : {o : Changed} → Did id w R m o → R' ≡ o.after → c'.sent ≡ o.reply ∷ c.sent → NewSound touched A A' m.t o.reply
  reply-sound (tells r p) e z = record {
    accept = λ k n. absurd (omega (arith, p.above));
    accept_ok = λ k n. absurd (omega (arith, p.above));
    pre_accept_ok = λ k n. absurd (omega (arith, p.above));
    prepare_ok = λ k n. absurd (p.not_prepare_ok k);
    commit = λ k n. absurd (plain-commit r p k);
  }
  reply-sound (is_done h) e z = record {
    accept = λ k n. absurd (omega arith);
    accept_ok = λ k n. absurd (omega arith);
    pre_accept_ok = λ k n. absurd (omega arith);
    prepare_ok = λ k n. absurd (omega arith);
    commit = λ k n. inl (CommitOf.held i h refl);
  }
  reply-sound (pre_accepts_first k op n) e z = record {
    accept = λ k n. absurd (omega arith);
    accept_ok = λ k n. absurd (omega arith);
    pre_accept_ok = λ y q. subst (λ s. Holds (A'.arrival s) w) (sym (own (ap asks k))) (subst (λ (v : Record). Holds v.arrival w) (sym e) (record { some = refl; is = refl }));
    prepare_ok = λ k n. absurd (omega arith);
    commit = λ k n. absurd (false≢true k);
  }
  reply-sound (pre_accepts_again k op n) e z = record {
    accept = λ k n. absurd (omega arith);
    accept_ok = λ k n. absurd (omega arith);
    pre_accept_ok = λ y q. subst (λ s. Holds (A'.arrival s) R.arrival.word) (sym (own (ap asks k))) (subst (λ (v : Record). Holds v.arrival R.arrival.word) (sym e) (record { some = n; is = refl }));
    prepare_ok = λ k n. absurd (omega arith);
    commit = λ k n. absurd (false≢true k);
  }
  reply-sound (accepts k op) e z = record {
    accept = λ k n. absurd (omega arith);
    accept_ok = λ y n. subst (λ s. (v : Set) × Voting A A' s m.ballot v) (sym (own (ap asks k))) (m.set, voting k op (ap (λ (v : Record). v.promise) e) (subst (λ (v : Record). Votes v.accepted m.ballot m.set) (sym e) (record { some = refl; at = refl; is = refl })));
    pre_accept_ok = λ k n. absurd (omega arith);
    prepare_ok = λ k n. absurd (omega arith);
    commit = λ k n. absurd (false≢true k);
  }
  reply-sound (prepares k op) e z = record {
    accept = λ k n. absurd (omega arith);
    accept_ok = λ k n. absurd (omega arith);
    pre_accept_ok = λ k n. absurd (omega arith);
    prepare_ok = λ y n. subst (λ s. Preparing A A' s m.ballot R.arrival R.accepted) (sym (own (ap asks k))) (record { low = op.low; promises = ap (λ (v : Record). v.promise) e; arrived = refl; held = refl; quiet = λ b h. quiet b h (Memᴰ.cases_cons (subst (Memᴰ h.message) z h.within)) });
    commit = λ k n. absurd (false≢true k);
  }
    where
      quiet : (b : ℕ) (h : Said c'.sent m.t AcceptOK (SaysAcceptOK i b)) → (h.message ≡ prepare_ok m.t id m.ballot R.arrival R.accepted) ⊎ Memᴰ h.message c.sent → Said c.sent m.t AcceptOK (SaysAcceptOK i b)
      quiet b h (inl q) = absurd (omega (arith, h.coded, ap (λ (m : Message). m.code) q))
      quiet b h (inr q) = record { message = h.message; within = q; coded = h.coded; numbered = h.numbered; says = h.says }
  reply-sound (commits_first j k n) e z = record {
    accept = λ k n. absurd (omega arith);
    accept_ok = λ k n. absurd (omega arith);
    pre_accept_ok = λ k n. absurd (omega arith);
    prepare_ok = λ k n. absurd (omega arith);
    commit = λ k n. absurd (false≢true k);
  }

-- an answer is of its message's number, or rests on nothing
reply_other : (touched i w : ℕ) (v : Record) (m : Message) {o : Changed} → Did i w v m o → (a a' : Slice) (u : ℕ) → u ≢ m.t → NewSound touched a a' u o.reply
reply_other touched i w v m (tells r p) a a' u n = record {
  accept = λ k n. absurd (omega (arith, p.above));
  accept_ok = λ k n. absurd (omega (arith, p.above));
  pre_accept_ok = λ k n. absurd (omega (arith, p.above));
  prepare_ok = λ k n. absurd (p.not_prepare_ok k);
  commit = λ k n. absurd (plain-commit r p k);
}
reply_other touched i w v m (is_done h) a a' u n = of_another touched a a' u _ (λ e. n (sym e))
reply_other touched i w v m (pre_accepts_first k op h) a a' u n = of_another touched a a' u _ (λ e. n (sym e))
reply_other touched i w v m (pre_accepts_again k op h) a a' u n = of_another touched a a' u _ (λ e. n (sym e))
reply_other touched i w v m (accepts k op) a a' u n = of_another touched a a' u _ (λ e. n (sym e))
reply_other touched i w v m (prepares k op) a a' u n = of_another touched a a' u _ (λ e. n (sym e))
reply_other touched i w v m (commits_first j k h) a a' u n = of_another touched a a' u _ (λ e. n (sym e))

module _ (w : World) (c : Cluster) (i id a : ℕ) (al : a < 2 ^ 64) (m : Message) (o : Changed) (rs : Reaches c m) (own : asks m.code ≡ true → id ≡ i) (l : m.t < length (c.servers i).records) (did : Did id a (record_of c i m.t) m o) where
  abbrev C' : Cluster
  C' = after c i m.t o

  step-here : Step (touched_of w m.t) (slice_of c m.t) (slice_of C' m.t)
  step-here = step_of (touched_of w m.t) c C' m.t
      (λ s. moves s (place c i m.t o l s m.t))
      (λ r k. Memᴰ.tail k)
      (new_or_old _ o.reply c.sent (reply-sound (touched_of w m.t) c C' i id a al m rs own did is refl))
      (λ s v k e. inl (held s v k e (place c i m.t o l s m.t)))
    where
      is : record_of C' i m.t ≡ o.after
      is = at (place c i m.t o l i m.t)
        where
          at : Place c i m.t o i m.t → record_of C' i m.t ≡ o.after
          at (here e e' k) = k
          at (elsewhere k) = record-here c i m.t o l

      moves : (s : ℕ) → Place c i m.t o s m.t → RecordMoves (slice_of c m.t) (slice_of C' m.t) s
      moves s (here e e' k) = subst (RecordMoves (slice_of c m.t) (slice_of C' m.t)) (sym e) (moves-here (touched_of w m.t) c C' i id a al m rs own did is)
      moves s (elsewhere k) = moves_still c C' m.t s k

      held : (s : ℕ) (v : Set) → committed_at (C'.servers s) m.t ≡ true → (record_of C' s m.t).committed.set ≡ v → Place c i m.t o s m.t → CommitOf c m.t v
      held s v k e (elsewhere q) = held-still c C' m.t s v q k e
      held s v k e (here z z' q) = committed-here (touched_of w m.t) c C' i id a al m rs own v did is (subst (λ s. committed_at (C'.servers s) m.t ≡ true) z k) (subst (λ s. (record_of C' s m.t).committed.set ≡ v) z e)

  step_other : (u : ℕ) → u ≢ m.t → Step (touched_of w u) (slice_of c u) (slice_of C' u)
  step_other u n = step_of (touched_of w u) c C' u
      (λ s. moves_still c C' u s (still s (place c i m.t o l s u)))
      (λ r k. Memᴰ.tail k)
      (new_or_old _ o.reply c.sent (reply_other (touched_of w u) id a (record_of c i m.t) m did (slice_of c u) (slice_of C' u) u n))
      (λ s v k e. inl (held-still c C' u s v (still s (place c i m.t o l s u)) k e))
    where
      still : (s : ℕ) → Place c i m.t o s u → record_of C' s u ≡ record_of c s u
      still s (here e e' k) = absurd (n e')
      still s (elsewhere k) = k

  pub server-step : (u : ℕ) → Step (touched_of w u) (slice_of c u) (slice_of C' u)
  server-step u = go (ℕ_discrete u m.t)
    where
      go : Dec (u ≡ m.t) → Step (touched_of w u) (slice_of c u) (slice_of C' u)
      go (yes e) = subst (λ u. Step (touched_of w u) (slice_of c u) (slice_of C' u)) (sym e) step-here
      go (no n) = step_other u n
