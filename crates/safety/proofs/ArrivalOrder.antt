-- At each server, of two conflicting numbers with arrival words one is in the other's word. Assumes nothing.
use mathlib.Core.Path.{◌≡◌, refl, sym, ◌∙◌, ap, subst}
use mathlib.Core.Logic.{◌⊎◌, inl, inr, ◌≢◌}
use mathlib.Core.Bool.{Bool, true, false, not, cond, true≢false}
use Prim.Native.Nat.{ℕ, ◌<◌}
use native.Mathlib.Omega.{arith}
use native.Mathlib.Decide.{dec_lt}
use borrow.Author.Tests.{eq-eqb}
use lib.Dec.{eqb}
use lib.ListN.{length, get_or-eq_default}
use Rattle.masks.specs.Bits.{In}
use Rattle.masks.proofs.Bools.{and_yes}
use Rattle.masks.proofs.Laws.{has_in}
use Rattle.masks.proofs.FoldLaws.{has_mask_below}
use Rattle.rules.specs.declared.Pieces.{Pieces}
use Rattle.rules.specs.declared.MaybeWord.{MaybeWord}
use Rattle.rules.specs.Flags.{there}
use Rattle.rules.specs.Cluster.{shard_of}
use Rattle.rules.specs.Conflict.{conflict}
use Rattle.wire.specs.declared.Message.{Message}
use Rattle.wire.specs.Codes.{shape_of, PreAccept}
use Rattle.server.specs.declared.Changed.{Changed}
use Rattle.server.specs.declared.Record.{Record}
use Rattle.server.specs.declared.Server.{Server}
use Rattle.server.specs.Held.{no_record, record_at, arrived_at, shard}
use Rattle.server.specs.Serve.{came_earlier, arrival_set, fixes, arrival_for}
use Rattle.server.proofs.Passed.{Passed, number_below}
use Rattle.server.proofs.Did.{Did, tells, is_done, pre_accepts_first, pre_accepts_again, accepts, prepares, commits_first}
use Rattle.safety.specs.Cluster.{World, Cluster, home_of, ran, Reaches}
use Rattle.safety.proofs.Slice.{Holds}
use Rattle.safety.proofs.View.{record_of, put_all}
use Rattle.safety.proofs.Serving.{after, runs_leave, was_sent_lem, all-records}
use Rattle.safety.proofs.Kept.{Kept}
use Rattle.safety.proofs.Changes.{Change, serves, has_run, sent, quiet}
use Rattle.rules.proofs.ConflictIs.{conflict-turned}
use Rattle.safety.proofs.PiecesNamed.{Named}

-- the server z, of shard k, keeps it
pub record Ordered (w : World) (k : ℕ) (z : Server) : Type 0 where
  pub each : (t u x y : ℕ) → t ≢ u → Holds (record_at z t).arrival x → Holds (record_at z u).arrival y → conflict k (w.pieces t) (w.pieces u) ≡ true → In x u ⊎ In y t

abbrev pub ArrivalOrder : World → Cluster → Type 0
ArrivalOrder w c = (s : ℕ) → Ordered w (home_of s) (c.servers s)

-- a number with an arrival word is below 64
pub arrived_small : (z : Server) (u y : ℕ) → length z.records ≡ 64 → Holds (record_at z u).arrival y → u < 64
arrived_small z u y e h = go (dec_lt u 64)
  where
    go : Dec (u < 64) → u < 64
    go (yes l) = l
    go (no l) = absurd (true≢false (sym h.some ∙ ap (λ (v : Record). there v.arrival.some) (get_or-eq_default z.records no_record (omega arith))))

-- where an arrival word comes from
did_arrival : {i a : ℕ} {v : Record} {m : Message} {o : Changed} (x : ℕ) → Did i a v m o → Holds o.after.arrival x → Holds v.arrival x ⊎ ((x ≡ a) × (m.code ≡ PreAccept) × (there v.arrival.some ≡ false))
did_arrival x (tells r p) h = inl h
did_arrival x (is_done e) h = inl h
did_arrival x (pre_accepts_first k op n) h = inr (sym h.is, k, n)
did_arrival x (pre_accepts_again k op n) h = inl h
did_arrival x (accepts k op) h = inl h
did_arrival x (prepares k op) h = inl h
did_arrival x (commits_first j k n) h = inl h

module _ (w : World) (c : Cluster) (k : Kept w c) (na : Named w c) (i id : ℕ) (m : Message) (o : Changed) (rs : Reaches c m) (p : Passed (c.servers i) m) (did : Did id (arrival_for (c.servers i) m) (record_of c i m.t) m o) where
  abbrev S : Server
  S = c.servers i

  small : m.t < length (c.servers i).records
  small = let n = number_below m p.numbers in omega (arith, k.sizes.records i)

  -- the new word has all that came earlier and conflicts
  new_word : m.code ≡ PreAccept → there (record_of c i m.t).arrival.some ≡ false → (u y : ℕ) → Holds (record_of c i u).arrival y → conflict (home_of i) (w.pieces m.t) (w.pieces u) ≡ true → In (arrival_for S m) u
  unfolding arrival_for arrival_set came_earlier shape_of
  new_word e n u y h cf =
      subst (λ (b : Bool). In (cond b (arrival_set S m.pieces) 0) u) (sym fixed)
      (has_in (has_mask_below (came_earlier S m.pieces) 64 u (arrived_small S u y (k.sizes.records i) h)
      ∙ and_yes (arrived_at S u) (conflict (shard S) m.pieces (record_at S u).pieces) h.some clashes))
    where
      fixed : fixes (record_at S m.t) m ≡ true
      fixed = and_yes (eqb m.code PreAccept) (not (there (record_at S m.t).arrival.some)) (eq-eqb m.code PreAccept e) (ap not n)

      named : m.pieces ≡ w.pieces m.t
      named = na.messages m (was_sent_lem rs (λ z. omega arith) (λ z. omega arith)) (subst (λ n. (shape_of n).pieces ≡ true) (sym e) refl)

      clashes : conflict (shard S) m.pieces (record_at S u).pieces ≡ true
      clashes =
          subst (λ n. conflict (shard_of n) m.pieces (record_at S u).pieces ≡ true) (sym (k.sizes.ids i))
          (subst (λ (a : Pieces). conflict (home_of i) a (record_at S u).pieces ≡ true) (sym named)
          (subst (λ (b : Pieces). conflict (home_of i) (w.pieces m.t) b ≡ true) (sym ((na.records i u).arrived h.some)) cf))

  abbrev From : ℕ → ℕ → ℕ → Type 0
  From s t x = Holds (record_of c s t).arrival x ⊎ ((s ≡ i) × (t ≡ m.t) × (x ≡ arrival_for S m) × (m.code ≡ PreAccept) × (there (record_of c i m.t).arrival.some ≡ false))

  from : (x s t : ℕ) → Holds (record_of (after c i m.t o) s t).arrival x → From s t x
  from x = all-records c i m.t o small (λ s t v. Holds v.arrival x → From s t x) here (λ s t h. inl h)
    where
      here : Holds o.after.arrival x → From i m.t x
      here h = go (did_arrival x did h)
        where
          go : Holds (record_of c i m.t).arrival x ⊎ ((x ≡ arrival_for S m) × (m.code ≡ PreAccept) × (there (record_of c i m.t).arrival.some ≡ false)) → From i m.t x
          go (inl q) = inl q
          go (inr q) = inr (refl, refl, q.0, q.1, q.2)

  pub order-after : ArrivalOrder w c → ArrivalOrder w (after c i m.t o)
  order-after ao s = record { each = λ t u x y ne a b cf. go t u x y ne cf (from x s t a) (from y s u b) }
    where
      go : (t u x y : ℕ) → t ≢ u → conflict (home_of s) (w.pieces t) (w.pieces u) ≡ true → From s t x → From s u y → In x u ⊎ In y t
      go t u x y ne cf (inl a) (inl b) = (ao s).each t u x y ne a b cf
      go t u x y ne cf (inr a) (inr b) = absurd (ne (a.1 ∙ sym b.1))
      go t u x y ne cf (inr a) (inl b) = inl (subst (λ x. In x u) (sym a.2)
          (new_word a.3 a.4 u y (subst (λ s. Holds (record_of c s u).arrival y) a.0 b)
          (subst (λ t. conflict (home_of i) (w.pieces t) (w.pieces u) ≡ true) a.1 (subst (λ s. conflict (home_of s) (w.pieces t) (w.pieces u) ≡ true) a.0 cf))))
      go t u x y ne cf (inl a) (inr b) = inr (subst (λ y. In y t) (sym b.2)
          (new_word b.3 b.4 t x (subst (λ s. Holds (record_of c s t).arrival x) b.0 a)
          (subst (λ u. conflict (home_of i) (w.pieces u) (w.pieces t) ≡ true) b.1 (subst (λ s. conflict (home_of s) (w.pieces u) (w.pieces t) ≡ true) b.0 (conflict-turned (home_of s) (w.pieces t) (w.pieces u) cf)))))

pub order_kept : (w : World) {c c' : Cluster} → Kept w c → Named w c → Change w c c' → ArrivalOrder w c → ArrivalOrder w c'
unfolding ran
order_kept w {c} k na (serves i m o rs p did) ao = order-after w c k na i (c.servers i).id m o rs p did ao
order_kept w {c} k na (has_run i r rn) ao = put_all (λ s z. Ordered w (home_of s) z) c.servers i r.server (record { each = λ t u x y ne a b. (ao i).each t u x y ne (back t x a) (back u y b) }) ao
  where
    back : (t x : ℕ) → Holds (record_at r.server t).arrival x → Holds (record_at (c.servers i) t).arrival x
    back t x h = subst (λ (a : MaybeWord). Holds a x) ((runs_leave rn).held t).arrival h
order_kept w k na (sent j d m at du) ao = ao
order_kept w k na (quiet q) ao = λ s. subst (Ordered w (home_of s)) (sym (q.servers s)) (ao s)
