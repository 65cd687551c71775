-- Two servers of a shard that ran the same numbers with pieces there show the same counters and the same results. Assumes nothing.
use mathlib.Core.Path.{◌≡◌, refl, sym, ◌∙◌, ap, subst}
use mathlib.Core.Logic.{◌⊎◌, inl, inr, ◌≢◌}
use mathlib.Core.Bool.{Bool, true, false, cond, not, ◌&&◌}
use mathlib.Core.List.{List, [], ◌∷◌, Memᴰ}
use Prim.Native.Nat.{ℕ, ◌≤◌, ◌<◌}
use native.Mathlib.Omega.{arith}
use native.Mathlib.Decide.{dec_lt}
use borrow.Author.Tests.{eqb-true, eqb-false, eq-eqb}
use lib.Dec.{eqb}
use lib.ListN.{length, get_or-eq_default}
use lib.Seq.{ext_get_or}
use Rattle.masks.specs.Folds.{any_below}
use Rattle.masks.proofs.Bools.{and_yes, and_yes-l, and_yes_r, not_yes, true_and_false, true_or_false}
use Rattle.masks.proofs.FoldLaws.{any_at, any_no}
use Rattle.rules.specs.Pieces.{piece_at, read, on_shard, touches}
use Rattle.rules.specs.Conflict.{conflict}
use Rattle.rules.proofs.ConflictIs.{on-is, shares-conflict, conflict-turned}
use Rattle.counters.specs.declared.Counter.{Counter}
use Rattle.counters.specs.declared.Counters.{Counters}
use Rattle.counters.specs.Effects.{zeroed, counter_at, execute}
use Rattle.counters.proofs.PerKey.{key_effect, counters-length, key_step, unwritten, same-results}
use Rattle.server.specs.Held.{record_at}
use Rattle.safety.specs.Orders.{Earlier, completed}
use Rattle.safety.specs.Cluster.{World, Cluster, home_of, Reached}
use Rattle.safety.specs.Statements.{log_of, OneOrder, EqualCounters}
use Rattle.safety.proofs.Lists.{earlier_fst, earlier_snd, one_earlier}
use Rattle.safety.proofs.Conflicts.{on_touches}
use Rattle.safety.proofs.LogOrders.{reached-logs}
use Rattle.safety.proofs.OneOrder.{one_order}
use Rattle.safety.proofs.Sifting.{place, earlier-place, Rises, same_list, sift, sift_from, sift_in, sift-earlier, until, until-earlier, until_from, until_in}
use Rattle.safety.proofs.Replays.{replay, Replayed, reached_replayed}

-- ---- the counter of one key

module _ (w : World) (k x : ℕ) where
  -- the counter of key x after a list of transactions, by that counter alone
  unfoldable value : Counter → List ℕ → Counter
  value v [] = v
  value v (t ∷ l) = value (key_effect (w.pieces t) k x v) l

  -- t's piece i writes key x of shard k
  unfoldable writes_at : ℕ → ℕ → Bool
  writes_at t i = on_shard (w.pieces t) k i && eqb (piece_at (w.pieces t) i).key x && not (eqb (piece_at (w.pieces t) i).kind read)

  unfoldable writer : ℕ → Bool
  writer t = any_below (writes_at t) 8

  replay-key : (l : List ℕ) (c : Counters) → x < length c.list → counter_at (replay w k c l) x ≡ value (counter_at c x) l
  unfolding replay value
  replay-key [] c h = refl
  replay-key (t ∷ l) c h =
      replay-key l (execute (w.pieces t) k c).counters (subst (λ n. x < n) (sym (counters-length (w.pieces t) k c)) h)
      ∙ ap (λ (v : Counter). value v l) (key_step (w.pieces t) k x c h)

  -- who doesn't write it leaves it
  idle : (t : ℕ) → writer t ≡ false → (v : Counter) → key_effect (w.pieces t) k x v ≡ v
  unfolding writer writes_at
  idle t e = unwritten (w.pieces t) k x (λ i l o z. reads i l o z (any_no (writes_at t) 8 i e l))
    where
      reads : (i : ℕ) → i < 8 → on_shard (w.pieces t) k i ≡ true → (piece_at (w.pieces t) i).key ≡ x → writes_at t i ≡ false → (piece_at (w.pieces t) i).kind ≡ read
      reads i l o z q = go (true_or_false (eqb (piece_at (w.pieces t) i).kind read))
        where
          go : (eqb (piece_at (w.pieces t) i).kind read ≡ true) ⊎ (eqb (piece_at (w.pieces t) i).kind read ≡ false) → (piece_at (w.pieces t) i).kind ≡ read
          go (inl h) = eqb-true (piece_at (w.pieces t) i).kind read h
          go (inr h) = absurd (true_and_false (and_yes _ _ (and_yes _ _ o (eq-eqb (piece_at (w.pieces t) i).key x z)) (ap not h)) q)

  value-sift : (l : List ℕ) (v : Counter) → value v l ≡ value v (sift writer l)
  unfolding value sift
  value-sift [] v = refl
  value-sift (t ∷ l) v = go (writer t) refl (value-sift l)
    where
      go : (b : Bool) → writer t ≡ b → ((v : Counter) → value v l ≡ value v (sift writer l)) → value (key_effect (w.pieces t) k x v) l ≡ value v (cond b (t ∷ sift writer l) (sift writer l))
      go true e ih = ih (key_effect (w.pieces t) k x v)
      go false e ih = ih (key_effect (w.pieces t) k x v) ∙ ap (λ (u : Counter). value u (sift writer l)) (idle t e v)

  -- ---- who writes it conflicts with who has a piece on it

  pub record OnKey (t : ℕ) : Type 0 where
    pub i : ℕ
    pub small : i < 8
    pub on : on_shard (w.pieces t) k i ≡ true
    pub key : (piece_at (w.pieces t) i).key ≡ x

  writer-on : (t : ℕ) → writer t ≡ true → (p : OnKey t) × ((piece_at (w.pieces t) p.i).kind ≡ read → ⊥)
  unfolding writer writes_at
  writer-on t e =
      let q = any_at (writes_at t) 8 e in
      let i = q.0 in
      let O = on_shard (w.pieces t) k i in
      let K = eqb (piece_at (w.pieces t) i).key x in
      let N = eqb (piece_at (w.pieces t) i).kind read in
      let f = and_yes-l (O && K) (not N) q.2 in
      (record { i = i; small = q.1; on = and_yes-l O K f; key = eqb-true (piece_at (w.pieces t) i).key x (and_yes_r O K f) }, eqb-false (piece_at (w.pieces t) i).kind read (not_yes N (and_yes_r (O && K) (not N) q.2)))

  clash : x < 16 → (t u : ℕ) → writer t ≡ true → OnKey u → conflict k (w.pieces t) (w.pieces u) ≡ true
  clash l t u e b =
      let a = writer-on t e in
      shares-conflict k (w.pieces t) (w.pieces u) a.0.i b.i (record {
        first = on-is (w.pieces t) k a.0.i a.0.small a.0.on;
        second = on-is (w.pieces u) k b.i b.small b.on;
        key = subst (λ n. n < 16) (sym a.0.key) l;
        shared = a.0.key ∙ sym b.key;
        writes = λ z q. a.1 z;
      })

  writer-touches : (t : ℕ) → writer t ≡ true → touches (w.pieces t) k ≡ true
  writer-touches t e = let a = (writer-on t e).0 in on_touches (w.pieces t) k a.i a.small a.on

-- ---- two logs whose pairs in conflict stand in one order

module _ (w : World) (k : ℕ) (f : ℕ → ℕ) where
  abbrev Placed : List ℕ → Type 0
  Placed l = (t u : ℕ) → Earlier t u l → conflict k (w.pieces t) (w.pieces u) ≡ true → f t < f u

  abbrev SameWith : List ℕ → List ℕ → Type 0
  SameWith l m = (t : ℕ) → touches (w.pieces t) k ≡ true → Memᴰ t l → Memᴰ t m

  module _ (x : ℕ) (small : x < 16) where
    writers-rise : (l : List ℕ) → Placed l → Rises f (sift (writer w k x) l)
    writers-rise l p a b h =
        let wa = (sift_from (writer w k x) l a (earlier_fst h)).1 in
        let wb = (sift_from (writer w k x) l b (earlier_snd h)).1 in
        p a b (sift-earlier (writer w k x) l a b h) (clash w k x small a b wa (writer-on w k x b wb).0)

    same-value : (l m : List ℕ) → Placed l → Placed m →
        ((a : ℕ) → writer w k x a ≡ true → Memᴰ a l → Memᴰ a m) → ((a : ℕ) → writer w k x a ≡ true → Memᴰ a m → Memᴰ a l) →
        (v : Counter) → value w k x v l ≡ value w k x v m
    same-value l m pl pm lm ml v =
        value-sift w k x l v
        ∙ ap (value w k x v) (same_list f (sift (writer w k x) l) (sift (writer w k x) m) (writers-rise l pl) (writers-rise m pm)
        (λ a h. let r = sift_from (writer w k x) l a h in sift_in (writer w k x) m a (lm a r.1 r.0) r.1)
        (λ a h. let r = sift_from (writer w k x) m a h in sift_in (writer w k x) l a (ml a r.1 r.0) r.1))
        ∙ sym (value-sift w k x m v)

    -- a writer that stands before t in the one stands before it in the other
    before-too : (l m : List ℕ) → Placed l → Placed m → SameWith l m → (t : ℕ) → OnKey w k x t → Memᴰ t l → Memᴰ t m → (Earlier t t l → ⊥) → (Earlier t t m → ⊥) →
        (a : ℕ) → writer w k x a ≡ true → Memᴰ a (until t l) → Memᴰ a (until t m)
    before-too l m pl pm lm t o tl tm ol om a e h = until_in t m a om (go (one_earlier m a t ne (lm a (writer-touches w k x a e) (earlier_fst ea)) tm))
      where
        ea : Earlier a t l
        ea = until_from t l a tl h

        ne : a ≢ t
        ne z = ol (subst (λ a. Earlier a t l) z ea)

        cf : conflict k (w.pieces a) (w.pieces t) ≡ true
        cf = clash w k x small a t e o

        go : Earlier a t m ⊎ Earlier t a m → Earlier a t m
        go (inl z) = z
        go (inr z) = absurd (omega (arith, pl a t ea cf, pm t a z (conflict-turned k (w.pieces a) (w.pieces t) cf)))

-- ---- the counters and the results after two lists

replay-length : (w : World) (k : ℕ) (c : Counters) (l : List ℕ) → length (replay w k c l).list ≡ length c.list
unfolding replay
replay-length w k c [] = refl
replay-length w k c (t ∷ l) = replay-length w k (execute (w.pieces t) k c).counters l ∙ counters-length (w.pieces t) k c

pub equal-counters : (w : World) (c : Cluster) → Reached w c → EqualCounters w c
equal-counters w c r k s s' e e' sr = record { counters = counters; results = results }
  where
    W : List ℕ
    W = completed c.order 64

    oo : OneOrder w c
    oo = one_order w c r

    placed : (s : ℕ) → Placed w k (place W) (log_of c s)
    placed s t u h cf = earlier-place W oo.once t u (oo.runs s t u k h cf)

    once : (s t : ℕ) → Earlier t t (log_of c s) → ⊥
    once s t = (reached-logs w r s).once t

    init : Counters
    init = w.counters k

    rep : (s : ℕ) → home_of s ≡ k → Replayed w k (c.servers s)
    rep s e = subst (λ k. Replayed w k (c.servers s)) e (reached_replayed w r s)

    key_of : (x : ℕ) → x < 16 → (m : List ℕ) → counter_at (replay w k init m) x ≡ value w k x (counter_at init x) m
    key_of x h m = replay-key w k x m init (subst (λ n. x < n) (sym (w.sixteen k)) h)

    lists : (replay w k init (log_of c s)).list ≡ (replay w k init (log_of c s')).list
    lists = ext_get_or zeroed (replay w k init (log_of c s)).list (replay w k init (log_of c s')).list (replay-length w k init (log_of c s) ∙ sym (replay-length w k init (log_of c s'))) each
      where
        each : (x : ℕ) → x < length (replay w k init (log_of c s)).list → counter_at (replay w k init (log_of c s)) x ≡ counter_at (replay w k init (log_of c s')) x
        each x h =
            let q : x < 16 = subst (λ n. x < n) (replay-length w k init (log_of c s) ∙ w.sixteen k) h in
            key_of x q (log_of c s)
            ∙ same-value w k (place W) x q (log_of c s) (log_of c s') (placed s) (placed s') (λ a z. sr.here a (writer-touches w k x a z)) (λ a z. sr.there a (writer-touches w k x a z)) (counter_at init x)
            ∙ sym (key_of x q (log_of c s'))

    counters : (c.servers s).counters ≡ (c.servers s').counters
    counters = (rep s e).counters ∙ (λ i. record { list = lists i }) ∙ sym (rep s' e').counters

    results : (t : ℕ) → Memᴰ t (log_of c s) → Memᴰ t (log_of c s') → (record_at (c.servers s) t).values ≡ (record_at (c.servers s') t).values
    results t m m' = (rep s e).results t m ∙ same-results (w.pieces t) k A B (replay-length w k init (until t (log_of c s)) ∙ sym (replay-length w k init (until t (log_of c s')))) agree ∙ sym ((rep s' e').results t m')
      where
        A : Counters
        A = replay w k init (until t (log_of c s))

        B : Counters
        B = replay w k init (until t (log_of c s'))

        until-placed : (s : ℕ) → Placed w k (place W) (until t (log_of c s))
        until-placed s a b h = placed s a b (until-earlier t (log_of c s) a b h)

        agree : (i : ℕ) → i < 8 → on_shard (w.pieces t) k i ≡ true → counter_at A (piece_at (w.pieces t) i).key ≡ counter_at B (piece_at (w.pieces t) i).key
        agree i q o = go (dec_lt (piece_at (w.pieces t) i).key 16)
          where
            x : ℕ
            x = (piece_at (w.pieces t) i).key

            on : OnKey w k x t
            on = record { i = i; small = q; on = o; key = refl }

            past : (m : List ℕ) → 16 ≤ x → counter_at (replay w k init m) x ≡ zeroed
            past m h = get_or-eq_default (replay w k init m).list zeroed (subst (λ n. n ≤ x) (sym (replay-length w k init m ∙ w.sixteen k)) h)

            go : Dec (x < 16) → counter_at A x ≡ counter_at B x
            go (yes h) =
                key_of x h (until t (log_of c s))
                ∙ same-value w k (place W) x h (until t (log_of c s)) (until t (log_of c s')) (until-placed s) (until-placed s')
                (before-too w k (place W) x h (log_of c s) (log_of c s') (placed s) (placed s') sr.here t on m m' (once s t) (once s' t))
                (before-too w k (place W) x h (log_of c s') (log_of c s) (placed s') (placed s) sr.there t on m' m (once s' t) (once s t))
                (counter_at init x)
                ∙ sym (key_of x h (until t (log_of c s')))
            go (no h) = past (until t (log_of c s)) (omega arith) ∙ sym (past (until t (log_of c s')) (omega arith))
