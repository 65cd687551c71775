-- Each server's log is in the order of its dependencies, and runs keep it so. Assumes nothing.
use mathlib.Core.Path.{◌≡◌, refl, sym, ◌∙◌, ap, subst}
use mathlib.Core.Logic.{◌⊎◌, inl, inr}
use mathlib.Core.Bool.{Bool, true, false, cond}
use mathlib.Core.List.Memᴰ
use mathlib.Core.List.{List, [], ◌∷◌, ◌++◌, Memᴰ}
use Prim.Native.Nat.{ℕ, zero, suc, ◌≤◌, ◌<◌}
use native.Mathlib.Omega.{arith}
use lib.ListN.{length, get_or, take}
use Rattle.masks.specs.Bits.{In, has}
use Rattle.masks.proofs.Bools.{true_and_false}
use Rattle.masks.proofs.Laws.{has_in}
use Rattle.graph.specs.Before.{Before}
use Rattle.graph.specs.Walk.{rows_of, first_ready}
use Rattle.graph.proofs.Rows.{trans}
use Rattle.graph.proofs.Groups.{group_of}
use Rattle.graph.proofs.NextGroups.{next-runs}
use Rattle.rules.specs.declared.MaybeSet.{MaybeSet}
use Rattle.rules.specs.Flags.{there}
use Rattle.server.specs.declared.Log.{Log}
use Rattle.server.specs.declared.Server.{Server}
use Rattle.server.specs.Held.{committed_at, committed_word, ran_word}
use Rattle.server.specs.Form.{formed}
use Rattle.server.specs.Run.{deps_of, next_run, run_group, turn, ran_none, run, turns, ran_from, run_all}
use Rattle.server.proofs.FormParts.{Formed, logged-some, some-logged}
use Rattle.server.proofs.LogGrows.{Lined, log_word}
use Rattle.server.proofs.RunGroups.{group-deps}
use Rattle.server.proofs.RunTurns.{turns-keep}
use Rattle.server.proofs.RunsOneByOne.{rising}
use Rattle.server.proofs.RunKeepsForm.{Memory, Sound, next-committed, next-unrun, group_sound, way, in-log, log-in, kept-after, same-committed}
use Rattle.safety.specs.Orders.{entries, Earlier, first, later}
use Rattle.safety.proofs.Lists.{earlier_fst, earlier_snd, earlier_nil, Split, earlier-split}
use Rattle.safety.proofs.Places.{take-mem, mem-take}
use Rattle.safety.proofs.LogsInOrder.{InOrder, more-order}

-- ---- the numbers of a word, rising

snoc : (b : Bool) (g n t : ℕ) → has g n ≡ b → Memᴰ t (cond b (rising g n ++ (n ∷ [])) (rising g n)) → Memᴰ t (rising g n) ⊎ ((t ≡ n) × (has g n ≡ true))
snoc true g n t e k = go (Memᴰ.append_cases (rising g n) k)
  where
    go : Memᴰ t (rising g n) ⊎ Memᴰ t (n ∷ []) → Memᴰ t (rising g n) ⊎ ((t ≡ n) × (has g n ≡ true))
    go (inl h) = inl h
    go (inr h) = inr (Memᴰ.eq_of_singleton h, e)
snoc false g n t e k = inl k

pub rising_from : (g n t : ℕ) → Memᴰ t (rising g n) → (t < n) × (has g t ≡ true)
unfolding rising
rising_from g zero t k = absurd (Memᴰ.not-nil k)
rising_from g (suc n) t k = go (snoc (has g n) g n t refl k) (rising_from g n t)
  where
    go : Memᴰ t (rising g n) ⊎ ((t ≡ n) × (has g n ≡ true)) → (Memᴰ t (rising g n) → (t < n) × (has g t ≡ true)) → (t < suc n) × (has g t ≡ true)
    go (inl h) ih = let r = ih h in let l = r.0 in (omega arith, r.1)
    go (inr h) ih = let e = h.0 in (omega arith, subst (λ x. has g x ≡ true) (sym e) h.1)

pub rising-earlier : (g n a b : ℕ) → Earlier a b (rising g n) → a < b
unfolding rising
rising-earlier g zero a b h = absurd (earlier_nil h)
rising-earlier g (suc n) a b h = go (has g n) h (rising-earlier g n a b)
  where
    pick : Split a b (rising g n) (n ∷ []) → (Earlier a b (rising g n) → a < b) → a < b
    pick (inl k) ih = ih k
    pick (inr (inl k)) ih = let e = Memᴰ.eq_of_singleton k.1 in let l = (rising_from g n a k.0).0 in omega arith
    pick (inr (inr (first e k))) ih = absurd (Memᴰ.not-nil k)
    pick (inr (inr (later k))) ih = absurd (earlier_nil k)

    go : (c : Bool) → Earlier a b (cond c (rising g n ++ (n ∷ [])) (rising g n)) → (Earlier a b (rising g n) → a < b) → a < b
    go true k ih = pick (earlier-split (rising g n) (n ∷ []) k) ih
    go false k ih = ih k

-- ---- a log as a list and as a word

module _ (l : Log) (li : Lined l) where
  pub entries-word : (t : ℕ) → Memᴰ t (entries l) → has (log_word l) t ≡ true
  unfolding entries
  entries-word t k = let r = take-mem l.list l.count t k in let q = li.small r.0 r.1 in let e = r.3 in some-logged l l.count t r.0 r.1 r.3 (omega arith)

  pub word-entries : length l.list ≡ 64 → l.count ≤ 64 → (t : ℕ) → has (log_word l) t ≡ true → Memᴰ t (entries l)
  unfolding entries
  word-entries z c t e = let r = logged-some l l.count t e in let q = r.1 in subst (λ x. Memᴰ x (take l.count l.list)) r.2 (mem-take l.list l.count r.0 r.1 (omega arith))

-- ---- a run

abbrev pub Holds : Server → ℕ → Type 0
Holds z t = committed_at z t ≡ true

-- a server in form whose log is in order
pub record Orderly (z : Server) : Type 0 where
  pub sound : Sound z
  pub order : InOrder (deps_of z) (Holds z) (entries z.log)

module _ (z : Server) (h : Orderly z) where
  abbrev M : Memory z
  M = h.sound.memory

  abbrev F : Formed z
  F = h.sound.form

  abbrev G : ℕ
  G = next_run z

  abbrev Z' : Server
  Z' = run_group z (next_run z)

  lined : Lined z.log
  lined = record { small = λ i l. (F.entries i l).small; new = λ i l. (F.entries i l).new }

  entries_more : entries Z'.log ≡ entries z.log ++ rising (next_run z) 64
  unfolding entries
  entries_more = (way z M F).listed

  group-new : (t : ℕ) → Memᴰ t (rising (next_run z) 64) → Memᴰ t (entries z.log) → ⊥
  group-new t k m = true_and_false (entries-word z.log lined t m) (next-unrun z M F t (rising_from (next_run z) 64 t k).1)

  -- any two of the group are before each other
  both_ways : (t u : ℕ) → has (next_run z) t ≡ true → has (next_run z) u ≡ true → t < u → Before (deps_of z) t u
  unfolding next_run
  both_ways t u a b l =
      let r = next-runs (deps_of z) M.words (committed_word z) (ran_word z) t (has_in a) in
      go (group_of (deps_of z) M.words (first_ready (rows_of (deps_of z)) (committed_word z) (ran_word z)) t (subst (λ w. In w t) r.whole (has_in a)))
      (group_of (deps_of z) M.words (first_ready (rows_of (deps_of z)) (committed_word z) (ran_word z)) u (subst (λ w. In w u) r.whole (has_in b)))
    where
      L : ℕ
      L = first_ready (rows_of (deps_of z)) (committed_word z) (ran_word z)

      go : (t ≡ L) ⊎ (Before (deps_of z) t L × Before (deps_of z) L t) → (u ≡ L) ⊎ (Before (deps_of z) u L × Before (deps_of z) L u) → Before (deps_of z) t u
      go (inl e) (inl e') = absurd (omega (arith, e, e'))
      go (inl e) (inr q) = subst (λ x. Before (deps_of z) x u) (sym e) q.1
      go (inr p) (inl e) = subst (λ x. Before (deps_of z) t x) (sym e) p.0
      go (inr p) (inr q) = trans q.1 p.0

  order-more : InOrder (deps_of z) (Holds z) (entries z.log ++ rising (next_run z) 64)
  order-more = record {
    committed = λ t m. committed t (Memᴰ.append_cases (entries z.log) m);
    before = before;
    order = λ t u m b. order t u b (earlier-split (entries z.log) (rising (next_run z) 64) m);
    once = λ t m. once t (earlier-split (entries z.log) (rising (next_run z) 64) m);
  }
    where
      committed : (t : ℕ) → Memᴰ t (entries z.log) ⊎ Memᴰ t (rising (next_run z) 64) → Holds z t
      committed t (inl m) = h.order.committed t m
      committed t (inr m) = next-committed z M F t (rising_from (next_run z) 64 t m).1

      S : Sound Z'
      S = group_sound z h.sound

      lined' : Lined Z'.log
      lined' = record { small = λ i l. (S.form.entries i l).small; new = λ i l. (S.form.entries i l).new }

      before : (t u : ℕ) → Memᴰ t (entries z.log ++ rising (next_run z) 64) → Before (deps_of z) u t → Memᴰ u (entries z.log ++ rising (next_run z) 64)
      before t u m b =
          let a = in-log z M F t (entries-word Z'.log lined' t (subst (Memᴰ t) (sym entries_more) m)) in
          subst (Memᴰ u) entries_more (word-entries Z'.log lined' S.memory.log S.form.count u (log-in z M F u ((kept-after z M F).behind t u a b)))

      order : (t u : ℕ) → Before (deps_of z) u t → Split t u (entries z.log) (rising (next_run z) 64) → Before (deps_of z) t u × (t < u)
      order t u b (inl m) = h.order.order t u m b
      order t u b (inr (inl m)) = absurd (group-new u m.1 (h.order.before t u m.0 b))
      order t u b (inr (inr m)) =
          let l = rising-earlier (next_run z) 64 t u m in
          (both_ways t u (rising_from (next_run z) 64 t (earlier_fst m)).1 (rising_from (next_run z) 64 u (earlier_snd m)).1 l, l)

      once : (t : ℕ) → Split t t (entries z.log) (rising (next_run z) 64) → ⊥
      once t (inl m) = h.order.once t m
      once t (inr (inl m)) = group-new t m.1 m.0
      once t (inr (inr m)) = let l = rising-earlier (next_run z) 64 t t m in omega arith

  pub group-orderly : Orderly Z'
  group-orderly = record {
    sound = group_sound z h.sound;
    order = subst (InOrder (deps_of Z') (Holds Z')) (sym entries_more)
        (more-order (record { still = λ t e. ap (λ (v : MaybeSet). there v.some) (same-committed z M F t) ∙ e; same = λ t e. ap (λ (d : List ℕ). get_or d t 0) (group-deps z (next_run z)) }) order-more);
  }

pub run_orderly : (z : Server) → Orderly z → Orderly (run z).server
unfolding run turn
run_orderly z h = go (formed z)
  where
    go : (b : Bool) → Orderly (cond b (turn z (next_run z)) (ran_none z 13)).server
    go true = group-orderly z h
    go false = h

pub run_all_orderly : (z : Server) → Orderly z → Orderly (run_all z).server
unfolding run_all
run_all_orderly z h = go (formed z)
  where
    go : (b : Bool) → Orderly (cond b (ran_from z (turns 64 z)) (ran_none z 13)).server
    go true = turns-keep Orderly group-orderly 64 z h
    go false = h
