-- A list of numbers run in the order of their dependencies: each committed, with all before it in the list; of two that depend both ways the lower first, else the one before first.
-- More commits keep it so, and so does an order of first runs that takes up such a list. Assumes nothing.
use mathlib.Core.Path.{◌≡◌, sym, ◌∙◌, subst}
use mathlib.Core.Logic.{◌⊎◌, inl, inr}
use mathlib.Core.List.Memᴰ
use mathlib.Core.List.{List, [], ◌∷◌, ◌++◌, append-nil, append_assoc, Memᴰ}
use Prim.Native.Nat.{ℕ, ◌<◌}
use native.Mathlib.Omega.{arith}
use lib.ListN.{get_or}
use Rattle.masks.specs.Bits.{In}
use Rattle.graph.specs.Before.{Before, direct, behind}
use Rattle.safety.specs.Orders.{Earlier, first, later, noting, firsts}
use Rattle.safety.proofs.Lists.{earlier_fst, earlier_snd, Split, earlier-split, one_earlier, Noted, there, added, noted}

pub record InOrder (deps : List ℕ) (C : ℕ → Type 0) (l : List ℕ) : Type 0 where
  pub committed : (t : ℕ) → Memᴰ t l → C t
  pub before : (t u : ℕ) → Memᴰ t l → Before deps u t → Memᴰ u l
  pub order : (t u : ℕ) → Earlier t u l → Before deps u t → Before deps t u × (t < u)
  pub once : (t : ℕ) → Earlier t t l → ⊥

-- ---- more commits

-- what is committed by deps is committed by deps' with the same words, and only what is committed has words
pub record More (deps deps' : List ℕ) (C C' : ℕ → Type 0) : Type 0 where
  pub still : (t : ℕ) → C t → C' t
  pub same : (t : ℕ) → C t → get_or deps' t 0 ≡ get_or deps t 0

module _ {deps deps' : List ℕ} {C C' : ℕ → Type 0} {l : List ℕ} (g : More deps deps' C C') (i : InOrder deps C l) where
  before-now : {u t : ℕ} → Memᴰ t l → Before deps u t → Before deps' u t
  before-now {u} {t} m (direct d) = direct (subst (λ w. In w u) (sym (g.same t (i.committed t m))) d)
  before-now {u} {t} m (behind {v = v} d b) = behind (subst (λ w. In w v) (sym (g.same t (i.committed t m))) d) (before-now (i.before t v m (direct d)) b)

  before-then : {u t : ℕ} → Memᴰ t l → Before deps' u t → Before deps u t
  before-then {u} {t} m (direct d) = direct (subst (λ w. In w u) (g.same t (i.committed t m)) d)
  before-then {u} {t} m (behind {v = v} d b) =
      let e : In (get_or deps t 0) v = subst (λ w. In w v) (g.same t (i.committed t m)) d in
      behind e (before-then (i.before t v m (direct e)) b)

  pub more-order : InOrder deps' C' l
  more-order = record {
    committed = λ t m. g.still t (i.committed t m);
    before = λ t u m h. i.before t u m (before-then m h);
    order = λ t u m h. let r = i.order t u m (before-then (earlier_fst m) h) in (before-now (earlier_snd m) r.0, r.1);
    once = i.once;
  }

-- ---- an order of first runs takes up a list

-- what is added to o comes from l, in l's order
record Adds (l o p : List ℕ) : Type 0 where
  rest : List ℕ
  is : p ≡ o ++ rest
  new : (t : ℕ) → Memᴰ t rest → Memᴰ t o → ⊥
  from : (t : ℕ) → Memᴰ t rest → Memᴰ t l
  earlier : (t u : ℕ) → Earlier t u rest → Earlier t u l
  all : (t : ℕ) → Memᴰ t l → Memᴰ t p

adds : (o l : List ℕ) → Adds l o (firsts o l)
unfolding firsts
adds o [] = record { rest = []; is = sym (append-nil o); new = λ t h. absurd (Memᴰ.not-nil h); from = λ t h. h; earlier = λ t u h. h; all = λ t h. absurd (Memᴰ.not-nil h) }
adds o (x ∷ l) = go (noted x o) (adds (noting x o) l)
  where
    go : {p : List ℕ} → Noted x o p → Adds l p (firsts p l) → Adds (x ∷ l) o (firsts p l)
    go (there k) a = record {
      rest = a.rest;
      is = a.is;
      new = a.new;
      from = λ t h. Memᴰ.tail (a.from t h);
      earlier = λ t u h. later (a.earlier t u h);
      all = λ t h. all t (Memᴰ.cases_cons h);
    }
      where
        all : (t : ℕ) → (t ≡ x) ⊎ Memᴰ t l → Memᴰ t (firsts o l)
        all t (inl e) = subst (λ x. Memᴰ x (firsts o l)) (sym e) (subst (Memᴰ x) (sym a.is) (Memᴰ.append_left a.rest k))
        all t (inr h) = a.all t h
    go (added n) a = record {
      rest = x ∷ a.rest;
      is = a.is ∙ append_assoc o (x ∷ []) a.rest;
      new = λ t h k. new t k (Memᴰ.cases_cons h);
      from = λ t h. from t (Memᴰ.cases_cons h);
      earlier = earlier;
      all = λ t h. all t (Memᴰ.cases_cons h);
    }
      where
        new : (t : ℕ) → Memᴰ t o → (t ≡ x) ⊎ Memᴰ t a.rest → ⊥
        new t k (inl e) = n (subst (λ y. Memᴰ y o) e k)
        new t k (inr h) = a.new t h (Memᴰ.append_left (x ∷ []) k)

        from : (t : ℕ) → (t ≡ x) ⊎ Memᴰ t a.rest → Memᴰ t (x ∷ l)
        from t (inl e) = Memᴰ.head e
        from t (inr h) = Memᴰ.tail (a.from t h)

        earlier : (t u : ℕ) → Earlier t u (x ∷ a.rest) → Earlier t u (x ∷ l)
        earlier t u (first e k) = first e (a.from u k)
        earlier t u (later h) = later (a.earlier t u h)

        all : (t : ℕ) → (t ≡ x) ⊎ Memᴰ t l → Memᴰ t (firsts (o ++ (x ∷ [])) l)
        all t (inl e) = subst (Memᴰ t) (sym a.is) (Memᴰ.append_left a.rest (Memᴰ.append_right o (Memᴰ.head e)))
        all t (inr h) = a.all t h

pub firsts-order : {deps : List ℕ} {C : ℕ → Type 0} (o l : List ℕ) → InOrder deps C o → InOrder deps C l → InOrder deps C (firsts o l)
firsts-order {deps} {C} o l i j = subst (InOrder deps C) (sym a.is) (record {
  committed = λ t m. committed t (Memᴰ.append_cases o m);
  before = λ t u m h. before t u h (Memᴰ.append_cases o m);
  order = λ t u m h. order t u h (earlier-split o a.rest m);
  once = λ t m. once t (earlier-split o a.rest m);
})
  where
    a : Adds l o (firsts o l)
    a = adds o l

    committed : (t : ℕ) → Memᴰ t o ⊎ Memᴰ t a.rest → C t
    committed t (inl m) = i.committed t m
    committed t (inr m) = j.committed t (a.from t m)

    before : (t u : ℕ) → Before deps u t → Memᴰ t o ⊎ Memᴰ t a.rest → Memᴰ u (o ++ a.rest)
    before t u h (inl m) = Memᴰ.append_left a.rest (i.before t u m h)
    before t u h (inr m) = subst (Memᴰ u) a.is (a.all u (j.before t u (a.from t m) h))

    order : (t u : ℕ) → Before deps u t → Split t u o a.rest → Before deps t u × (t < u)
    order t u h (inl m) = i.order t u m h
    order t u h (inr (inl m)) = absurd (a.new u m.1 (i.before t u m.0 h))
    order t u h (inr (inr m)) = j.order t u (a.earlier t u m) h

    once : (t : ℕ) → Split t t o a.rest → ⊥
    once t (inl m) = i.once t m
    once t (inr (inl m)) = a.new t m.1 m.0
    once t (inr (inr m)) = j.once t (a.earlier t t m)

-- ---- two such lists order their common pairs alike

pub same_order : {deps : List ℕ} {C : ℕ → Type 0} {l o : List ℕ} → InOrder deps C l → InOrder deps C o → (t u : ℕ) → Earlier t u l → Memᴰ t o → Memᴰ u o → Before deps t u ⊎ Before deps u t → Earlier t u o
same_order {deps} {C} {l} {o} i j t u m mt mu b = go (one_earlier o t u (λ e. i.once t (subst (λ x. Earlier t x l) (sym e) m)) mt mu)
  where
    turned : Earlier u t o → Before deps t u ⊎ Before deps u t → ⊥
    turned k (inl h) = let r = j.order u t k h in let q = i.order t u m r.0 in let a = r.1 in let b = q.1 in omega arith
    turned k (inr h) = let r = i.order t u m h in let q = j.order u t k r.0 in let a = r.1 in let b = q.1 in omega arith

    go : Earlier t u o ⊎ Earlier u t o → Earlier t u o
    go (inl k) = k
    go (inr k) = absurd (turned k b)
