-- What stands earlier in a list, and the lists that an order of first runs is made of. Assumes nothing.
use mathlib.Core.Path.{◌≡◌, refl, sym, ◌∙◌, ap, subst}
use mathlib.Core.Logic.{◌⊎◌, inl, inr, ◌≢◌}
use mathlib.Core.Bool.{Bool, true, false, cond, false≢true}
use mathlib.Core.List.Memᴰ
use mathlib.Core.List.{List, [], ◌∷◌, ◌++◌, append-nil, append_assoc, Memᴰ}
use Prim.Native.Nat.{ℕ, zero, suc, ◌<◌}
use native.Mathlib.Omega.{arith}
use native.Mathlib.Decide.{ℕ_discrete}
use borrow.Author.Tests.{eqb-true, eq-eqb}
use lib.Dec.{eqb}
use Rattle.masks.proofs.Bools.{or_yes, or_yes-l, or_yes_r, true_and_false}
use Rattle.safety.specs.Orders.{Earlier, first, later, listed, noting, firsts, completed}

pub earlier_fst : {a b : ℕ} {l : List ℕ} → Earlier a b l → Memᴰ a l
earlier_fst (first e m) = Memᴰ.head e
earlier_fst (later h) = Memᴰ.tail (earlier_fst h)

pub earlier_snd : {a b : ℕ} {l : List ℕ} → Earlier a b l → Memᴰ b l
earlier_snd (first e m) = Memᴰ.tail m
earlier_snd (later h) = Memᴰ.tail (earlier_snd h)

pub earlier_nil : {a b : ℕ} → Earlier a b [] → ⊥
earlier_nil h = elim h [ ]

-- ---- two lists, one after the other

abbrev pub Split : ℕ → ℕ → List ℕ → List ℕ → Type 0
Split a b l m = Earlier a b l ⊎ ((Memᴰ a l × Memᴰ b m) ⊎ Earlier a b m)

split-later : {a b x : ℕ} {l m : List ℕ} → Split a b l m → Split a b (x ∷ l) m
split-later (inl h) = inl (later h)
split-later (inr (inl h)) = inr (inl (Memᴰ.tail h.0, h.1))
split-later (inr (inr h)) = inr (inr h)

split_first : {a b x : ℕ} {l m : List ℕ} → a ≡ x → Memᴰ b l ⊎ Memᴰ b m → Split a b (x ∷ l) m
split_first e (inl k) = inl (first e k)
split_first e (inr k) = inr (inl (Memᴰ.head e, k))

pub earlier-split : {a b : ℕ} (l m : List ℕ) → Earlier a b (l ++ m) → Split a b l m
earlier-split [] m h = inr (inr h)
earlier-split (x ∷ l) m (first e k) = split_first e (Memᴰ.append_cases l k)
earlier-split (x ∷ l) m (later h) = split-later (earlier-split l m h)

pub earlier_left : {a b : ℕ} {l : List ℕ} (m : List ℕ) → Earlier a b l → Earlier a b (l ++ m)
earlier_left m (first e k) = first e (Memᴰ.append_left m k)
earlier_left m (later h) = later (earlier_left m h)

-- of two different members one is earlier
pub one_earlier : (l : List ℕ) (a b : ℕ) → a ≢ b → Memᴰ a l → Memᴰ b l → Earlier a b l ⊎ Earlier b a l
one_earlier [] a b n x3 _ = elim x3 [ ]
one_earlier (x ∷ l) a b n (Memᴰ.head e) (Memᴰ.head e') = absurd (n (e ∙ sym e'))
one_earlier (x ∷ l) a b n (Memᴰ.head e) (Memᴰ.tail k) = inl (first e k)
one_earlier (x ∷ l) a b n (Memᴰ.tail k) (Memᴰ.head e) = inr (first e k)
one_earlier (x ∷ l) a b n (Memᴰ.tail k) (Memᴰ.tail k') = go (one_earlier l a b n k k')
  where
    go : Earlier a b l ⊎ Earlier b a l → Earlier a b (x ∷ l) ⊎ Earlier b a (x ∷ l)
    go (inl h) = inl (later h)
    go (inr h) = inr (later h)

-- ---- t at the end, where it isn't in the list yet

pub listed_in : (t : ℕ) (l : List ℕ) → listed t l ≡ true → Memᴰ t l
unfolding listed
listed_in t [] e = absurd (false≢true e)
listed_in t (x ∷ l) e = go (or_yes (eqb t x) (listed t l) e) (listed_in t l)
  where
    go : (eqb t x ≡ true) ⊎ (listed t l ≡ true) → (listed t l ≡ true → Memᴰ t l) → Memᴰ t (x ∷ l)
    go (inl h) ih = Memᴰ.head (eqb-true t x h)
    go (inr h) ih = Memᴰ.tail (ih h)

pub in_listed : (t : ℕ) (l : List ℕ) → Memᴰ t l → listed t l ≡ true
unfolding listed
in_listed t [] x' = elim x' [ ]
in_listed t (x ∷ l) (Memᴰ.head e) = or_yes-l (eqb t x) (listed t l) (eq-eqb t x e)
in_listed t (x ∷ l) (Memᴰ.tail k) = or_yes_r (eqb t x) (listed t l) (in_listed t l k)

-- what noting does
pub data Noted (t : ℕ) (o : List ℕ) : List ℕ → Type 0 where
  there : Memᴰ t o → Noted t o o
  added : (Memᴰ t o → ⊥) → Noted t o (o ++ (t ∷ []))

pub noted : (t : ℕ) (o : List ℕ) → Noted t o (noting t o)
unfolding noting
noted t o = go (listed t o) refl
  where
    go : (b : Bool) → listed t o ≡ b → Noted t o (cond b o (o ++ (t ∷ [])))
    go true e = there (listed_in t o e)
    go false e = added (λ k. true_and_false (in_listed t o k) e)

pub noted_old : {t u : ℕ} {o p : List ℕ} → Noted t o p → Memᴰ u o → Memᴰ u p
noted_old (there k) h = h
noted_old {t} (added n) h = Memᴰ.append_left (t ∷ []) h

pub noted_new : {t : ℕ} {o p : List ℕ} → Noted t o p → Memᴰ t p
noted_new (there k) = k
noted_new {o = o} (added n) = Memᴰ.append_right o (Memᴰ.head refl)

pub noted_from : {t u : ℕ} {o p : List ℕ} → Noted t o p → Memᴰ u p → Memᴰ u o ⊎ (u ≡ t)
noted_from (there k) h = inl h
noted_from {t} {u} {o} (added n) h = go (Memᴰ.append_cases o h)
  where
    go : Memᴰ u o ⊎ Memᴰ u (t ∷ []) → Memᴰ u o ⊎ (u ≡ t)
    go (inl k) = inl k
    go (inr k) = inr (Memᴰ.eq_of_singleton k)

pub noted-earlier : {t a b : ℕ} {o p : List ℕ} → Noted t o p → Earlier a b o → Earlier a b p
noted-earlier (there k) h = h
noted-earlier {t} (added n) h = earlier_left (t ∷ []) h

pub noted-once : {t : ℕ} {o p : List ℕ} → Noted t o p → ((a : ℕ) → Earlier a a o → ⊥) → (a : ℕ) → Earlier a a p → ⊥
noted-once (there k) f a h = f a h
noted-once {t} {o} (added n) f a h = go (earlier-split o (t ∷ []) h)
  where
    go : Split a a o (t ∷ []) → ⊥
    go (inl k) = f a k
    go (inr (inl k)) = n (subst (λ x. Memᴰ x o) (Memᴰ.eq_of_singleton k.1) k.0)
    go (inr (inr (first e k))) = Memᴰ.not-nil k
    go (inr (inr (later k))) = earlier_nil k

pub noted-grows : {t : ℕ} {o p : List ℕ} → Noted t o p → (l : List ℕ) × (p ≡ o ++ l)
noted-grows {o = o} (there k) = ([], sym (append-nil o))
noted-grows {t} (added n) = (t ∷ [], refl)

-- ---- the order of first runs

pub firsts-grows : (o l : List ℕ) → (x : List ℕ) × (firsts o l ≡ o ++ x)
unfolding firsts
firsts-grows o [] = ([], sym (append-nil o))
firsts-grows o (t ∷ l) =
    let a = noted-grows (noted t o) in
    let b = firsts-grows (noting t o) l in
    (a.0 ++ b.0, b.1 ∙ ap (λ (z : List ℕ). z ++ b.0) a.1 ∙ append_assoc o a.0 b.0)

pub firsts_old : (o l : List ℕ) (u : ℕ) → Memᴰ u o → Memᴰ u (firsts o l)
unfolding firsts
firsts_old o [] u h = h
firsts_old o (t ∷ l) u h = firsts_old (noting t o) l u (noted_old (noted t o) h)

pub firsts_new : (o l : List ℕ) (u : ℕ) → Memᴰ u l → Memᴰ u (firsts o l)
unfolding firsts
firsts_new o [] u x' = elim x' [ ]
firsts_new o (t ∷ l) u (Memᴰ.head e) = firsts_old (noting t o) l u (subst (λ x. Memᴰ x (noting t o)) (sym e) (noted_new (noted t o)))
firsts_new o (t ∷ l) u (Memᴰ.tail k) = firsts_new (noting t o) l u k

-- what is in the order already does not move it
pub firsts-known : (o l : List ℕ) → ((t : ℕ) → Memᴰ t l → Memᴰ t o) → firsts o l ≡ o
unfolding firsts noting
firsts-known o [] f = refl
firsts-known o (t ∷ l) f = ap (λ (b : Bool). firsts (cond b o (o ++ (t ∷ []))) l) (in_listed t o (f t (Memᴰ.head refl))) ∙ firsts-known o l (λ u k. f u (Memᴰ.tail k))

pub firsts_from : (o l : List ℕ) (u : ℕ) → Memᴰ u (firsts o l) → Memᴰ u o ⊎ Memᴰ u l
unfolding firsts
firsts_from o [] u h = inl h
firsts_from o (t ∷ l) u h = go (firsts_from (noting t o) l u h)
  where
    was : Memᴰ u o ⊎ (u ≡ t) → Memᴰ u o ⊎ Memᴰ u (t ∷ l)
    was (inl k) = inl k
    was (inr e) = inr (Memᴰ.head e)

    go : Memᴰ u (noting t o) ⊎ Memᴰ u l → Memᴰ u o ⊎ Memᴰ u (t ∷ l)
    go (inl k) = was (noted_from (noted t o) k)
    go (inr k) = inr (Memᴰ.tail k)

-- ---- all numbers

pub completed-earlier : (o : List ℕ) (n a b : ℕ) → Earlier a b o → Earlier a b (completed o n)
unfolding completed
completed-earlier o zero a b h = h
completed-earlier o (suc n) a b h = noted-earlier (noted n (completed o n)) (completed-earlier o n a b h)

pub completed_all : (o : List ℕ) (n t : ℕ) → t < n → Memᴰ t (completed o n)
unfolding completed
completed_all o zero t l = absurd (omega arith)
completed_all o (suc n) t l = go (ℕ_discrete t n) (completed_all o n t)
  where
    go : Dec (t ≡ n) → (t < n → Memᴰ t (completed o n)) → Memᴰ t (noting n (completed o n))
    go (yes e) ih = subst (λ x. Memᴰ x (noting n (completed o n))) (sym e) (noted_new (noted n (completed o n)))
    go (no e) ih = noted_old (noted n (completed o n)) (ih (omega arith))

pub completed-once : (o : List ℕ) (n : ℕ) → ((a : ℕ) → Earlier a a o → ⊥) → (a : ℕ) → Earlier a a (completed o n) → ⊥
unfolding completed
completed-once o zero f = f
completed-once o (suc n) f = noted-once (noted n (completed o n)) (completed-once o n f)

completed_from : (o : List ℕ) (n t : ℕ) → Memᴰ t (completed o n) → Memᴰ t o ⊎ (t < n)
unfolding completed
completed_from o zero t h = inl h
completed_from o (suc n) t h = go (noted_from (noted n (completed o n)) h) (completed_from o n t)
  where
    up : Memᴰ t o ⊎ (t < n) → Memᴰ t o ⊎ (t < suc n)
    up (inl k) = inl k
    up (inr l) = inr (omega arith)

    go : Memᴰ t (completed o n) ⊎ (t ≡ n) → (Memᴰ t (completed o n) → Memᴰ t o ⊎ (t < n)) → Memᴰ t o ⊎ (t < suc n)
    go (inl k) ih = up (ih k)
    go (inr e) ih = inr (omega arith)

pub completed-only : (o : List ℕ) (n : ℕ) → ((t : ℕ) → Memᴰ t o → t < n) → (t : ℕ) → Memᴰ t (completed o n) → t < n
completed-only o n f t h = go (completed_from o n t h)
  where
    go : Memᴰ t o ⊎ (t < n) → t < n
    go (inl k) = f t k
    go (inr l) = l

pub completed-grows : (o : List ℕ) (n : ℕ) → (l : List ℕ) × (completed o n ≡ o ++ l)
unfolding completed
completed-grows o zero = ([], sym (append-nil o))
completed-grows o (suc n) =
    let a = completed-grows o n in
    let b = noted-grows (noted n (completed o n)) in
    (a.0 ++ b.0, b.1 ∙ ap (λ (z : List ℕ). z ++ b.0) a.1 ∙ append_assoc o a.0 b.0)
