-- Lists that rise in one order with the same members are one list; the members that pass a test; what stands before a member. Assumes nothing.
use mathlib.Core.Path.{◌≡◌, refl, sym, ◌∙◌, ap, subst}
use mathlib.Core.Logic.{◌⊎◌, inl, inr, ◌≢◌}
use mathlib.Core.Bool.{Bool, true, false, cond}
use mathlib.Core.List.Memᴰ
use mathlib.Core.List.{List, [], ◌∷◌, ◌++◌, Memᴰ}
use Prim.Native.Nat.{ℕ, suc, ◌<◌}
use native.Mathlib.Omega.{arith}
use borrow.Author.Tests.{eq-eqb, ne_eqb}
use lib.Dec.{eqb}
use Rattle.masks.proofs.Bools.{true_and_false}
use Rattle.safety.specs.Orders.{Earlier, first, later}
use Rattle.safety.proofs.Lists.{earlier_fst, earlier_snd, earlier_nil}

-- ---- the place of a number in a list

unfoldable pub place : List ℕ → ℕ → ℕ
place [] t = 0
place (x ∷ l) t = cond (eqb t x) 0 (suc (place l t))

pub earlier-place : (l : List ℕ) → ((t : ℕ) → Earlier t t l → ⊥) → (a b : ℕ) → Earlier a b l → place l a < place l b
unfolding place
earlier-place [] f a b x'' = elim x'' [ ]
earlier-place (x ∷ l) f a b (first e k) =
    let n : b ≢ x = λ z. f x (first refl (subst (λ y. Memᴰ y l) z k)) in
    rw (eq-eqb a x e, ne_eqb b x n) (omega arith)
earlier-place (x ∷ l) f a b (later h) =
    let na : a ≢ x = λ z. f x (first refl (subst (λ y. Memᴰ y l) z (earlier_fst h))) in
    let nb : b ≢ x = λ z. f x (first refl (subst (λ y. Memᴰ y l) z (earlier_snd h))) in
    let ih = earlier-place l (λ t k. f t (later k)) a b h in
    rw (ne_eqb a x na, ne_eqb b x nb) (omega arith)

-- ---- one list

abbrev pub Rises : (ℕ → ℕ) → List ℕ → Type 0
Rises f l = (a b : ℕ) → Earlier a b l → f a < f b

abbrev pub Within : List ℕ → List ℕ → Type 0
Within l m = (a : ℕ) → Memᴰ a l → Memᴰ a m

tail_within : (f : ℕ → ℕ) (x y : ℕ) (l m : List ℕ) → Rises f (x ∷ l) → x ≡ y → Within (x ∷ l) (y ∷ m) → Within l m
tail_within f x y l m r e w a k = go (Memᴰ.cases_cons (w a (Memᴰ.tail k)))
  where
    go : (a ≡ y) ⊎ Memᴰ a m → Memᴰ a m
    go (inr h) = h
    go (inl h) = absurd (omega (arith, r x a (first refl k), ap f (h ∙ sym e)))

pub same_list : (f : ℕ → ℕ) (l m : List ℕ) → Rises f l → Rises f m → Within l m → Within m l → l ≡ m
same_list f [] [] r s w w' = refl
same_list f [] (y ∷ m) r s w w' = absurd (Memᴰ.not-nil (w' y (Memᴰ.head refl)))
same_list f (x ∷ l) [] r s w w' = absurd (Memᴰ.not-nil (w x (Memᴰ.head refl)))
same_list f (x ∷ l) (y ∷ m) r s w w' = join (head (Memᴰ.cases_cons (w x (Memᴰ.head refl))) (Memᴰ.cases_cons (w' y (Memᴰ.head refl)))) (same_list f l m (λ a b h. r a b (later h)) (λ a b h. s a b (later h)))
  where
    head : (x ≡ y) ⊎ Memᴰ x m → (y ≡ x) ⊎ Memᴰ y l → x ≡ y
    head (inl e) q = e
    head (inr p) (inl e) = sym e
    head (inr p) (inr q) = absurd (omega (arith, r x y (first refl q), s y x (first refl p)))

    join : x ≡ y → (Within l m → Within m l → l ≡ m) → ◌≡◌ {A = List ℕ} (x ∷ l) (y ∷ m)
    join e ih = λ i. e i ∷ ih (tail_within f x y l m r e w) (tail_within f y x m l s (sym e) w') i

-- ---- the members that pass a test

unfoldable pub sift : (ℕ → Bool) → List ℕ → List ℕ
sift g [] = []
sift g (x ∷ l) = cond (g x) (x ∷ sift g l) (sift g l)

pub sift_from : (g : ℕ → Bool) (l : List ℕ) (a : ℕ) → Memᴰ a (sift g l) → Memᴰ a l × (g a ≡ true)
unfolding sift
sift_from g [] a k = absurd (Memᴰ.not-nil k)
sift_from g (x ∷ l) a k = go (g x) refl k (sift_from g l a)
  where
    go : (b : Bool) → g x ≡ b → Memᴰ a (cond b (x ∷ sift g l) (sift g l)) → (Memᴰ a (sift g l) → Memᴰ a l × (g a ≡ true)) → Memᴰ a (x ∷ l) × (g a ≡ true)
    go true e k ih = pick (Memᴰ.cases_cons k)
      where
        pick : (a ≡ x) ⊎ Memᴰ a (sift g l) → Memᴰ a (x ∷ l) × (g a ≡ true)
        pick (inl z) = (Memᴰ.head z, ap g z ∙ e)
        pick (inr z) = let r = ih z in (Memᴰ.tail r.0, r.1)
    go false e k ih = let r = ih k in (Memᴰ.tail r.0, r.1)

pub sift_in : (g : ℕ → Bool) (l : List ℕ) (a : ℕ) → Memᴰ a l → g a ≡ true → Memᴰ a (sift g l)
unfolding sift
sift_in g [] a x'' h = elim x'' [ ]
sift_in g (x ∷ l) a (Memᴰ.head e) h = subst (λ (b : Bool). Memᴰ a (cond b (x ∷ sift g l) (sift g l))) (sym (ap g (sym e) ∙ h)) (Memᴰ.head e)
sift_in g (x ∷ l) a (Memᴰ.tail k) h = go (g x) (sift_in g l a k h)
  where
    go : (b : Bool) → Memᴰ a (sift g l) → Memᴰ a (cond b (x ∷ sift g l) (sift g l))
    go true q = Memᴰ.tail q
    go false q = q

pub sift-earlier : (g : ℕ → Bool) (l : List ℕ) (a b : ℕ) → Earlier a b (sift g l) → Earlier a b l
unfolding sift
sift-earlier g [] a b h = h
sift-earlier g (x ∷ l) a b h = go (g x) h (sift-earlier g l a b)
  where
    go : (c : Bool) → Earlier a b (cond c (x ∷ sift g l) (sift g l)) → (Earlier a b (sift g l) → Earlier a b l) → Earlier a b (x ∷ l)
    go true (first e k) ih = first e (sift_from g l b k).0
    go true (later k) ih = later (ih k)
    go false k ih = later (ih k)

-- ---- what stands before t

unfoldable pub until : ℕ → List ℕ → List ℕ
until t [] = []
until t (x ∷ l) = cond (eqb x t) [] (x ∷ until t l)

pub until_old : (t : ℕ) (l m : List ℕ) → Memᴰ t l → until t (l ++ m) ≡ until t l
unfolding until
until_old t [] m x' = elim x' [ ]
until_old t (x ∷ l) m (Memᴰ.head e) = rw (eq-eqb x t (sym e)) refl
until_old t (x ∷ l) m (Memᴰ.tail k) = ap (λ (z : List ℕ). cond (eqb x t) [] (x ∷ z)) (until_old t l m k)

pub until_new : (t : ℕ) (l m : List ℕ) → (Memᴰ t l → ⊥) → until t (l ++ (t ∷ m)) ≡ l
unfolding until
until_new t [] m n = rw (eq-eqb t t refl) refl
until_new t (x ∷ l) m n =
    ap (λ (b : Bool). cond b [] (x ∷ until t (l ++ (t ∷ m)))) (ne_eqb x t (λ e. n (Memᴰ.head (sym e))))
    ∙ ap (λ (z : List ℕ). x ∷ z) (until_new t l m (λ k. n (Memᴰ.tail k)))

pub until-mem : (t : ℕ) (l : List ℕ) (a : ℕ) → Memᴰ a (until t l) → Memᴰ a l
unfolding until
until-mem t [] a k = k
until-mem t (x ∷ l) a k = go (eqb x t) k (until-mem t l a)
  where
    pick : (a ≡ x) ⊎ Memᴰ a (until t l) → (Memᴰ a (until t l) → Memᴰ a l) → Memᴰ a (x ∷ l)
    pick (inl e) ih = Memᴰ.head e
    pick (inr h) ih = Memᴰ.tail (ih h)

    go : (b : Bool) → Memᴰ a (cond b [] (x ∷ until t l)) → (Memᴰ a (until t l) → Memᴰ a l) → Memᴰ a (x ∷ l)
    go true k ih = absurd (Memᴰ.not-nil k)
    go false k ih = pick (Memᴰ.cases_cons k) ih

pub until-earlier : (t : ℕ) (l : List ℕ) (a b : ℕ) → Earlier a b (until t l) → Earlier a b l
unfolding until
until-earlier t [] a b h = h
until-earlier t (x ∷ l) a b h = go (eqb x t) h (until-earlier t l a b)
  where
    go : (c : Bool) → Earlier a b (cond c [] (x ∷ until t l)) → (Earlier a b (until t l) → Earlier a b l) → Earlier a b (x ∷ l)
    go true h ih = absurd (earlier_nil h)
    go false (first e k) ih = first e (until-mem t l b k)
    go false (later k) ih = later (ih k)

pub until_from : (t : ℕ) (l : List ℕ) (a : ℕ) → Memᴰ t l → Memᴰ a (until t l) → Earlier a t l
unfolding until
until_from t [] a m k = absurd (Memᴰ.not-nil m)
until_from t (x ∷ l) a m k = go (eqb x t) refl k (until_from t l a)
  where
    pick : eqb x t ≡ false → (a ≡ x) ⊎ Memᴰ a (until t l) → (t ≡ x) ⊎ Memᴰ t l → (Memᴰ t l → Memᴰ a (until t l) → Earlier a t l) → Earlier a t (x ∷ l)
    pick e h (inl z) ih = absurd (true_and_false (eq-eqb x t (sym z)) e)
    pick e (inl z) (inr q) ih = first z q
    pick e (inr z) (inr q) ih = later (ih q z)

    go : (b : Bool) → eqb x t ≡ b → Memᴰ a (cond b [] (x ∷ until t l)) → (Memᴰ t l → Memᴰ a (until t l) → Earlier a t l) → Earlier a t (x ∷ l)
    go true e k ih = absurd (Memᴰ.not-nil k)
    go false e k ih = pick e (Memᴰ.cases_cons k) (Memᴰ.cases_cons m) ih

pub until_in : (t : ℕ) (l : List ℕ) (a : ℕ) → (Earlier t t l → ⊥) → Earlier a t l → Memᴰ a (until t l)
unfolding until
until_in t [] a n x'' = elim x'' [ ]
until_in t (x ∷ l) a n (first e k) = subst (λ (b : Bool). Memᴰ a (cond b [] (x ∷ until t l))) (sym (ne_eqb x t (λ z. n (first (sym z) k)))) (Memᴰ.head e)
until_in t (x ∷ l) a n (later h) = subst (λ (b : Bool). Memᴰ a (cond b [] (x ∷ until t l))) (sym (ne_eqb x t (λ z. n (first (sym z) (earlier_snd h))))) (Memᴰ.tail (until_in t l a (λ z. n (later z)) h))
