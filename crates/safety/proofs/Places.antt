-- Places in a list: what stands at a place is in the list, and what stands at an earlier place stands earlier; a list in which each number below n stands once, and no other, has n places. Assumes nothing.
use mathlib.Core.Path.{◌≡◌, refl, sym, ◌∙◌, ap, subst}
use mathlib.Core.Logic.{◌⊎◌, inl, inr}
use mathlib.Core.Bool.{cond}
use mathlib.Core.List.Memᴰ
use mathlib.Core.List.{List, [], ◌∷◌, Memᴰ}
use Prim.Native.Nat.{ℕ, zero, suc, ◌+◌, ◌<◌}
use native.Mathlib.Omega.{arith}
use native.Mathlib.Decide.{dec_lt, ℕ_discrete}
use borrow.Author.Tests.{lt-ltb, le-ltb, eq-eqb, ne_eqb}
use lib.Dec.{ltb, eqb}
use lib.ListN.{length, get_or, take}
use Rattle.safety.specs.Orders.{Earlier, first, later}

pub place-mem : (l : List ℕ) (d p : ℕ) → p < length l → Memᴰ (get_or l p d) l
place-mem [] d p h = absurd (omega arith)
place-mem (x ∷ l) d zero h = Memᴰ.head refl
place-mem (x ∷ l) d (suc p) h = Memᴰ.tail (place-mem l d p (omega arith))

pub mem-place : (l : List ℕ) (d t : ℕ) → Memᴰ t l → (p : ℕ) × (p < length l) × (get_or l p d ≡ t)
mem-place [] d t x' = elim x' [ ]
mem-place (x ∷ l) d t (Memᴰ.head e) = (0, omega arith, sym e)
mem-place (x ∷ l) d t (Memᴰ.tail k) = let r = mem-place l d t k in let h = r.1 in (suc r.0, omega arith, r.2)

pub place-earlier : (l : List ℕ) (d p q : ℕ) → p < q → q < length l → Earlier (get_or l p d) (get_or l q d) l
place-earlier [] d p q h k = absurd (omega arith)
place-earlier (x ∷ l) d p zero h k = absurd (omega arith)
place-earlier (x ∷ l) d zero (suc q) h k = first refl (place-mem l d q (omega arith))
place-earlier (x ∷ l) d (suc p) (suc q) h k = later (place-earlier l d p q (omega arith) (omega arith))

pub earlier-places : (l : List ℕ) (d a b : ℕ) → Earlier a b l → (p : ℕ) × (q : ℕ) × (p < q) × (q < length l) × (get_or l p d ≡ a) × (get_or l q d ≡ b)
earlier-places [] d a b x' = elim x' [ ]
earlier-places (x ∷ l) d a b (first e k) = let r = mem-place l d b k in let h = r.1 in (0, suc r.0, omega arith, omega arith, sym e, r.2)
earlier-places (x ∷ l) d a b (later h) = let r = earlier-places l d a b h in let i = r.2 in let j = r.3 in (suc r.0, suc r.1, omega arith, omega arith, r.4, r.5)

-- where nothing stands twice, a number has one place
pub one_place : (l : List ℕ) → ((t : ℕ) → Earlier t t l → ⊥) → (d p q : ℕ) → p < length l → q < length l → get_or l p d ≡ get_or l q d → p ≡ q
one_place l f d p q h k e = go (dec_lt p q) (dec_lt q p)
  where
    go : Dec (p < q) → Dec (q < p) → p ≡ q
    go (yes i) j = absurd (f (get_or l q d) (subst (λ x. Earlier x (get_or l q d) l) e (place-earlier l d p q i k)))
    go (no i) (yes j) = absurd (f (get_or l p d) (subst (λ x. Earlier x (get_or l p d) l) (sym e) (place-earlier l d q p j h)))
    go (no i) (no j) = omega arith

-- ---- the first n places

pub take-mem : (l : List ℕ) (n t : ℕ) → Memᴰ t (take n l) → (i : ℕ) × (i < n) × (i < length l) × (get_or l i 0 ≡ t)
take-mem l zero t k = absurd (Memᴰ.not-nil k)
take-mem [] (suc n) t k = absurd (Memᴰ.not-nil k)
take-mem (x ∷ l) (suc n) t k = go (Memᴰ.cases_cons k) (take-mem l n t)
  where
    go : (t ≡ x) ⊎ Memᴰ t (take n l) → (Memᴰ t (take n l) → (i : ℕ) × (i < n) × (i < length l) × (get_or l i 0 ≡ t)) → (i : ℕ) × (i < suc n) × (i < length (x ∷ l)) × (get_or (x ∷ l) i 0 ≡ t)
    go (inl e) ih = (0, omega arith, omega arith, sym e)
    go (inr h) ih = let r = ih h in let a = r.1 in let b = r.2 in (suc r.0, omega arith, omega arith, r.3)

pub mem-take : (l : List ℕ) (n i : ℕ) → i < n → i < length l → Memᴰ (get_or l i 0) (take n l)
mem-take l zero i h q = absurd (omega arith)
mem-take [] (suc n) i h q = absurd (omega arith)
mem-take (x ∷ l) (suc n) zero h q = Memᴰ.head refl
mem-take (x ∷ l) (suc n) (suc i) h q = Memᴰ.tail (mem-take l n i (omega arith) (omega arith))

pub take-earlier : (l : List ℕ) (n i j : ℕ) → i < j → j < n → j < length l → Earlier (get_or l i 0) (get_or l j 0) (take n l)
take-earlier l zero i j h k q = absurd (omega arith)
take-earlier [] (suc n) i j h k q = absurd (omega arith)
take-earlier (x ∷ l) (suc n) i zero h k q = absurd (omega arith)
take-earlier (x ∷ l) (suc n) zero (suc j) h k q = first refl (mem-take l n j (omega arith) (omega arith))
take-earlier (x ∷ l) (suc n) (suc i) (suc j) h k q = later (take-earlier l n i j (omega arith) (omega arith) (omega arith))

-- ---- how long a list of all numbers is

-- how many members are below n, and how often t is a member
below : ℕ → List ℕ → ℕ
below n [] = 0
below n (x ∷ l) = cond (ltb x n) (suc (below n l)) (below n l)

times : ℕ → List ℕ → ℕ
times t [] = 0
times t (x ∷ l) = cond (eqb t x) (suc (times t l)) (times t l)

below_more : (n : ℕ) (l : List ℕ) → below (suc n) l ≡ below n l + times n l
unfolding below times
below_more n [] = refl
below_more n (x ∷ l) = go (dec_lt x n) (ℕ_discrete n x) (below_more n l)
  where
    go : Dec (x < n) → Dec (n ≡ x) → below (suc n) l ≡ below n l + times n l → cond (ltb x (suc n)) (suc (below (suc n) l)) (below (suc n) l) ≡ cond (ltb x n) (suc (below n l)) (below n l) + cond (eqb n x) (suc (times n l)) (times n l)
    go (yes h) (yes e) ih = absurd (omega arith)
    go (yes h) (no e) ih = rw (lt-ltb x (suc n) (omega arith), lt-ltb x n h, ne_eqb n x e) (omega arith)
    go (no h) (yes e) ih = rw (lt-ltb x (suc n) (omega arith), le-ltb x n (omega arith), eq-eqb n x e) (omega arith)
    go (no h) (no e) ih = rw (le-ltb x (suc n) (omega arith), le-ltb x n (omega arith), ne_eqb n x e) ih

never : (t : ℕ) (l : List ℕ) → (Memᴰ t l → ⊥) → times t l ≡ 0
unfolding times
never t [] f = refl
never t (x ∷ l) f = rw (ne_eqb t x (λ e. f (Memᴰ.head e))) (never t l (λ k. f (Memᴰ.tail k)))

once : (t : ℕ) (l : List ℕ) → (Earlier t t l → ⊥) → Memᴰ t l → times t l ≡ 1
unfolding times
once t [] f x'' = elim x'' [ ]
once t (x ∷ l) f (Memᴰ.head e) = rw (eq-eqb t x e) (ap suc (never t l (λ k. f (first e k))))
once t (x ∷ l) f (Memᴰ.tail k) = rw (ne_eqb t x (λ e. f (first e k))) (once t l (λ h. f (later h)) k)

all_below_lem : (n : ℕ) (l : List ℕ) → ((t : ℕ) → Memᴰ t l → t < n) → below n l ≡ length l
unfolding below
all_below_lem n [] f = refl
all_below_lem n (x ∷ l) f = rw (lt-ltb x n (f x (Memᴰ.head refl))) (ap suc (all_below_lem n l (λ t k. f t (Memᴰ.tail k))))

each-once : (l : List ℕ) (n : ℕ) → ((t : ℕ) → t < n → times t l ≡ 1) → below n l ≡ n
unfolding below
each-once [] zero f = refl
each-once (x ∷ l) zero f = rw (le-ltb x 0 (omega arith)) (each-once l zero (λ t h. absurd (omega arith)))
each-once l (suc n) f = let a = below_more n l in let b = each-once l n (λ t h. f t (omega arith)) in let e = f n (omega arith) in omega arith

pub all_numbers : (l : List ℕ) (n : ℕ) → ((t : ℕ) → t < n → Memᴰ t l) → ((t : ℕ) → Memᴰ t l → t < n) → ((t : ℕ) → Earlier t t l → ⊥) → length l ≡ n
all_numbers l n all only f = sym (all_below_lem n l only) ∙ each-once l n (λ t h. once t l (f t) (all t h))
