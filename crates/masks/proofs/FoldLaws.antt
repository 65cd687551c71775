-- What each fold says of the turns, and back: all, any, count, the sets, the least, the rows and the states. Assumes nothing.
use mathlib.Core.Path.{◌≡◌, refl, sym, ap, ap₂, ◌∙◌, subst}
use mathlib.Core.Logic.{◌⊎◌, inl, inr, ⊎_elim}
use mathlib.Core.Bool.{Bool, true, false, not, cond, ◌&&◌, ◌||◌, and-true, and-false, or-false}
use mathlib.Core.List.{List, [], ◌∷◌, ◌++◌}
use Prim.Native.Nat.{ℕ, zero, suc, ◌^◌, ◌≤◌, ◌<◌}
use native.Mathlib.Nat.{lt_of_lt_of_le}
use native.Mathlib.Decide.{dec_lt, ℕ_discrete}
use native.Mathlib.Omega.{arith}
use borrow.Author.Tests.{eq-eqb, ne_eqb, lt-ltb, le-ltb, ltb-true}
use lib.Dec.{eqb, ltb}
use lib.Pow.{pow_mono, pow_pos}
use lib.ListN.{length, get_or, length-append, get_or-append}
use lib.Seq.{get_or_at, ext_get_or}
use Rattle.masks.specs.Bits.{has, In, none, insert, union, within}
use Rattle.masks.specs.Folds.{all_below, any_below, count_below, mask_of, union_of, least, tab, iter, over}
use Rattle.masks.proofs.Bools.{or_no, or_yes, or_yes-l, or_yes_r, and_yes, and_yes-l, and_yes_r, not_and, not_or, not_yes, true_or_false, true_and_false, bool_ext}
use Rattle.masks.proofs.Laws.{has_in, has_not, in_has, in_lt, has-none, has-put, has-union, put_lt, union_lt, same_word, empty_word, within_has, has_within}

-- a number below n + 1 is below n, or is n
pub below_or_last : (i n : ℕ) → i < suc n → (i < n) ⊎ (i ≡ n)
below_or_last i n h = go (dec_lt i n)
  where
    go : Dec (i < n) → (i < n) ⊎ (i ≡ n)
    go (yes p) = inl p
    go (no p) = inr (omega (arith, p))

-- ---- all and any

pub all_at : (f : ℕ → Bool) (n i : ℕ) → all_below f n ≡ true → i < n → f i ≡ true
unfolding all_below
all_at f zero i e h = absurd (omega (arith, h))
all_at f (suc n) i e h =
    ⊎_elim
    (λ l. all_at f n i (and_yes-l (all_below f n) (f n) e) l)
    (λ q. ap f q ∙ and_yes_r (all_below f n) (f n) e)
    (below_or_last i n h)

pub all_of : (f : ℕ → Bool) (n : ℕ) → ((i : ℕ) → i < n → f i ≡ true) → all_below f n ≡ true
unfolding all_below
all_of f zero h = refl
all_of f (suc n) h = and_yes (all_below f n) (f n) (all_of f n (λ i l. h i (omega arith))) (h n (omega arith))

pub any_at : (f : ℕ → Bool) (n : ℕ) → any_below f n ≡ true → (i : ℕ) × (i < n) × (f i ≡ true)
unfolding any_below
any_at f zero e = absurd (true_and_false e refl)
any_at f (suc n) e =
    ⊎_elim
    (λ p. let r = any_at f n p in (r.0, omega (arith, r.1), r.2))
    (λ p. (n, omega arith, p))
    (or_yes (any_below f n) (f n) e)

pub any_of : (f : ℕ → Bool) (n i : ℕ) → i < n → f i ≡ true → any_below f n ≡ true
unfolding any_below
any_of f zero i h e = absurd (omega (arith, h))
any_of f (suc n) i h e =
    ⊎_elim
    (λ l. or_yes-l (any_below f n) (f n) (any_of f n i l e))
    (λ q. or_yes_r (any_below f n) (f n) (ap f (sym q) ∙ e))
    (below_or_last i n h)

pub any_no : (f : ℕ → Bool) (n i : ℕ) → any_below f n ≡ false → i < n → f i ≡ false
any_no f n i e h = ⊎_elim (λ p. absurd (true_and_false (any_of f n i h p) e)) (λ p. p) (true_or_false (f i))

pub no_any : (f : ℕ → Bool) (n : ℕ) → ((i : ℕ) → i < n → f i ≡ false) → any_below f n ≡ false
unfolding any_below
no_any f zero h = refl
no_any f (suc n) h = or_no (any_below f n) (f n) (no_any f n (λ i l. h i (omega arith))) (h n (omega arith))

pub not_any : (f : ℕ → Bool) (n : ℕ) → not (any_below f n) ≡ all_below (λ i. not (f i)) n
unfolding any_below all_below
not_any f zero = refl
not_any f (suc n) = not_or (any_below f n) (f n) ∙ ap (λ (b : Bool). b && not (f n)) (not_any f n)

pub not_all : (f : ℕ → Bool) (n : ℕ) → not (all_below f n) ≡ any_below (λ i. not (f i)) n
unfolding any_below all_below
not_all f zero = refl
not_all f (suc n) = not_and (all_below f n) (f n) ∙ ap (λ (b : Bool). b || not (f n)) (not_all f n)

-- where not all hold, one does not
pub all_no : (f : ℕ → Bool) (n : ℕ) → all_below f n ≡ false → (i : ℕ) × (i < n) × (f i ≡ false)
all_no f n e =
    let r = any_at (λ i. not (f i)) n (sym (not_all f n) ∙ ap not e) in (r.0, r.1, not_yes (f r.0) r.2)

pub no_all : (f : ℕ → Bool) (n i : ℕ) → i < n → f i ≡ false → all_below f n ≡ false
no_all f n i h e =
    ⊎_elim (λ p. absurd (true_and_false (all_at f n i p h) e)) (λ p. p) (true_or_false (all_below f n))

pub all_cong : (f g : ℕ → Bool) (n : ℕ) → ((i : ℕ) → i < n → f i ≡ g i) → all_below f n ≡ all_below g n
unfolding all_below
all_cong f g zero h = refl
all_cong f g (suc n) h = ap₂ (λ (a b : Bool). a && b) (all_cong f g n (λ i l. h i (omega arith))) (h n (omega arith))

pub any_cong : (f g : ℕ → Bool) (n : ℕ) → ((i : ℕ) → i < n → f i ≡ g i) → any_below f n ≡ any_below g n
unfolding any_below
any_cong f g zero h = refl
any_cong f g (suc n) h = ap₂ (λ (a b : Bool). a || b) (any_cong f g n (λ i l. h i (omega arith))) (h n (omega arith))

pub all_mono : (f g : ℕ → Bool) (n : ℕ) → ((i : ℕ) → i < n → f i ≡ true → g i ≡ true) → all_below f n ≡ true → all_below g n ≡ true
all_mono f g n h e = all_of g n (λ i l. h i l (all_at f n i e l))

pub any_mono : (f g : ℕ → Bool) (n : ℕ) → ((i : ℕ) → i < n → f i ≡ true → g i ≡ true) → any_below f n ≡ true → any_below g n ≡ true
any_mono f g n h e = let r = any_at f n e in any_of g n r.0 r.1 (h r.0 r.1 r.2)

pub all_both : (f g : ℕ → Bool) (n : ℕ) → (all_below f n && all_below g n) ≡ all_below (λ i. f i && g i) n
all_both f g n =
    bool_ext
    (all_below f n && all_below g n)
    (all_below (λ i. f i && g i) n)
    (λ e. all_of (λ i. f i && g i) n (λ i l. and_yes (f i) (g i) (all_at f n i (and_yes-l (all_below f n) (all_below g n) e) l) (all_at g n i (and_yes_r (all_below f n) (all_below g n) e) l)))
    (λ e. and_yes (all_below f n) (all_below g n) (all_mono (λ i. f i && g i) f n (λ i l p. and_yes-l (f i) (g i) p) e) (all_mono (λ i. f i && g i) g n (λ i l p. and_yes_r (f i) (g i) p) e))

pub any_either : (f g : ℕ → Bool) (n : ℕ) → (any_below f n || any_below g n) ≡ any_below (λ i. f i || g i) n
any_either f g n =
    bool_ext
    (any_below f n || any_below g n)
    (any_below (λ i. f i || g i) n)
    (λ e. ⊎_elim (any_mono f (λ i. f i || g i) n (λ i l p. or_yes-l (f i) (g i) p)) (any_mono g (λ i. f i || g i) n (λ i l p. or_yes_r (f i) (g i) p)) (or_yes (any_below f n) (any_below g n) e))
    (λ e. let r = any_at (λ i. f i || g i) n e in ⊎_elim (λ p. or_yes-l (any_below f n) (any_below g n) (any_of f n r.0 r.1 p)) (λ p. or_yes_r (any_below f n) (any_below g n) (any_of g n r.0 r.1 p)) (or_yes (f r.0) (g r.0) r.2))

-- where f holds of nothing from n on, up to m, the turns from n on add nothing
module _ (f : ℕ → Bool) (n m : ℕ) (l : n ≤ m) (h : (i : ℕ) → n ≤ i → i < m → f i ≡ false) where
  pub any-rest : any_below f n ≡ any_below f m
  any-rest =
      bool_ext (any_below f n) (any_below f m)
      (λ e. let r = any_at f n e in any_of f m r.0 (omega (arith, r.1)) r.2)
      (λ e. let r = any_at f m e in any_of f n r.0 (inside r.0 r.1 r.2 (dec_lt r.0 n)) r.2)
    where
      inside : (i : ℕ) → i < m → f i ≡ true → Dec (i < n) → i < n
      inside i b e (yes p) = p
      inside i b e (no p) = absurd (true_and_false e (h i (omega (arith, p)) b))

pub count-rest : (f : ℕ → Bool) (n m : ℕ) → n ≤ m → ((i : ℕ) → n ≤ i → i < m → f i ≡ false) → count_below f n ≡ count_below f m
unfolding count_below
count-rest f n zero l h = let e : n ≡ 0 = omega arith in ap (count_below f) e
count-rest f n (suc m) l h = go (dec_lt m n) (λ p. count-rest f n m p (λ i a b. h i a (omega arith)))
  where
    go : Dec (m < n) → (n ≤ m → count_below f n ≡ count_below f m) → count_below f n ≡ count_below f (suc m)
    go (yes p) r = let e : n ≡ suc m = omega arith in ap (count_below f) e
    go (no p) r = rw (h m (omega (arith, p)) (omega arith)) (r (omega (arith, p)))

-- ---- the sets: which numbers are in them, and that they are words

at_last : (f : ℕ → Bool) (n : ℕ) → (ltb n n && f n || f n && eqb n n) ≡ (ltb n (suc n) && f n)
at_last f n = rw (le-ltb n n (omega arith), eq-eqb n n refl, lt-ltb n (suc n) (omega arith)) (and-true (f n))

at_other : (f : ℕ → Bool) (n t : ℕ) → (n ≡ t → ⊥) → (ltb t n && f t || f n && eqb n t) ≡ (ltb t (suc n) && f t)
at_other f n t ne = go (dec_lt t n)
  where
    go : Dec (t < n) → (ltb t n && f t || f n && eqb n t) ≡ (ltb t (suc n) && f t)
    go (yes l) = rw (lt-ltb t n l, ne_eqb n t ne, lt-ltb t (suc n) (omega arith), and-false) (or-false (f t))
    go (no g) = rw (le-ltb t n (omega arith), ne_eqb n t ne, le-ltb t (suc n) (omega arith)) (and-false (f n))

pub has_mask : (f : ℕ → Bool) (n t : ℕ) → has (mask_of f n) t ≡ (ltb t n && f t)
unfolding mask_of
has_mask f zero t = has-none t ∙ sym (ap (λ (b : Bool). b && f t) (le-ltb t 0 (omega arith)))
has_mask f (suc n) t =
    has-put (mask_of f n) n t (f n) ∙ ap (λ (b : Bool). b || (f n && eqb n t)) (has_mask f n t) ∙ step (ℕ_discrete n t)
  where
    step : Dec (n ≡ t) → (ltb t n && f t || (f n && eqb n t)) ≡ (ltb t (suc n) && f t)
    step (yes e) = subst (λ (x : ℕ). (ltb x n && f x || (f n && eqb n x)) ≡ (ltb x (suc n) && f x)) e (at_last f n)
    step (no ne) = at_other f n t ne

-- below n the set's test is f
pub has_mask_below : (f : ℕ → Bool) (n t : ℕ) → t < n → has (mask_of f n) t ≡ f t
has_mask_below f n t h = has_mask f n t ∙ ap (λ (b : Bool). b && f t) (lt-ltb t n h)

pub mask_bound : (f : ℕ → Bool) (n : ℕ) → mask_of f n < 2 ^ n
unfolding mask_of
mask_bound f zero = pow_pos 0
mask_bound f (suc n) = put_lt (suc n) (mask_of f n) n (f n) (lt_of_lt_of_le (mask_bound f n) (pow_mono (omega arith))) (omega arith)

pub mask_cong : (f g : ℕ → Bool) (n : ℕ) → ((i : ℕ) → i < n → f i ≡ g i) → mask_of f n ≡ mask_of g n
unfolding mask_of
mask_cong f g zero h = refl
mask_cong f g (suc n) h =
    ap₂ (λ (b : Bool) (w : ℕ). cond b (insert w n) w) (h n (omega arith)) (mask_cong f g n (λ i l. h i (omega arith)))

-- a word is the set of its members
-- a word that is not empty holds some number
pub some_member : (n w : ℕ) → w < 2 ^ n → (w ≡ none → ⊥) → (t : ℕ) × (t < n) × (has w t ≡ true)
some_member n w l ne = ⊎_elim (λ y. any_at (has w) n y) (λ e. absurd (ne (empty_word n w l (λ t i. has_not (any_no (has w) n t e (in_lt n l i)) i)))) (true_or_false (any_below (has w) n))

pub mask_has : (w n : ℕ) → w < 2 ^ n → mask_of (has w) n ≡ w
mask_has w n h = same_word n (mask_of (has w) n) w (mask_bound (has w) n) h (λ t l. has_mask_below (has w) n t l)

pub has-unions : (f : ℕ → ℕ) (n t : ℕ) → has (union_of f n) t ≡ any_below (λ i. has (f i) t) n
unfolding union_of any_below
has-unions f zero t = has-none t
has-unions f (suc n) t =
    has-union (union_of f n) (f n) t ∙ ap (λ (b : Bool). b || has (f n) t) (has-unions f n t)

pub in_unions : (f : ℕ → ℕ) (n t : ℕ) → In (union_of f n) t → (i : ℕ) × (i < n) × In (f i) t
in_unions f n t h =
    let r = any_at (λ i. has (f i) t) n (sym (has-unions f n t) ∙ in_has h) in (r.0, r.1, has_in r.2)

pub in_unions_of : (f : ℕ → ℕ) (n t i : ℕ) → i < n → In (f i) t → In (union_of f n) t
in_unions_of f n t i l h = has_in (has-unions f n t ∙ any_of (λ j. has (f j) t) n i l (in_has h))

pub unions_bound : (f : ℕ → ℕ) (n k : ℕ) → ((i : ℕ) → i < n → f i < 2 ^ k) → union_of f n < 2 ^ k
unfolding union_of
unions_bound f zero k h = pow_pos k
unions_bound f (suc n) k h =
    union_lt k (union_of f n) (f n) (unions_bound f n k (λ i l. h i (omega arith))) (h n (omega arith))

pub unions_cong : (f g : ℕ → ℕ) (n : ℕ) → ((i : ℕ) → i < n → f i ≡ g i) → union_of f n ≡ union_of g n
unfolding union_of
unions_cong f g zero h = refl
unions_cong f g (suc n) h = ap₂ union (unions_cong f g n (λ i l. h i (omega arith))) (h n (omega arith))

-- the test of a part is a test of each number
pub within_all : (k a b : ℕ) → a < 2 ^ k → within a b ≡ all_below (λ t. not (has a t) || has b t) k
within_all k a b h =
    bool_ext
    (within a b)
    (all_below (λ t. not (has a t) || has b t) k)
    (λ e. all_of (λ t. not (has a t) || has b t) k (λ t l. ⊎_elim (λ p. or_yes_r (not (has a t)) (has b t) (within_has a b t e p)) (λ p. or_yes-l (not (has a t)) (has b t) (ap not p)) (true_or_false (has a t))))
    (λ e. has_within k a b h (λ t l p. ⊎_elim (λ q. absurd (true_and_false p (not_yes (has a t) q))) (λ q. q) (or_yes (not (has a t)) (has b t) (all_at (λ s. not (has a s) || has b s) k t e l))))

-- ---- the least

-- what the turn at n does
data LeastTurn (f : ℕ → Bool) (n : ℕ) : Type 0 where
  found : least f n < n → least f (suc n) ≡ least f n → LeastTurn f n
  here : least f n ≡ n → f n ≡ true → least f (suc n) ≡ n → LeastTurn f n
  not_yet : least f n ≡ n → f n ≡ false → least f (suc n) ≡ suc n → LeastTurn f n

least-turn : (f : ℕ → Bool) (n : ℕ) → least f n ≤ n → LeastTurn f n
unfolding least
least-turn f n h = go (dec_lt (least f n) n) (true_or_false (f n))
  where
    turn : Bool → Bool → ℕ
    turn a b = cond a (least f n) (cond b n (suc n))

    go : Dec (least f n < n) → (f n ≡ true) ⊎ (f n ≡ false) → LeastTurn f n
    go (yes p) e = found p (ap (λ (a : Bool). turn a (f n)) (lt-ltb (least f n) n p))
    go (no p) (inl e) = here (omega (arith, p)) e (ap₂ turn (le-ltb (least f n) n (omega (arith, p))) e)
    go (no p) (inr e) = not_yet (omega (arith, p)) e (ap₂ turn (le-ltb (least f n) n (omega (arith, p))) e)

le_turn : (f : ℕ → Bool) (n : ℕ) → LeastTurn f n → least f (suc n) ≤ suc n
le_turn f n (found l e) = omega arith
le_turn f n (here q p e) = omega arith
le_turn f n (not_yet q p e) = omega arith

pub least_le : (f : ℕ → Bool) (n : ℕ) → least f n ≤ n
least_le f zero = unfold least in (omega arith)
least_le f (suc n) = le_turn f n (least-turn f n (least_le f n))

at_turn : (f : ℕ → Bool) (n : ℕ) → (least f n < n → f (least f n) ≡ true) → LeastTurn f n → least f (suc n) < suc n → f (least f (suc n)) ≡ true
at_turn f n r (found l e) h = ap f e ∙ r l
at_turn f n r (here q p e) h = ap f e ∙ p
at_turn f n r (not_yet q p e) h = absurd (omega arith)

pub least_at : (f : ℕ → Bool) (n : ℕ) → least f n < n → f (least f n) ≡ true
least_at f zero h = absurd (omega (arith, h))
least_at f (suc n) h = at_turn f n (least_at f n) (least-turn f n (least_le f n)) h

below_turn : (f : ℕ → Bool) (n i : ℕ) → (i < least f n → f i ≡ false) → LeastTurn f n → i < least f (suc n) → f i ≡ false
below_turn f n i r (found l e) h = r (omega arith)
below_turn f n i r (here q p e) h = r (omega arith)
below_turn f n i r (not_yet q p e) h = ⊎_elim (λ l. r (omega arith)) (λ d. ap f d ∙ p) (below_or_last i n (omega arith))

pub least_below : (f : ℕ → Bool) (n i : ℕ) → i < least f n → f i ≡ false
least_below f zero i h = absurd (omega (arith, h, least_le f zero))
least_below f (suc n) i h = below_turn f n i (least_below f n i) (least-turn f n (least_le f n)) h

-- the first of which f holds, and n where it holds of none
pub found_least : (f : ℕ → Bool) (n k : ℕ) → k < n → f k ≡ true → ((i : ℕ) → i < k → f i ≡ false) → least f n ≡ k
found_least f n k h e no-before = go (dec_lt (least f n) k) (dec_lt k (least f n))
  where
    go : Dec (least f n < k) → Dec (k < least f n) → least f n ≡ k
    go (yes p) d = absurd (true_and_false (least_at f n (omega arith)) (no-before (least f n) p))
    go (no p) (yes q) = absurd (true_and_false e (least_below f n k q))
    go (no p) (no q) = omega (arith, p, q)

pub least_all_no : (f : ℕ → Bool) (n : ℕ) → ((i : ℕ) → i < n → f i ≡ false) → least f n ≡ n
least_all_no f n h = go (dec_lt (least f n) n)
  where
    go : Dec (least f n < n) → least f n ≡ n
    go (yes p) = absurd (true_and_false (least_at f n p) (h (least f n) p))
    go (no p) = omega (arith, p, least_le f n)

-- it is found below n if f holds of some number there
pub least_any : (f : ℕ → Bool) (n : ℕ) → ltb (least f n) n ≡ any_below f n
least_any f n =
    bool_ext
    (ltb (least f n) n)
    (any_below f n)
    (λ e. let l = ltb-true (least f n) n e in any_of f n (least f n) l (least_at f n l))
    (λ e. let r = any_at f n e in lt-ltb (least f n) n (go r.0 r.1 r.2))
  where
    go : (i : ℕ) → i < n → f i ≡ true → least f n < n
    go i l p = pick (dec_lt (least f n) n)
      where
        pick : Dec (least f n < n) → least f n < n
        pick (yes q) = q
        pick (no q) = absurd (true_and_false p (least_below f n i (omega (arith, q))))

pub least_cong : (f g : ℕ → Bool) (n : ℕ) → ((i : ℕ) → i < n → f i ≡ g i) → least f n ≡ least g n
unfolding least
least_cong f g zero h = refl
least_cong f g (suc n) h =
    ap₂ (λ (l : ℕ) (b : Bool). cond (ltb l n) l (cond b n (suc n))) (least_cong f g n (λ i l. h i (omega arith))) (h n (omega arith))

-- ---- rows

pub length-tab : {A : Type 0} (f : ℕ → A) (n : ℕ) → length (tab f n) ≡ n
unfolding tab
length-tab f zero = refl
length-tab f (suc n) = omega (arith, length-append (tab f n) (f n ∷ []), length-tab f n)

pub get_d_tab : {A : Type 0} (f : ℕ → A) (n i : ℕ) (d : A) → i < n → get_or (tab f n) i d ≡ f i
unfolding tab
get_d_tab f zero i d h = absurd (omega (arith, h))
get_d_tab f (suc n) i d h =
    ⊎_elim
    (λ l. get_or-append (tab f n) (f n ∷ []) d i (omega (arith, length-tab f n)) ∙ get_d_tab f n i d l)
    (λ q. ap (λ (k : ℕ). get_or (tab f n ++ (f n ∷ [])) k d) q ∙ get_or_at (tab f n) (f n) [] d n (length-tab f n) ∙ ap f (sym q))
    (below_or_last i n h)

pub tab_cong : {A : Type 0} (f g : ℕ → A) (n : ℕ) → ((i : ℕ) → i < n → f i ≡ g i) → tab f n ≡ tab g n
unfolding tab
tab_cong f g zero h = refl
tab_cong {A} f g (suc n) h =
    ap₂ (λ (l : List A) (x : A). l ++ (x ∷ [])) (tab_cong f g n (λ i l. h i (omega arith))) (h n (omega arith))

-- a list that has f i at each i below its length is the row of f
pub tab_of : {A : Type 0} (f : ℕ → A) (n : ℕ) (d : A) (l : List A) → length l ≡ n → ((i : ℕ) → i < n → get_or l i d ≡ f i) → l ≡ tab f n
tab_of f n d l e h =
    ext_get_or d l (tab f n) (e ∙ sym (length-tab f n)) (λ i b. h i (omega arith) ∙ sym (get_d_tab f n i d (omega arith)))

-- ---- states

pub iter_cong : {A : Type 0} (f g : ℕ → A → A) (a : A) (n : ℕ) → ((i : ℕ) (x : A) → i < n → f i x ≡ g i x) → iter f a n ≡ iter g a n
unfolding iter
iter_cong f g a zero h = refl
iter_cong f g a (suc n) h = ap (f n) (iter_cong f g a n (λ i x l. h i x (omega arith))) ∙ h n (iter g a n) (omega arith)

-- what each turn keeps, all turns keep
pub iter_keeps : {A : Type 0} (P : A → Type 0) (f : ℕ → A → A) (a : A) (n : ℕ) → P a → ((i : ℕ) (x : A) → i < n → P x → P (f i x)) → P (iter f a n)
unfolding iter
iter_keeps P f a zero p h = p
iter_keeps P f a (suc n) p h = h n (iter f a n) (omega arith) (iter_keeps P f a n p (λ i x l. h i x (omega arith)))

-- turns seen through a part of the state
pub iter-part : {A B : Type 0} (part : A → B) (f : ℕ → A → A) (g : ℕ → B → B) (a : A) (n : ℕ) → ((i : ℕ) (x : A) → i < n → part (f i x) ≡ g i (part x)) → part (iter f a n) ≡ iter g (part a) n
unfolding iter
iter-part part f g a zero h = refl
iter-part part f g a (suc n) h =
    h n (iter f a n) (omega arith) ∙ ap (g n) (iter-part part f g a n (λ i x l. h i x (omega arith)))

-- a loop over the numbers of a word is a loop over all that asks of each
pub over-iter : {A : Type 0} (f : A → ℕ → A) (a : A) (w n : ℕ) → over f a w n ≡ iter (λ i x. cond (has w i) (f x i) x) a n
unfolding over iter
over-iter f a w zero = refl
over-iter {A} f a w (suc n) = ap (λ (x : A). cond (has w n) (f x n) x) (over-iter f a w n)

choice : {A : Type 0} (b : Bool) (x y z : A) → (b ≡ true → x ≡ y) → cond b x z ≡ cond b y z
choice true x y z h = h refl
choice false x y z h = refl

-- it sees f only at the numbers of the word, and of the word only its numbers below n
pub over_cong : {A : Type 0} (f g : A → ℕ → A) (a : A) (w n : ℕ) → ((x : A) (i : ℕ) → i < n → has w i ≡ true → f x i ≡ g x i) → over f a w n ≡ over g a w n
unfolding over
over_cong f g a w zero h = refl
over_cong {A} f g a w (suc n) h =
    ap (λ (x : A). cond (has w n) (f x n) x) (over_cong f g a w n (λ x i l. h x i (omega arith)))
    ∙ choice (has w n) (f (over g a w n) n) (g (over g a w n) n) (over g a w n) (h (over g a w n) n (omega arith))

pub over_word : {A : Type 0} (f : A → ℕ → A) (a : A) (v w n : ℕ) → ((i : ℕ) → i < n → has v i ≡ has w i) → over f a v n ≡ over f a w n
unfolding over
over_word f a v w zero h = refl
over_word {A} f a v w (suc n) h =
    ap₂ (λ (b : Bool) (x : A). cond b (f x n) x) (h n (omega arith)) (over_word f a v w n (λ i l. h i (omega arith)))

-- over nothing the state stays
pub over_nothing : {A : Type 0} (f : A → ℕ → A) (a : A) (n : ℕ) → over f a none n ≡ a
unfolding over
over_nothing f a zero = refl
over_nothing {A} f a (suc n) =
    ap (λ (b : Bool). cond b (f (over f a none n) n) (over f a none n)) (has-none n) ∙ over_nothing f a n

keeps_turn : {A : Type 0} (P : A → Type 0) (b : Bool) (x y : A) → P y → (b ≡ true → P x) → P (cond b x y)
keeps_turn P true x y p h = h refl
keeps_turn P false x y p h = p

pub over_keeps : {A : Type 0} (P : A → Type 0) (f : A → ℕ → A) (a : A) (w n : ℕ) → P a → ((x : A) (i : ℕ) → i < n → has w i ≡ true → P x → P (f x i)) → P (over f a w n)
unfolding over
over_keeps P f a w zero p h = p
over_keeps P f a w (suc n) p h =
    let r = over_keeps P f a w n p (λ x i l. h x i (omega arith)) in
    keeps_turn P (has w n) (f (over f a w n) n) (over f a w n) r (λ e. h (over f a w n) n (omega arith) e r)

-- turns seen through a part of the state
pub over-part : {A B : Type 0} (part : A → B) (f : A → ℕ → A) (g : B → ℕ → B) (a : A) (w n : ℕ) → ((x : A) (i : ℕ) → i < n → has w i ≡ true → part (f x i) ≡ g (part x) i) → part (over f a w n) ≡ over g (part a) w n
unfolding over
over-part part f g a w zero h = refl
over-part {A} {B} part f g a w (suc n) h =
    part-turn (has w n) (f (over f a w n) n) (over f a w n)
    ∙ choice (has w n) (part (f (over f a w n) n)) (g (part (over f a w n)) n) (part (over f a w n)) (h (over f a w n) n (omega arith))
    ∙ ap (λ (x : B). cond (has w n) (g x n) x) (over-part part f g a w n (λ x i l. h x i (omega arith)))
  where
    part-turn : (b : Bool) (x y : A) → part (cond b x y) ≡ cond b (part x) (part y)
    part-turn true x y = refl
    part-turn false x y = refl
