-- What more commits leave as it is. A number's before is fixed once it is closed; what is before a closed number is closed; and a set of numbers that has with each
-- number its direct words has with each number all that is before it.
-- Assumes nothing.
use mathlib.Core.Path.{◌≡◌, sym, subst}
use mathlib.Core.List.{List}
use Prim.Native.Nat.{ℕ}
use lib.ListN.{get_or}
use Rattle.masks.specs.Bits.{In}
use Rattle.graph.specs.Before.{Before, direct, behind, Closed}
use Rattle.graph.proofs.Rows.{trans}

-- ---- a closed number

-- what is before a closed number is closed, and what is before that is before the number
pub closed-behind : {deps : List ℕ} {committed u t : ℕ} → Closed deps committed t → Before deps u t → Closed deps committed u
closed-behind {u = u} c b = record { self = c.all u b; all = λ v a. c.all v (trans b a) }

-- a set of committed numbers that has with each its direct words has closed numbers only
module _ (deps : List ℕ) (log : ℕ) (kept : (t u : ℕ) → In log t → In (get_or deps t 0) u → In log u) where
  pub direct-behind : {u t : ℕ} → Before deps u t → In log t → In log u
  direct-behind {t = t} (direct {u = u} i) l = kept t u l i
  direct-behind {t = t} (behind {v = v} i b) l = direct-behind b (kept t v l i)

  pub direct-closed : (committed : ℕ) → ((t : ℕ) → In log t → In committed t) → (t : ℕ) → In log t → Closed deps committed t
  direct-closed committed part t l = record { self = part t l; all = λ u b. part u (direct-behind b l) }

-- ---- two states of the commits: what the first has, the second has with the same words

pub record Grown (deps deps' : List ℕ) (committed committed' : ℕ) : Type 0 where
  pub same : (t : ℕ) → In committed t → get_or deps' t 0 ≡ get_or deps t 0
  pub more : (t : ℕ) → In committed t → In committed' t

module _ {deps deps' : List ℕ} {committed committed' : ℕ} (g : Grown deps deps' committed committed') where
  -- before a closed number stands what stood there
  pub still_before : {u t : ℕ} → Closed deps committed t → Before deps u t → Before deps' u t
  still_before {t = t} c (direct {u = u} i) = direct (subst (λ (w : ℕ). In w u) (sym (g.same t c.self)) i)
  still_before {t = t} c (behind {v = v} i b) =
      behind (subst (λ (w : ℕ). In w v) (sym (g.same t c.self)) i) (still_before (closed-behind c (direct i)) b)

  -- and nothing else
  pub was-before : {u t : ℕ} → Closed deps committed t → Before deps' u t → Before deps u t
  was-before {t = t} c (direct {u = u} i) = direct (subst (λ (w : ℕ). In w u) (g.same t c.self) i)
  was-before {t = t} c (behind {v = v} i b) =
      let j : In (get_or deps t 0) v = subst (λ (w : ℕ). In w v) (g.same t c.self) i in
      behind j (was-before (closed-behind c (direct j)) b)

  -- a closed number stays closed
  pub still-closed : {t : ℕ} → Closed deps committed t → Closed deps' committed' t
  still-closed {t} c = record { self = g.more t c.self; all = λ u b. g.more u (c.all u (was-before c b)) }

-- nothing is lost where nothing was committed
pub grown-refl : (deps : List ℕ) (committed : ℕ) → Grown deps deps committed committed
grown-refl deps committed = record { same = λ t i. λ j. get_or deps t 0; more = λ t i. i }
