-- What each piece does to its counter, in plain numbers and both ways: a sum stays in the range exactly from -2,147,483,648 to 2,147,483,647; a result is kept exactly for an add that meets a full counter or whose
-- sum leaves the range, and for a read of a full counter. A result of any piece is what a reading of its counter shows right after it.
-- Assumes nothing.
use Prim.Native.Nat.{ℕ, ◌≤◌}
use mathlib.Core.Path.{◌≡◌, refl, sym, ap}
use mathlib.Core.Bool.{Bool, true, false, cond}
use mathlib.Core.Logic.{◌↔◌, ◌≢◌, ◌⊎◌, inl, inr, ⊎_elim}
use native.Mathlib.Decide.{ℕ_discrete}
use native.Mathlib.Omega.{arith}
use lib.Dec.{ltb, eqb, leb→le, le→leb}
use lib.IntN.{ℤ, pos, negsuc, neg_ℤ, ◌+ℤ◌}
use lib.ListN.{length, get_or-replicate}
use lib.Signed.{◌≤ℤ◌}
use borrow.Author.Tests.{ltb-false, le-ltb, ne_eqb}
use Rattle.masks.proofs.Bools.{or_no, or_no_l, true_or_false, true_and_false}
use Rattle.rules.specs.Flags.{flag}
use Rattle.rules.specs.Pieces.{read, put}
use Rattle.counters.specs.declared.Counter.{Counter}
use Rattle.counters.specs.declared.Outcome.{Outcome}
use Rattle.counters.specs.Effects.{holding, marked, is_full, kept_of, zeroed, no_counters, counter_at, leaves, gives, added, effect}

-- -2,147,483,648 ≤ z ≤ 2,147,483,647
pub record InRange (z : ℤ) : Type 0 where
  pub low : neg_ℤ (pos 2147483648) ≤ℤ z
  pub high : z ≤ℤ pos 2147483647

pub stays : (z : ℤ) → (leaves z ≡ false) ↔ InRange z
unfolding leaves
stays (pos n) = (
  λ e. record { low = record { le = tt }; high = record { le = le→leb n 2147483647 (ltb-false 2147483647 n e) } },
  λ h. le-ltb 2147483647 n (leb→le n 2147483647 h.high.le),
)
stays (negsuc n) = (
  λ e. record { low = record { le = le→leb n 2147483647 (ltb-false 2147483647 n (or_no_l (ltb 2147483647 n) false e)) }; high = record { le = tt } },
  λ h. or_no (ltb 2147483647 n) false (le-ltb 2147483647 n (leb→le n 2147483647 h.low.le)) refl,
)

pub goes : (z : ℤ) → (leaves z ≡ true) ↔ (InRange z → ⊥)
goes z = (λ e h. true_and_false e ((stays z).1 h), λ n. ⊎_elim (λ e. e) (λ e. absurd (n ((stays z).0 e))) (true_or_false (leaves z)))

-- the mark is set
abbrev pub Full : Counter → Type 0
Full c = c.full ≢ 0

full_is : (c : Counter) → Full c → is_full c ≡ true
full_is c h = rw (ne_eqb c.full 0 h)

-- what a piece of each kind gives: 0 read, 1 put, 2 add
module _ (n : ℤ) (c : Counter) where
  pub read-gives : c.full ≡ 0 → effect 0 n c ≡ record { counter = c; result = record { value = c.value; kept = 0 } }
  unfolding effect
  read-gives e = rw e refl

  pub read-full : Full c → effect 0 n c ≡ record { counter = c; result = record { value = c.value; kept = 1 } }
  unfolding effect
  read-full h = rw (full_is c h)

  pub put-gives : effect 1 n c ≡ record { counter = record { value = n; full = 0 }; result = record { value = n; kept = 0 } }
  unfolding effect
  put-gives = refl

  pub add-gives : c.full ≡ 0 → InRange (c.value +ℤ n)
      → effect 2 n c ≡ record { counter = record { value = c.value +ℤ n; full = 0 }; result = record { value = c.value +ℤ n; kept = 0 } }
  unfolding effect added
  add-gives e h = rw (e, (stays (c.value +ℤ n)).1 h)

  pub add-marks : c.full ≡ 0 → (InRange (c.value +ℤ n) → ⊥)
      → effect 2 n c ≡ record { counter = record { value = c.value; full = 1 }; result = record { value = c.value; kept = 1 } }
  unfolding effect added
  add-marks e h = rw (e, (goes (c.value +ℤ n)).1 h)

  -- also one that would fit
  pub add-full : Full c → effect 2 n c ≡ record { counter = c; result = record { value = c.value; kept = 1 } }
  unfolding effect added
  add-full h = rw (full_is c h)

  kept : (kind k : ℕ) (x : Counter) (v : ℤ) → effect kind n c ≡ record { counter = x; result = record { value = v; kept = k } } → (effect kind n c).result.kept ≡ k
  kept kind k x v e = ap (λ (o : Outcome). o.result.kept) e

  -- an add on a counter that is full or is not, whose sum is in the range or is not
  pub add_kept : ((effect 2 n c).result.kept ≡ 1) ↔ (Full c ⊎ (InRange (c.value +ℤ n) → ⊥))
  add_kept = go (ℕ_discrete c.full 0)
    where
      go : Dec (c.full ≡ 0) → ((effect 2 n c).result.kept ≡ 1) ↔ (Full c ⊎ (InRange (c.value +ℤ n) → ⊥))
      go (yes z) = (
        λ e. inr (λ h. omega (arith, e, kept 2 0 _ _ (add-gives z h))),
        λ o. ⊎_elim (λ f. absurd (f z)) (λ h. kept 2 1 _ _ (add-marks z h)) o,
      )
      go (no f) = (λ e. inl f, λ o. kept 2 1 _ _ (add-full f))

  pub read_kept : ((effect 0 n c).result.kept ≡ 1) ↔ Full c
  read_kept = (λ e z. omega (arith, e, kept 0 0 _ _ (read-gives z)), λ f. kept 0 1 _ _ (read-full f))

  pub put-kept : (effect 1 n c).result.kept ≢ 1
  put-kept e = omega (arith, e, kept 1 0 _ _ put-gives)

  -- right after a piece of any kind its counter reads as its result
  pub shows : (kind : ℕ) → (effect kind n c).result ≡ record { value = (effect kind n c).counter.value; kept = kept_of (effect kind n c).counter }
  unfolding effect added
  shows kind = go (eqb kind read) (eqb kind put) (is_full c) (leaves (c.value +ℤ n)) refl
    where
      by : Bool → Bool → Bool → Bool → Outcome
      by r p f l = cond r (gives c (kept_of c)) (cond p (gives (holding n) 0) (cond f (gives c 1) (cond l (gives (marked c) 1) (gives (holding (c.value +ℤ n)) 0))))

      go : (r p f l : Bool) → is_full c ≡ f → (by r p f l).result ≡ record { value = (by r p f l).counter.value; kept = kept_of (by r p f l).counter }
      go true p f l e = refl
      go false true f l e = refl
      go false false true l e = λ i. record { value = c.value; kept = flag (sym e i) }
      go false false false true e = refl
      go false false false false e = refl

-- "each shard has 16 counters, at first 0": none is full
pub sixteen : length no_counters.list ≡ 16
sixteen = refl

pub at_first_lem : (k : ℕ) → k ≤ 15 → counter_at no_counters k ≡ record { value = pos 0; full = 0 }
at_first_lem k l = get_or-replicate 16 k zeroed zeroed (omega arith)
