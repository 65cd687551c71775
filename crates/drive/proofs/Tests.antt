-- Tests put together, and what they say. Assumes nothing.
use mathlib.Core.Path.{◌≡◌, ap}
use mathlib.Core.Logic.{◌↔◌}
use mathlib.Core.Bool.{Bool, true, false, not, ◌&&◌}
use Prim.Native.Nat.{ℕ, suc, ◌≤◌, ◌<◌}
use native.Mathlib.Omega.{arith}
use lib.Dec.{leb, ltb, eqb}
use borrow.Author.Tests.{leb-true, le-leb, ltb-true, lt-ltb, eqb-true, eq-eqb}
use Rattle.masks.specs.Bits.{has, In}
use Rattle.masks.specs.Folds.{all_below}
use Rattle.masks.proofs.Bools.{and_yes, and_yes-l, and_yes_r, then_yes, yes_then, not_yes}
use Rattle.masks.proofs.Laws.{has_in, in_has}
use Rattle.masks.proofs.FoldLaws.{all_at, all_of}
use Rattle.rules.specs.Flags.{implies}
use Rattle.rules.proofs.InTurn.{denied}

pub and_is : (P Q : Type 0) (a b : Bool) → (a ≡ true) ↔ P → (b ≡ true) ↔ Q → ((a && b) ≡ true) ↔ (P × Q)
and_is P Q a b p q = (λ e. (p.0 (and_yes-l a b e), q.0 (and_yes_r a b e)), λ h. and_yes a b (p.1 h.0) (q.1 h.1))

pub if_is : (P Q : Type 0) (a b : Bool) → (a ≡ true) ↔ P → (b ≡ true) ↔ Q → (implies a b ≡ true) ↔ (P → Q)
if_is P Q a b p q = (λ e h. q.0 (then_yes a b e (p.1 h)), λ f. yes_then a b (λ e. q.1 (f (p.0 e))))

-- of all numbers to n
pub all_are : (P : ℕ → Type 0) (f : ℕ → Bool) (n : ℕ) → ((i : ℕ) → (f i ≡ true) ↔ P i) → (all_below f (suc n) ≡ true) ↔ ((i : ℕ) → i ≤ n → P i)
all_are P f n h = (λ e i l. (h i).0 (all_at f (suc n) i e (omega arith)), λ g. all_of f (suc n) (λ i l. (h i).1 (g i (omega arith))))

pub kept_not : (K : Type 0) (b : Bool) → (b ≡ false) ↔ K → (not b ≡ true) ↔ K
kept_not K b h = (λ e. h.0 (not_yes b e), λ k. ap not (h.1 k))

pub in_is : (w t : ℕ) → (has w t ≡ true) ↔ In w t
in_is w t = (has_in, in_has)

pub out_is : (w t : ℕ) → (not (has w t) ≡ true) ↔ (In w t → ⊥)
out_is w t = denied (In w t) (has w t) (in_is w t)

pub eq_is : (a b : ℕ) → (eqb a b ≡ true) ↔ (a ≡ b)
eq_is a b = (eqb-true a b, eq-eqb a b)

pub le_is : (a b : ℕ) → (leb a b ≡ true) ↔ (a ≤ b)
le_is a b = (leb-true a b, le-leb a b)

pub lt_is : (a b : ℕ) → (ltb a b ≡ true) ↔ (a < b)
lt_is a b = (ltb-true a b, lt-ltb a b)
