-- Refusals in their order, both ways: a number is given exactly if its own reason holds and the reason of none before it does, and 0 exactly if none holds. Assumes nothing.
use mathlib.Core.Path.{◌≡◌, refl, sym, ap}
use mathlib.Core.Logic.{◌↔◌, ◌⊎◌, inl, inr, ⊎_elim}
use mathlib.Core.Bool.{Bool, true, false, not, cond}
use Prim.Native.Nat.{ℕ}
use Rattle.masks.proofs.Bools.{not_yes, true_or_false, true_and_false}

-- n is k, for this reason; or else what comes after
infixr 20 ◌when◌otherwise◌
abbrev pub ◌when◌otherwise◌ : ℕ → Type 0 → (ℕ → Type 0) → ℕ → Type 0
◌when◌otherwise◌ k P rest = λ n. (P × (n ≡ k)) ⊎ ((P → ⊥) × rest n)

abbrev pub nothing : ℕ → Type 0
nothing n = n ≡ 0

pub at_last : (n : ℕ) → (0 ≡ n) ↔ nothing n
at_last n = (λ e. sym e, λ e. sym e)

-- what comes after is asked only where the reason does not hold
pub in_turn-after : (P : Type 0) (rest : ℕ → Type 0) (b : Bool) (k r : ℕ) → (b ≡ true) ↔ P → ((P → ⊥) → (n : ℕ) → (r ≡ n) ↔ rest n) → (n : ℕ) → (cond b k r ≡ n) ↔ (k when P otherwise rest) n
in_turn-after P rest true k r h after n = (λ e. inl (h.0 refl, sym e), λ q. ⊎_elim (λ p. sym p.1) (λ p. absurd (p.0 (h.0 refl))) q)
in_turn-after P rest false k r h after n =
    let no-reason : P → ⊥ = λ p. true_and_false (h.1 p) refl in
    (λ e. inr (no-reason, (after no-reason n).0 e), λ q. ⊎_elim (λ p. absurd (no-reason p.0)) (λ p. (after no-reason n).1 p.1) q)

pub in_turn : (P : Type 0) (rest : ℕ → Type 0) (b : Bool) (k r : ℕ) → (b ≡ true) ↔ P → ((n : ℕ) → (r ≡ n) ↔ rest n) → (n : ℕ) → (cond b k r ≡ n) ↔ (k when P otherwise rest) n
in_turn P rest b k r h after = in_turn-after P rest b k r h (λ _. after)

-- the reason that something is not kept
pub broken : (K : Type 0) (b : Bool) → (b ≡ false) ↔ K → (b ≡ true) ↔ (K → ⊥)
broken K b h = (λ e k. true_and_false e (h.1 k), λ n. ⊎_elim (λ e. e) (λ e. absurd (n (h.0 e))) (true_or_false b))

pub denied : (K : Type 0) (b : Bool) → (b ≡ true) ↔ K → (not b ≡ true) ↔ (K → ⊥)
denied K b h = (λ e k. true_and_false (h.1 k) (not_yes b e), λ n. ⊎_elim (λ e. absurd (n (h.0 e))) (λ e. ap not e) (true_or_false b))
