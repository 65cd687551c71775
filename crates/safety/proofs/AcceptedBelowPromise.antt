-- What a server has accepted was proposed, at a ballot that is at most its promise. Assumes nothing.
use mathlib.Core.Path.{◌≡◌, sym, ◌∙◌, subst}
use mathlib.Core.Logic.{◌⊎◌, inl, inr}
use Prim.Native.Nat.{ℕ, ◌≤◌}
use native.Mathlib.Omega.{arith}
use Rattle.rules.specs.declared.Set.{Set}
use Rattle.rules.specs.declared.MaybeVote.{MaybeVote}
use Rattle.safety.proofs.Slice.{Slice, Votes}
use Rattle.safety.proofs.Summary.{Voting, Step}

pub record Accepted (c : Slice) (s b : ℕ) (v : Set) : Type 0 where
  pub low : b ≤ c.promise s
  pub asked : c.Accept b v

pub record AcceptedBelowPromise (c : Slice) : Type 0 where
  pub each : (s b : ℕ) (v : Set) → Votes (c.accepted s) b v → Accepted c s b v

module _ {touched : ℕ} {c c' : Slice} (st : Step touched c c') where
  pub accepted-kept : AcceptedBelowPromise c → AcceptedBelowPromise c'
  accepted-kept i = record { each = λ s b v e. go s b v e (st.accepted-moves s) }
    where
      old : (s b : ℕ) (v : Set) → Accepted c s b v → Accepted c' s b v
      old s b v h = record { low = omega (arith, st.promise-le s, h.low); asked = st.accept-stays h.asked }

      new : (s b b₁ : ℕ) (v v₁ : Set) → Votes (c'.accepted s) b v → Voting c c' s b₁ v₁ → Accepted c' s b v
      new s b b₁ v v₁ e h =
          let eb : b₁ ≡ b = sym h.now.at ∙ e.at in
          let ev : v₁ ≡ v = sym h.now.is ∙ e.is in
          record { low = omega (arith, h.promises); asked = subst (λ v. c'.Accept b v) ev (subst (λ b. c'.Accept b v₁) eb (st.accept-stays h.asked)) }

      go : (s b : ℕ) (v : Set) → Votes (c'.accepted s) b v → (c'.accepted s ≡ c.accepted s) ⊎ ((b : ℕ) × (v : Set) × Voting c c' s b v) → Accepted c' s b v
      go s b v e (inl h) = old s b v (i.each s b v (subst (λ (o : MaybeVote). Votes o b v) h e))
      go s b v e (inr (b₁, v₁, h)) = new s b b₁ v v₁ e h
