-- A server that answered AcceptOK at a ballot holds something accepted at that ballot or a higher one, and it was asked to. Assumes nothing.
use mathlib.Core.Path.{◌≡◌, sym, subst}
use mathlib.Core.Logic.{◌⊎◌, inl, inr}
use Prim.Native.Nat.{ℕ, ◌≤◌}
use native.Mathlib.Omega.{arith}
use Rattle.rules.specs.declared.Set.{Set}
use Rattle.rules.specs.declared.MaybeVote.{MaybeVote}
use Rattle.safety.proofs.Slice.{Slice, Votes}
use Rattle.safety.proofs.Summary.{Voting, Step}
use Rattle.safety.proofs.AcceptedBelowPromise.{AcceptedBelowPromise}

pub record Voted (c : Slice) (s b : ℕ) : Type 0 where
  pub at : ℕ
  pub set : Set
  pub holds : Votes (c.accepted s) at set
  pub since : b ≤ at
  pub proposed : Set
  pub asked : c.Accept b proposed

pub record VotesStay (c : Slice) : Type 0 where
  pub each : (s b : ℕ) → c.AcceptOK s b → Voted c s b

module _ {touched : ℕ} {c c' : Slice} (st : Step touched c c') (low : AcceptedBelowPromise c) where
  pub votes-kept : VotesStay c → VotesStay c'
  votes-kept i = record { each = λ s b k. go s b (st.accept_ok-new s b k) }
    where
      still : (s b : ℕ) → Voted c s b → (c'.accepted s ≡ c.accepted s) ⊎ ((b : ℕ) × (v : Set) × Voting c c' s b v) → Voted c' s b
      still s b h (inl e) = record { at = h.at; set = h.set; holds = subst (λ (o : MaybeVote). Votes o h.at h.set) (sym e) h.holds; since = h.since; proposed = h.proposed; asked = st.accept-stays h.asked }
      still s b h (inr (b₁, v₁, n)) =
          let l = (low.each s h.at h.set h.holds).low in
          record { at = b₁; set = v₁; holds = n.now; since = omega (arith, h.since, n.low); proposed = h.proposed; asked = st.accept-stays h.asked }

      go : (s b : ℕ) → c.AcceptOK s b ⊎ ((v : Set) × Voting c c' s b v) → Voted c' s b
      go s b (inl k) = still s b (i.each s b k) (st.accepted-moves s)
      go s b (inr (v, n)) = record { at = b; set = v; holds = n.now; since = omega arith; proposed = v; asked = st.accept-stays n.asked }
