-- At each ballot one set at most is proposed, and it may be: it covers the arrivals, and is justified by the answers to Prepare. Assumes nothing.
use mathlib.Core.Path.{◌≡◌, sym}
use mathlib.Core.Logic.{◌⊎◌, inl, inr}
use Prim.Native.Nat.{ℕ}
use Rattle.rules.specs.declared.Set.{Set}
use Rattle.safety.proofs.Slice.{Slice, Proposal}
use Rattle.safety.proofs.Summary.{Proposing, Step, proposal-stays}

pub record OneProposal (touched : ℕ) (c : Slice) : Type 0 where
  pub one : (b : ℕ) (v v' : Set) → c.Accept b v → c.Accept b v' → v ≡ v'
  pub sound : (b : ℕ) (v : Set) → c.Accept b v → Proposal touched c b v

module _ {touched : ℕ} {c c' : Slice} (st : Step touched c c') where
  pub proposal-kept : OneProposal touched c → OneProposal touched c'
  proposal-kept i = record {
    one = λ b v v' k k'. one b v v' k k' (st.accept-new b v k) (st.accept-new b v' k');
    sound = λ b v k. sound b v (st.accept-new b v k);
  }
    where
      one : (b : ℕ) (v v' : Set) → c'.Accept b v → c'.Accept b v' → c.Accept b v ⊎ Proposing touched c c' b v → c.Accept b v' ⊎ Proposing touched c c' b v' → v ≡ v'
      one b v v' k k' (inl h) (inl h') = i.one b v v' h h'
      one b v v' k k' (inl h) (inr h') = h'.alone v k
      one b v v' k k' (inr h) q = sym (h.alone v' k')

      sound : (b : ℕ) (v : Set) → c.Accept b v ⊎ Proposing touched c c' b v → Proposal touched c' b v
      sound b v (inl h) = proposal-stays st (i.sound b v h)
      sound b v (inr h) = proposal-stays st h.sound
