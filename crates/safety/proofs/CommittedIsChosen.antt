-- Only chosen sets are committed. Assumes nothing.
use mathlib.Core.Logic.{◌⊎◌, inl, inr}
use Rattle.rules.specs.declared.Set.{Set}
use Prim.Native.Nat.{ℕ}
use Rattle.safety.proofs.Slice.{Slice, Chosen}
use Rattle.safety.proofs.Summary.{Step, chosen-stays}

pub record CommittedIsChosen (touched : ℕ) (c : Slice) : Type 0 where
  pub each : (v : Set) → c.Commit v → Chosen touched c v

module _ {touched : ℕ} {c c' : Slice} (st : Step touched c c') where
  pub committed-kept : CommittedIsChosen touched c → CommittedIsChosen touched c'
  committed-kept i = record { each = λ v k. go v (st.commit-new v k) }
    where
      go : (v : Set) → c.Commit v ⊎ Chosen touched c v → Chosen touched c' v
      go v (inl h) = chosen-stays st (i.each v h)
      go v (inr h) = chosen-stays st h
