-- Every arrival word has 64 digits. Assumes nothing.
use mathlib.Core.Logic.{◌⊎◌, inl, inr}
use Prim.Native.Nat.{ℕ, ◌^◌, ◌<◌}
use Rattle.safety.proofs.Slice.{Slice, Holds}
use Rattle.safety.proofs.Summary.{Step}

pub record ArrivalsFit (c : Slice) : Type 0 where
  pub each : (s w : ℕ) → Holds (c.arrival s) w → w < 2 ^ 64

module _ {touched : ℕ} {c c' : Slice} (st : Step touched c c') where
  pub fit-kept : ArrivalsFit c → ArrivalsFit c'
  fit-kept i = record { each = λ s w h. go s w (st.arrival-new s w h) }
    where
      go : (s w : ℕ) → Holds (c.arrival s) w ⊎ (w < 2 ^ 64) → w < 2 ^ 64
      go s w (inl h) = i.each s w h
      go s w (inr l) = l
