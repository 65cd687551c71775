-- The arrival word of every PreAcceptOK is the one that its server holds, for ever. Assumes nothing.
use mathlib.Core.Logic.{◌⊎◌, inl, inr}
use Prim.Native.Nat.{ℕ}
use Rattle.safety.proofs.Slice.{Slice, Holds}
use Rattle.safety.proofs.Summary.{Step}

pub record WordsAreTrue (c : Slice) : Type 0 where
  pub each : (s w : ℕ) → c.PreAcceptOK s w → Holds (c.arrival s) w

module _ {touched : ℕ} {c c' : Slice} (st : Step touched c c') where
  pub words-kept : WordsAreTrue c → WordsAreTrue c'
  words-kept i = record { each = λ s w k. go s w (st.pre_accept_ok-new s w k) }
    where
      go : (s w : ℕ) → c.PreAcceptOK s w ⊎ Holds (c'.arrival s) w → Holds (c'.arrival s) w
      go s w (inl k) = st.arrival-stays s w (i.each s w k)
      go s w (inr h) = h
