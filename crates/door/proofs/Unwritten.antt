-- A message that encoding refuses leaves the buffer as it was lent. Assumes nothing.
use mathlib.Core.Path.{◌≡◌, refl}
use mathlib.Core.Bool.{Bool, true, false, false≢true}
use mathlib.Core.List.{List}
use Prim.Native.Nat.{ℕ}
use lib.Dec.{eqb}
use lib.ListN.{length}
use Rattle.rules.specs.Choice.{◌if◌else◌}
use Rattle.rules.specs.Flags.{there}
use Rattle.wire.specs.declared.Message.{Message}
use Rattle.wire.specs.Bytes.{bytes, encode_refusal}
use Rattle.wire.specs.Encoding.{refused, written, encode}

kept : (b : Bool) (n : ℕ) (s z : List ℕ) → there (written s z if b else refused n z).refusal ≡ true → (written s z if b else refused n z).buffer ≡ z
kept true n s z h = absurd (false≢true h)
kept false n s z h = refl

pub unwritten : (m : Message) (z : List ℕ) → there (encode m z).refusal ≡ true → (encode m z).buffer ≡ z
unfolding encode
unwritten m z h = kept (eqb (encode_refusal m (length z)) 0) (encode_refusal m (length z)) (bytes.put m) z h
