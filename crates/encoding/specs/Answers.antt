-- What encoding answers, of the definition's answer: the refusal and the message's length. The buffer is the third part.
use Rattle.std.specs.Prelude.{Bool, List, ℕ, ltb, length, Result, Ok, Err}
use Rattle.rules.specs.Choice.{◌if◌else◌}
use Rattle.rules.specs.Refusal.{number_of}
use Rattle.rules.specs.declared.refusals.Refusal.{Refusal}
use Rattle.wire.specs.Encoding.{Encoding, refused, written}
use Rattle.encoding.specs.declared.Encoded.{Encoded}

abbrev pub answer : Encoding → Encoded
answer e = record { refusal = e.refusal; length = e.size }

-- the same, of what code answers: the message's length, or the refusal
abbrev pub told_of : Result ℕ Refusal → Encoded
told_of (Ok n) = record { refusal = 0; length = n }
told_of (Err r) = record { refusal = number_of r; length = 0 }

-- the bytes s at the front of the buffer z: 12 where they are no message's, 14 where it is shorter
unfoldable pub sent : Bool → List ℕ → List ℕ → Encoding
sent unwritable s z =
    refused 12 z if unwritable
    else refused 14 z if ltb (length z) (length s)
    else written s z
