-- Encoding into a lent buffer: 12, then 14, and then nothing is changed; else the message's bytes stand at the front of the buffer, and what is behind them is as it was.
use Rattle.std.specs.Prelude.{List, ℕ, eqb, length}
use Rattle.xdr.specs.Over.{over}
use Rattle.rules.specs.Choice.{◌if◌else◌}
use Rattle.wire.specs.declared.Message.{Message}
use Rattle.wire.specs.Bytes.{bytes, encode_refusal}

-- the refusal or 0, how many bytes the message takes, and the buffer after it
pub record Encoding : Type 0 where
  pub refusal : ℕ
  pub size : ℕ
  pub buffer : List ℕ

abbrev pub refused : ℕ → List ℕ → Encoding
refused e z = record { refusal = e; size = 0; buffer = z }

abbrev pub written : List ℕ → List ℕ → Encoding
written s z = record { refusal = 0; size = length s; buffer = over s z }

unfoldable pub encode : Message → List ℕ → Encoding
encode m z = written (bytes.put m) z if eqb (encode_refusal m (length z)) 0 else refused (encode_refusal m (length z)) z
