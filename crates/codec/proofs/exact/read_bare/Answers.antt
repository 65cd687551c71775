-- Two words are the message. Assumes nothing.
use mathlib.Core.Path.{ap, ◌∙◌}
use Rattle.wire.specs.declared.Message.{Message}
use Rattle.codec.proofs.ReadExact.{bare-decoded}
use Rattle.codec.proofs.exact.read_bare.Goals as goal

pub returns : goal.returns
returns c = ap (λ (m : Message). record { refusal = 0; message = m }) c.plain.ensures ∙ bare-decoded _ c.requires c.word_at-code.ensures c.word_at-t.ensures
