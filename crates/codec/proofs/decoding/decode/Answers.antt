-- The header, the front and the rest read the message; without a rest the front is all. Assumes nothing.
use mathlib.Core.Path.{sym, ◌∙◌}
use Rattle.codec.proofs.ReadWhole.{long-decoded, short-decoded}
use Rattle.codec.proofs.decoding.decode.Goals as goal

pub returns-then-has_rest : goal.returns-then-has_rest
returns-then-has_rest c = c.long_message.ensures ∙ long-decoded _ c.shape_of-h.result c.shape_of-h.ensures c.get_header-code.ensures c.get_front-f.ensures

pub returns : goal.returns
returns c = c.short_message.ensures ∙ short-decoded _ c.shape_of-h.result c.shape_of-h.ensures c.get_header-code.ensures c.get_front-f.ensures (sym c.has_rest.ensures ∙ c.if-has_rest.false)
