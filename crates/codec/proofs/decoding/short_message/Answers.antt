-- The fault decides. Assumes nothing.
use mathlib.Core.Path.{◌∙◌}
use Rattle.codec.proofs.ReadWhole.{as_bad, as_good}
use Rattle.codec.proofs.decoding.short_message.Goals as goal

pub returns-then-fault-ne0 : goal.returns-then-fault-ne0
returns-then-fault-ne0 c = c.refused.ensures ∙ as_bad _ _ _ c.fault_of-fault.ensures c.if-fault-ne0.true

pub returns : goal.returns
returns c = rw c.plain-message.ensures (as_good _ _ _ c.fault_of-fault.ensures c.if-fault-ne0.false)
