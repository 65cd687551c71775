-- Five readers in a row read the rest, and the fault decides. Assumes nothing.
use mathlib.Core.Path.{◌∙◌}
use Rattle.codec.proofs.ReadWhole.{rest_read, long-bad, long-good}
use Rattle.codec.proofs.decoding.long_message.Goals as goal

pub returns-then-fault-ne0 : goal.returns-then-fault-ne0
returns-then-fault-ne0 c =
    let r = rest_read _ _ _ c.get_if-pieces.ensures c.get_if-set.ensures c.get_if-word.ensures c.get_if-prepared.ensures c.get_if-values.ensures in
    c.refused.ensures ∙ long-bad _ _ _ _ _ r _ c.fault_of-fault.ensures c.if-fault-ne0.true

pub returns : goal.returns
returns c =
    let r = rest_read _ _ _ c.get_if-pieces.ensures c.get_if-set.ensures c.get_if-word.ensures c.get_if-prepared.ensures c.get_if-values.ensures in
    long-good _ _ _ _ _ r _ c.fault_of-fault.ensures c.if-fault-ne0.false
