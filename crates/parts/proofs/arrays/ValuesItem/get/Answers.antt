-- The array is read. Assumes nothing.
use Rattle.std.proofs.Common.{ap, ℕ, List}
use Rattle.rules.specs.declared.Value.{Value}
use Rattle.wire.specs.Parts.{values}
use Rattle.parts.proofs.arrays.ValuesItem.get.Goals as goal

pub returns : goal.returns
unfolding values
returns c =
    let r = c.get_rows-count.ensures in
    record { value = ap (λ (q : ℕ × List Value). record { list = q.1; count = q.0 }) r.value; next = r.next }
