-- The entries so far are read. Assumes nothing.
use Rattle.std.proofs.Common.{◌≡◌, ◌+◌, ◌*◌}
use Rattle.xdr.specs.Reading.{clean}
use Rattle.wire.specs.Parts.{piece}
use Rattle.parts.proofs.Items.{Got}
use Rattle.codec.proofs.exact.list_at.Given as goal

abbrev pub invariant-loop-entry : goal.invariant-loop-entry
invariant-loop-entry l = (l.next ≡ l.at + l.entry-index * 16) × Got piece l.s (clean l.at) l.entry-index l.entry-items (clean l.next)
