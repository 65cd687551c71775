-- `record::place_of` meets its contract. Assumes nothing.
use Rattle.std.proofs.Common.{sym, ◌∙◌}
use Rattle.server_step.specs.OneStore.{place_of}
use Rattle.server_step.proofs.record.place_of.Goals as goal

pub returns-then-bad_number-clause-value : goal.returns-then-bad_number-clause-value
unfolding place_of
returns-then-bad_number-clause-value c = rw (sym c.bad_number.ensures ∙ c.if-bad_number.true)

pub returns-else-bad_number-clause-value : goal.returns-else-bad_number-clause-value
unfolding place_of
returns-else-bad_number-clause-value c = rw (sym c.bad_number.ensures ∙ c.if-bad_number.false)
