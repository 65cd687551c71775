-- `refusals::refuse` meets its contract: no test before the one that fires does, and that one gives the refusal. Assumes nothing.
use Rattle.std.proofs.Common.{sym, ◌∙◌}
use Rattle.server_step.specs.OneStore.{refusal_by}
use Rattle.server_step.proofs.refusals.refuse.Goals as goal

pub returns-then-not_taken : goal.returns-then-not_taken
unfolding refusal_by
returns-then-not_taken c = rw (sym c.not_taken.ensures ∙ c.if-not_taken.true)

pub returns-then-bad_numbers : goal.returns-then-bad_numbers
unfolding refusal_by
returns-then-bad_numbers c = rw (sym c.not_taken.ensures ∙ c.if-not_taken.false, sym c.bad_numbers.ensures ∙ c.if-bad_numbers.true)

pub returns-then-bad_pieces : goal.returns-then-bad_pieces
unfolding refusal_by
returns-then-bad_pieces c =
    rw (
      sym c.not_taken.ensures ∙ c.if-not_taken.false,
      sym c.bad_numbers.ensures ∙ c.if-bad_numbers.false,
      sym c.bad_pieces.ensures ∙ c.if-bad_pieces.true,
    )

pub returns-then-bad_sets : goal.returns-then-bad_sets
unfolding refusal_by
returns-then-bad_sets c =
    rw (
      sym c.not_taken.ensures ∙ c.if-not_taken.false,
      sym c.bad_numbers.ensures ∙ c.if-bad_numbers.false,
      sym c.bad_pieces.ensures ∙ c.if-bad_pieces.false,
      ← c.shards_of-touched.ensures,
      sym c.bad_sets.ensures ∙ c.if-bad_sets.true,
    )

pub returns-then-untouched : goal.returns-then-untouched
unfolding refusal_by
returns-then-untouched c =
    rw (
      sym c.not_taken.ensures ∙ c.if-not_taken.false,
      sym c.bad_numbers.ensures ∙ c.if-bad_numbers.false,
      sym c.bad_pieces.ensures ∙ c.if-bad_pieces.false,
      ← c.shards_of-touched.ensures,
      sym c.bad_sets.ensures ∙ c.if-bad_sets.false,
      sym c.untouched.ensures ∙ c.if-untouched.true,
    )

pub returns-then-other_pieces : goal.returns-then-other_pieces
unfolding refusal_by
returns-then-other_pieces c =
    rw (
      sym c.not_taken.ensures ∙ c.if-not_taken.false,
      sym c.bad_numbers.ensures ∙ c.if-bad_numbers.false,
      sym c.bad_pieces.ensures ∙ c.if-bad_pieces.false,
      ← c.shards_of-touched.ensures,
      sym c.bad_sets.ensures ∙ c.if-bad_sets.false,
      sym c.untouched.ensures ∙ c.if-untouched.false,
      sym c.other_pieces.ensures ∙ c.if-other_pieces.true,
    )

pub returns-then-other_set : goal.returns-then-other_set
unfolding refusal_by
returns-then-other_set c =
    rw (
      sym c.not_taken.ensures ∙ c.if-not_taken.false,
      sym c.bad_numbers.ensures ∙ c.if-bad_numbers.false,
      sym c.bad_pieces.ensures ∙ c.if-bad_pieces.false,
      ← c.shards_of-touched.ensures,
      sym c.bad_sets.ensures ∙ c.if-bad_sets.false,
      sym c.untouched.ensures ∙ c.if-untouched.false,
      sym c.other_pieces.ensures ∙ c.if-other_pieces.false,
      sym c.other_set.ensures ∙ c.if-other_set.true,
    )

pub returns : goal.returns
unfolding refusal_by
returns c =
    rw (
      sym c.not_taken.ensures ∙ c.if-not_taken.false,
      sym c.bad_numbers.ensures ∙ c.if-bad_numbers.false,
      sym c.bad_pieces.ensures ∙ c.if-bad_pieces.false,
      ← c.shards_of-touched.ensures,
      sym c.bad_sets.ensures ∙ c.if-bad_sets.false,
      sym c.untouched.ensures ∙ c.if-untouched.false,
      sym c.other_pieces.ensures ∙ c.if-other_pieces.false,
      sym c.other_set.ensures ∙ c.if-other_set.false,
    )
