-- A flag, and then the ballot and the set where it is set. Assumes nothing.
use Rattle.std.proofs.Common.{◌∙◌}
use Rattle.parts.proofs.ReadParts.{told, maybe-vote-read}
use Rattle.parts.proofs.parts.MaybeVoteItem.get.Goals as goal

pub returns : goal.returns
returns c = maybe-vote-read _ _ c.get_bool-there.ensures c.get_if-ballot.ensures c.get_if-set.ensures (c.from.ensures ∙ told _)
