-- A flag, and then the word where it is set. Assumes nothing.
use Rattle.std.proofs.Common.{◌∙◌}
use Rattle.parts.proofs.ReadParts.{told, maybe-word-read}
use Rattle.parts.proofs.parts.MaybeWordItem.get.Goals as goal

pub returns : goal.returns
returns c = maybe-word-read _ _ c.get_bool-there.ensures c.get_if-word.ensures (c.from.ensures ∙ told _)
