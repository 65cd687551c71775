-- The entries passed are new numbers, and the word holds them.
use Rattle.std.proofs.Common.{◌≡◌, true}
use Rattle.masks.specs.Folds.{all_below}
use Rattle.server.specs.Form.{logged}
use Rattle.server_form.specs.OnePass.{entry_new}
use Rattle.server_form.proofs.log.read_log.Given as goal

abbrev pub invariant-loop-entry : goal.invariant-loop-entry
invariant-loop-entry l = (all_below (entry_new l.l) l.entry-index ≡ true) × (l.word ≡ logged l.l l.entry-index)
