-- The numbers below t keep the form.
use Rattle.std.proofs.Common.{◌≡◌, true}
use Rattle.masks.specs.Folds.{all_below}
use Rattle.server_form.specs.OnePass.{number_formed_at}
use Rattle.server_read.proofs.form.read_form.Given as goal

abbrev pub invariant-loop-t : goal.invariant-loop-t
invariant-loop-t l = all_below (number_formed_at l.s l.word) l.t ≡ true
