-- `number::held_formed` meets its contract. Assumes nothing.
use Rattle.server_form.specs.OnePass.{held_formed}
use Rattle.server_form.proofs.number.held_formed.Goals as goal

pub returns : goal.returns
unfolding held_formed
returns c = rw (c.ran_formed.ensures, c.has.ensures, c.sets_kept.ensures, c.bad_ballot.ensures, c.is_empty.ensures, c.touched-touched.ensures)
