-- `number::ran_formed` meets its contract. Assumes nothing.
use Rattle.masks.proofs.Bools.{not_not}
use Rattle.server_form.specs.OnePass.{logged_formed, ran_formed}
use Rattle.server_form.proofs.number.ran_formed.Goals as goal

pub returns-then-not-logged : goal.returns-then-not-logged
unfolding ran_formed
returns-then-not-logged c = rw (c.if-not-logged.true, not_not)

pub returns : goal.returns
unfolding ran_formed logged_formed
returns c = rw (c.if-not-logged.false, c.within.ensures, c.members.ensures, c.pieces_on.ensures)
