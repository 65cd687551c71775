-- `refusals::other_pieces` meets its contract. Assumes nothing.
use Rattle.server.specs.Refusals.{other_pieces}
use Rattle.server_step.proofs.refusals.other_pieces.Goals as goal

pub returns-then-both : goal.returns-then-both
unfolding other_pieces
returns-then-both c =
    let h = rw c.shape_of.ensures at c.if-both.true in
    rw (c.same_pieces.ensures, h)

pub returns-else-both : goal.returns-else-both
unfolding other_pieces
returns-else-both c = let h = rw c.shape_of.ensures at c.if-both.false in rw h c.if-both.false
