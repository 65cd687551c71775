-- `changes::committed` meets its contract. Assumes nothing.
use borrow.Author.Tests.{eq-eqb, ne_eqb}
use Rattle.server.specs.Changes.{committed}
use Rattle.server_change.proofs.changes.committed.Goals as goal
use Rattle.server_change.proofs.changes.committed.Goals.{then-v-eq0, else-v-eq0}

pub returns : goal.returns
unfolding committed
returns c =
    rw c.commit_ok-reply.ensures
    (elim c.if-v-eq0.branch [
      | then-v-eq0 w ↦ rw (w.after-is, eq-eqb _ 0 w.if-v-eq0.true)
      | else-v-eq0 w ↦ rw (w.after-is, ne_eqb _ 0 w.if-v-eq0.false)
    ])
