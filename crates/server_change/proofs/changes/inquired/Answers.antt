-- `changes::inquired` meets its contract. Assumes nothing.
use borrow.Author.Tests.{eq-eqb, ne_eqb}
use Rattle.server.specs.Changes.{inquired}
use Rattle.server_change.proofs.changes.inquired.Goals as goal
use Rattle.server_change.proofs.changes.inquired.Goals.{then-v-ne0, else-v-ne0}

pub returns : goal.returns
unfolding inquired
returns c =
    elim c.if-v-ne0.branch [
      | then-v-ne0 w ↦ rw (w.reply-is, w.done-reply.ensures, ne_eqb _ 0 w.if-v-ne0.true)
      | else-v-ne0 w ↦ rw (w.reply-is, w.not_yet-reply.ensures, eq-eqb _ 0 w.if-v-ne0.false)
    ]
