-- `changes::asked` meets its contract. Assumes nothing.
use borrow.Author.Tests.{eq-eqb, ne_eqb, lt-ltb, le-ltb}
use Rattle.server.specs.Changes.{asked}
use Rattle.server_change.proofs.changes.asked.Goals as goal

pub returns-then-v-ne0 : goal.returns-then-v-ne0
unfolding asked
returns-then-v-ne0 g c = λ d is. rw (c.done-reply.ensures, ne_eqb _ 0 c.if-v-ne0.true)

pub returns-then-m-v : goal.returns-then-m-v
unfolding asked
returns-then-m-v g c = λ d is. rw (c.behind-reply.ensures, eq-eqb _ 0 c.if-v-ne0.false, lt-ltb _ _ c.if-m-v.true)

pub returns : goal.returns
unfolding asked
returns g c = λ d is. rw (eq-eqb _ 0 c.if-v-ne0.false, le-ltb _ _ c.if-m-v.false) (is c.change.result c.change.ensures)
