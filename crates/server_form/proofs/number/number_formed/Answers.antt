-- `number::number_formed` meets its contract. Assumes nothing.
use Rattle.std.proofs.Common.{Bool, not, sym, ap, ◌∙◌}
use borrow.Author.Tests.{eq-eqb, ne_eqb}
use Rattle.server_form.specs.OnePass.{bare_formed}
use Rattle.server_form.proofs.NumberParts.{without-pieces, with-pieces}
use Rattle.server_form.proofs.number.number_formed.Goals as goal

pub returns-then-v-eq0 : goal.returns-then-v-eq0
returns-then-v-eq0 c = c.bare_formed.ensures ∙ ap (λ (b : Bool). bare_formed b c.args.v.now) c.has.ensures ∙ sym (without-pieces _ _ _ _ (ap not (eq-eqb _ 0 c.if-v-eq0.true)))

pub returns-else-v-eq0 : goal.returns-else-v-eq0
returns-else-v-eq0 c = c.held_formed.ensures ∙ sym (with-pieces _ _ _ _ (ap not (ne_eqb _ 0 c.if-v-eq0.false)))
