-- `number::bare_formed` meets its contract. Assumes nothing.
use Rattle.std.proofs.Common.{◌≡◌, not}
use Rattle.masks.proofs.Bools.{not_not}
use Rattle.rules.specs.Ballots.{bad_ballot}
use Rattle.server_form.specs.OnePass.{bare_formed}
use Rattle.server_form.proofs.number.bare_formed.Goals as goal
use Rattle.server_form.proofs.number.bare_formed.Goals.{then-v-eq0, else-v-eq0}

pub returns : goal.returns
unfolding bare_formed
returns c =
    let promise : c.if-v-eq0.result ≡ not (bad_ballot c.args.v.now.promise) =
    elim c.if-v-eq0.branch [ then-v-eq0 w ↦ rw (w.result-is, w.if-v-eq0.true) | else-v-eq0 w ↦ rw (w.result-is, w.bad_ballot.ensures) ] in
    rw promise (simp not_not)
