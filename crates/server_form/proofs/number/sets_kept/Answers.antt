-- `number::sets_kept` meets its contract. Assumes nothing.
use Rattle.std.proofs.Common.{◌≡◌, not, ◌&&◌}
use borrow.Author.Tests.{eq-eqb, ne_eqb}
use Rattle.rules.specs.Flags.{there, implies}
use Rattle.rules.specs.Ballots.{bad_ballot}
use Rattle.rules.specs.Sets.{bad_word, bad_set}
use Rattle.server_form.specs.OnePass.{sets_kept}
use Rattle.server_form.proofs.number.sets_kept.Goals as goal
use Rattle.server_form.proofs.number.sets_kept.Goals.{then-v-eq0, else-v-eq0, then-v-eq0-2, else-v-eq0-2, then-v-eq0-3, else-v-eq0-3}

pub returns : goal.returns
unfolding sets_kept
returns c =
    let t = c.args.t in
    let touched = c.args.touched in
    let v = c.args.v.now in
    let arrival : c.if-v-eq0.arrival ≡ implies (there v.arrival.some) (not (bad_word t touched c.args.k v.arrival.word)) =
    elim c.if-v-eq0.branch [ then-v-eq0 w ↦ rw (w.arrival-is, eq-eqb _ 0 w.if-v-eq0.true) | else-v-eq0 w ↦ rw (w.arrival-is, ne_eqb _ 0 w.if-v-eq0.false, w.bad_word.ensures) ] in
    let accepted : c.if-v-eq0-2.accepted ≡ implies (there v.accepted.some) (not (bad_ballot v.accepted.ballot) && not (bad_set t touched v.accepted.set)) =
    elim c.if-v-eq0-2.branch [
      | then-v-eq0-2 w ↦ rw (w.accepted-is, eq-eqb _ 0 w.if-v-eq0-2.true)
      | else-v-eq0-2 w ↦ rw (w.accepted-is, ne_eqb _ 0 w.if-v-eq0-2.false, w.bad_ballot.ensures, w.bad_set.ensures)
    ] in
    let committed : c.if-v-eq0-3.committed ≡ implies (there v.committed.some) (not (bad_set t touched v.committed.set)) =
    elim c.if-v-eq0-3.branch [
      | then-v-eq0-3 w ↦ rw (w.committed-is, eq-eqb _ 0 w.if-v-eq0-3.true)
      | else-v-eq0-3 w ↦ rw (w.committed-is, ne_eqb _ 0 w.if-v-eq0-3.false, w.bad_set-else-v-eq0-3.ensures)
    ] in
    rw (arrival, accepted, committed)
