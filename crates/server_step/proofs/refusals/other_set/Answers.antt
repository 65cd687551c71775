-- `refusals::other_set` meets its contract. Assumes nothing.
use Rattle.std.proofs.Common.{rules, ◌≡◌, not}
use Rattle.rules.specs.Sets.{same_set}
use Rattle.server.specs.Refusals.{other_set}
use Rattle.server_step.proofs.refusals.other_set.Goals as goal

pub returns : goal.returns
unfolding other_set same_set
returns c =
    let differ : c.ne.result ≡ not (same_set c.args.v.now.committed.set c.args.m.now.set) = search rules in
    rw (c.commits.ensures, differ)
