-- A flag is written, and then the ballot and the set where it is set. Assumes nothing.
use Rattle.std.proofs.Common.{arith}
use Rattle.rules.specs.Flags.{there}
use Rattle.wire.proofs.Lengths.{bool_length, maybe-vote-length}
use Rattle.parts.proofs.WriteParts.{maybe-vote-put}
use Rattle.parts.proofs.parts.MaybeVoteItem.put.Goals as goal

pub put-a-requires : goal.put-a-requires
put-a-requires c =
    let v = c.args.self.now in
    omega (arith, maybe-vote-length v, bool_length (there v.some), c.requires)

pub put_if-b-requires : goal.put_if-b-requires
put_if-b-requires c =
    let v = c.args.self.now in
    omega (arith, maybe-vote-length v, bool_length (there v.some), c.requires, c.put-a.ensures.next)

pub put_if-requires : goal.put_if-requires
put_if-requires c =
    let v = c.args.self.now in
    omega (arith, maybe-vote-length v, bool_length (there v.some), c.requires, c.put-a.ensures.next, c.put_if-b.ensures.next)

pub returns : goal.returns
returns c = maybe-vote-put _ _ c.args.self.now c.requires c.put-a.ensures c.put_if-b.ensures c.put_if.ensures c.put-a.auto.out
