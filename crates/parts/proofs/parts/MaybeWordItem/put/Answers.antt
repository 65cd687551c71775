-- A flag is written, and then the word where it is set. Assumes nothing.
use Rattle.std.proofs.Common.{arith}
use Rattle.rules.specs.Flags.{there}
use Rattle.wire.proofs.Lengths.{bool_length, maybe-word-length}
use Rattle.parts.proofs.WriteParts.{maybe-word-put}
use Rattle.parts.proofs.parts.MaybeWordItem.put.Goals as goal

pub put-a-requires : goal.put-a-requires
put-a-requires c =
    let v = c.args.self.now in
    omega (arith, maybe-word-length v, bool_length (there v.some), c.requires)

pub put_if-requires : goal.put_if-requires
put_if-requires c =
    let v = c.args.self.now in
    omega (arith, maybe-word-length v, bool_length (there v.some), c.requires, c.put-a.ensures.next)

pub returns : goal.returns
returns c = maybe-word-put _ _ c.args.self.now c.requires c.put-a.ensures c.put_if.ensures
