-- A number and a flag are a result. Assumes nothing.
use Rattle.std.proofs.Common.{arith}
use Rattle.rules.specs.Flags.{there}
use Rattle.wire.proofs.Lengths.{int-length, bool_length, value-length}
use Rattle.parts.proofs.WriteParts.{value-put}
use Rattle.parts.proofs.arrays.ValueItem.put.Goals as goal

pub put-a-requires : goal.put-a-requires
put-a-requires c =
    let v = c.args.self.now in
    omega (arith, value-length v, c.requires, int-length v.value)

pub put-requires : goal.put-requires
put-requires c =
    let v = c.args.self.now in
    omega (arith, value-length v, c.requires, int-length v.value, bool_length (there v.kept), c.put-a.ensures.next)

pub returns : goal.returns
returns c =
    let v = c.args.self.now in
    let l = value-length v in
    value-put _ _ v (omega (arith, c.requires)) c.put-a.ensures c.put.ensures
