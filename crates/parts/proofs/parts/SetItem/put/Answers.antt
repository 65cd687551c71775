-- Four words in a row are a set. Assumes nothing.
use Rattle.std.proofs.Common.{arith}
use Rattle.xdr.specs.Word.{be-length}
use Rattle.wire.proofs.Lengths.{set-length}
use Rattle.parts.proofs.WriteParts.{set-put}
use Rattle.parts.proofs.parts.SetItem.put.Goals as goal

pub put-a-requires : goal.put-a-requires
put-a-requires c =
    let v = c.args.self.now in
    omega (arith, set-length v, c.requires, be-length 8 v.w0)

pub put-b-requires : goal.put-b-requires
put-b-requires c =
    let v = c.args.self.now in
    omega (arith, set-length v, c.requires, be-length 8 v.w0, be-length 8 v.w1, c.put-a.ensures.next)

pub put-c-requires : goal.put-c-requires
put-c-requires c =
    let v = c.args.self.now in
    omega (arith, set-length v, c.requires, be-length 8 v.w0, be-length 8 v.w1, be-length 8 v.w2, c.put-a.ensures.next, c.put-b.ensures.next)

pub put-requires : goal.put-requires
put-requires c =
    let v = c.args.self.now in
    omega (arith, set-length v, c.requires, be-length 8 v.w0, be-length 8 v.w1, be-length 8 v.w2, be-length 8 v.w3, c.put-a.ensures.next, c.put-b.ensures.next, c.put-c.ensures.next)

pub returns : goal.returns
returns c =
    let l = set-length c.args.self.now in
    set-put _ _ c.args.self.now (omega (arith, l, c.requires)) c.put-a.ensures c.put-b.ensures c.put-c.ensures c.put.ensures
