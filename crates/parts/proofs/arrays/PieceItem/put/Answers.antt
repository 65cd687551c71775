-- Four numbers in a row are a piece. Assumes nothing.
use Rattle.std.proofs.Common.{arith}
use Rattle.xdr.specs.Word.{be-length}
use Rattle.wire.proofs.Lengths.{piece-length, int-length}
use Rattle.parts.proofs.WriteParts.{piece-put}
use Rattle.parts.proofs.arrays.PieceItem.put.Goals as goal

pub put-a-requires : goal.put-a-requires
put-a-requires c =
    let p = c.args.self.now in
    omega (arith, piece-length p, c.requires, be-length 4 p.shard)

pub put-b-requires : goal.put-b-requires
put-b-requires c =
    let p = c.args.self.now in
    omega (arith, piece-length p, c.requires, be-length 4 p.shard, be-length 4 p.key, c.put-a.ensures.next)

pub put-c-requires : goal.put-c-requires
put-c-requires c =
    let p = c.args.self.now in
    omega (arith, piece-length p, c.requires, be-length 4 p.shard, be-length 4 p.key, be-length 4 p.kind, c.put-a.ensures.next, c.put-b.ensures.next)

pub put-requires : goal.put-requires
put-requires c =
    let p = c.args.self.now in
    omega (arith, piece-length p, c.requires, be-length 4 p.shard, be-length 4 p.key, be-length 4 p.kind, int-length p.operand, c.put-a.ensures.next, c.put-b.ensures.next, c.put-c.ensures.next)

pub returns : goal.returns
returns c =
    let p = c.args.self.now in
    let l = piece-length p in
    piece-put _ _ p (omega (arith, c.requires)) c.put-a.ensures c.put-b.ensures c.put-c.ensures c.put.ensures
