-- The two are written in a row. Assumes nothing.
use Rattle.std.proofs.Common.{arith, length-append}
use Rattle.xdr.specs.Over.{put-put}
use Rattle.parts.proofs.parts.Tuple2MaybeWordMaybeVoteItem.put.Goals as goal

pub returns : goal.returns
returns c =
    let h = rw length-append at c.requires in
    put-put _ _ _ c.args.out.now (omega arith) c.put-a.ensures c.put.ensures
