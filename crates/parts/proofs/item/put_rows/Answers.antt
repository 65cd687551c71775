-- The count is written, and then the entries. Assumes nothing.
use Rattle.std.proofs.Common.{arith, length-append, take}
use Rattle.std.proofs.lemmas.List.{take_min}
use Rattle.xdr.specs.Word.{be, be-length}
use Rattle.xdr.specs.Form.{flat}
use Rattle.xdr.specs.Over.{put-put}
use Rattle.parts.proofs.item.put_rows.Goals as goal

pub put-entries-requires : goal.put-entries-requires
put-entries-requires g c =
    let a = c.args in
    omega (arith, length-append (be 4 a.count) (flat g.T.Item.form (take a.count a.list.now)), be-length 4 a.count, c.requires)

pub returns : goal.returns
returns g c =
    let a = c.args in
    let F = g.T.Item.form in
    let q = rw (c.min-n.ensures, take_min) at c.put_all.ensures in
    put-put a.at (be 4 a.count) (flat F (take a.count a.list.now)) a.out.now (omega (arith, length-append (be 4 a.count) (flat F (take a.count a.list.now)), c.requires)) c.put-entries.ensures q
