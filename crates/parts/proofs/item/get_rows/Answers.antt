-- A count, and then that many entries. Assumes nothing.
use Rattle.std.proofs.Common.{◌≡◌, ap, ◌∙◌, ◌++◌, length, take, drop, length-take-le, arith}
use Rattle.std.proofs.lemmas.List.{drop-replicate}
use Rattle.xdr.specs.Array.{filled-rows}
use Rattle.xdr.specs.Reading.{count_small}
use Rattle.parts.proofs.item.get_rows.Goals as goal

pub returns : goal.returns
returns g c =
    let a = c.args in
    let n = c.get_count-count.result.v in
    let few = count_small c.get_count-count.ensures in
    let l : length (take n a.list.now) ≡ n = length-take-le n a.list.now (omega (arith, ap length c.requires)) in
    let e = rw l at c.get_all-next.ensures in
    filled-rows g.T.Item.form g.T.Item.blank a.s.now a.c c.get_count-count.ensures
    (λ i. e.0 i ++ (ap (drop n) c.requires ∙ drop-replicate n 8 g.T.Item.blank) i, e.1)
