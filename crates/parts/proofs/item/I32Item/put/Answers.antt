-- The tail is lent, and four bytes are written at its front. Assumes nothing.
use Rattle.std.proofs.Common.{FitsSigned, refl, ap, ◌∙◌, ℤ, ◌-◌, length, take, drop, arith, to_z-of_z}
use Rattle.std.specs.Int.{w32}
use Rattle.xdr.specs.Word.{be}
use Rattle.xdr.specs.Form.{int}
use Rattle.xdr.specs.Over.{over, put-part, part_room}
use Rattle.parts.proofs.item.I32Item.put.Goals as goal

pub put_i32-requires : goal.put_i32-requires
unfolding int be
put_i32-requires c = part_room _ 4 c.args.out.now c.requires

pub returns : goal.returns
unfolding int be
returns c =
    let z = c.args.out.now in
    let at = c.args.at in
    let v = c.args.self.now in
    let f : FitsSigned w32 v = record { sfits = omega arith } in
    let e = ap (λ (o : ℤ). over (int.put o) (take (length z - at) (drop at z))) (to_z-of_z f) in
    put-part at (length z - at) (int.put v) z (c.put_i32.ensures ∙ e) refl refl
