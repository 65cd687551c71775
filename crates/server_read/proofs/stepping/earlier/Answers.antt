-- `server_read::stepping::earlier` meets its contract: each record is read in its place. Assumes nothing.
use Rattle.std.proofs.Common.{◌≡◌, ap, ◌∙◌, arith}
use Rattle.masks.proofs.Turns.{mask-none, mask_step}
use Rattle.server_read.specs.InPlace.{earlier_in}
use Rattle.server_read.proofs.stepping.earlier.Goals as goal

pub loop-t-init : goal.loop-t-init
unfolding earlier_in
loop-t-init c = mask-none _

pub loop-t-preserved : goal.loop-t-preserved
unfolding earlier_in
loop-t-preserved c = rw (mask_step, c.put-word.ensures, c.came_earlier.ensures, c.loop-t.invariant)

pub returns : goal.returns
returns c =
    let end : c.loop-t.t ≡ 64 = omega arith in
    c.loop-t.invariant ∙ ap (earlier_in c.args.s.now c.args.keys c.args.k) end
