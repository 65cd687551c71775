-- The lines that were made are within the output, and what was taken is within what was read.
use Rattle.std.proofs.Common.{◌-◌, take, drop, sym, arith, length-take, length-take-le}
use Rattle.player.proofs.Bites.{made_fits, took_within, end_fits}
use Rattle.replay.proofs.play.Goals as goal

pub slice_bounds-output-end : goal.slice_bounds-output-end
slice_bounds-output-end g c = made_fits _ _ _ _ c.chew-p.result c.chew-p.new.out c.chew-p.ensures c.chew-p.auto.out

pub slice_bounds-write_all-end : goal.slice_bounds-write_all-end
slice_bounds-write_all-end g c = sym (length-take-le c.chew-p.result.made c.chew-p.new.out (made_fits _ _ _ _ c.chew-p.result c.chew-p.new.out c.chew-p.ensures c.chew-p.auto.out))

pub overflow_add-at : goal.overflow_add-at
overflow_add-at g c = omega (arith, took_within _ _ (take (c.in-Ok.n - c.loop-at.at) (drop c.loop-at.at c.read.new.buf)) _ c.chew-p.result c.chew-p.ensures.0)

pub loop-at-preserved : goal.loop-at-preserved
loop-at-preserved g c =
    let xs = take (c.in-Ok.n - c.loop-at.at) (drop c.loop-at.at c.read.new.buf) in
    omega (arith, took_within _ _ xs _ c.chew-p.result c.chew-p.ensures.0, length-take (c.in-Ok.n - c.loop-at.at) (drop c.loop-at.at c.read.new.buf))

pub slice_bounds-output-end-2 : goal.slice_bounds-output-end-2
slice_bounds-output-end-2 g c = end_fits _ _ _ c.finish-made.new.out c.finish-made.ensures.long c.finish-made.ensures.bytes c.finish-made.auto.out

pub slice_bounds-write_all-end-2 : goal.slice_bounds-write_all-end-2
slice_bounds-write_all-end-2 g c =
    sym (length-take-le c.finish-made.result c.finish-made.new.out (end_fits _ _ _ c.finish-made.new.out c.finish-made.ensures.long c.finish-made.ensures.bytes c.finish-made.auto.out))
