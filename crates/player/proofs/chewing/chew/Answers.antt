-- A turn is one bite, whose line is written after the last; what stops the loop stops the definition.
use Rattle.std.proofs.Common.{◌≡◌, ◌-◌, length, drop, sym, ap, ◌∙◌, arith, length-set, length-drop, length-take}
use Rattle.std.proofs.lemmas.List.{take_rest}
use Rattle.player.specs.Replay.{played}
use Rattle.player.specs.Walking.{seen}
use Rattle.player.proofs.Bites.{so_far_none, Goes, going_has, takes_some, takes_within, fed_long, so_far_whole, so_far_rest, so_far_ends, fed_plays, unfed_plays, none_stops, no_going, no_room}
use Rattle.player.proofs.chewing.chew.Goals as goal
use Rattle.player.proofs.chewing.chew.Goals.{in-Some, in_default}

pub loop-at-init : goal.loop-at-init
loop-at-init c = so_far_none c.args.p.walk c.args.p.servers c.args.portion.now c.args.out.now c.well_formed.0.1.1.1.0.1.0.1

pub bitten-w-requires : goal.bitten-w-requires
bitten-w-requires c = going_has c.loop-at.walk (sym c.going.ensures ∙ c.if-going.true)

pub overflow_add-at : goal.overflow_add-at
overflow_add-at c =
    let taken = rw take_rest at c.takes-taken.ensures in
    omega (arith, taken, takes_within c.loop-at.walk c.args.portion.now c.loop-at.at c.loop-at.invariant.taken)

pub slice_bounds-drobulets_server_take-count : goal.slice_bounds-drobulets_server_take-count
slice_bounds-drobulets_server_take-count c =
    let n = c.bitten-w.result in
    omega (arith, fed_long (seen n) c.in-Some.to (rw c.look-l.ensures.is at c.in-Some.is), length-take n.have n.kept)

pub slice_bounds-drobulets_server_take-start : goal.slice_bounds-drobulets_server_take-start
slice_bounds-drobulets_server_take-start c =
    let n = c.bitten-w.result in
    omega (arith, fed_long (seen n) c.in-Some.to (rw c.look-l.ensures.is at c.in-Some.is), length-take n.have n.kept)

pub loop-at-smaller-then-whole : goal.loop-at-smaller-then-whole
loop-at-smaller-then-whole c =
    let xs = c.args.portion.now in
    let room = length c.args.out.now - c.loop-at.made in
    let g : Goes c.loop-at.walk (drop c.loop-at.at xs) room =
    record { going = sym c.going.ensures ∙ c.if-going.true; bytes = omega (arith, length-drop c.loop-at.at xs); room = omega arith } in
    let taken = rw take_rest at c.takes-taken.ensures in
    omega (arith, taken, takes_some c.loop-at.walk (drop c.loop-at.at xs) room g)

pub loop-at-preserved-then-whole : goal.loop-at-preserved-then-whole
loop-at-preserved-then-whole c =
    let xs = c.args.portion.now in
    let vs = c.loop-at.servers in
    let n = c.bitten-w.result in
    let l = c.look-l.result in
    let room = length c.args.out.now - c.loop-at.made in
    let g : Goes c.loop-at.walk (drop c.loop-at.at xs) room =
    record { going = sym c.going.ensures ∙ c.if-going.true; bytes = omega (arith, length-drop c.loop-at.at xs); room = omega arith } in
    let taken = rw take_rest at c.takes-taken.ensures in
    let bitten = rw take_rest at c.bitten-w.ensures.is in
    let plays : played vs (seen n) ≡ record { told = c.match-l.told; servers = c.match-l.servers } =
    elim c.match-l.branch [
      | in-Some w ↦ fed_plays vs n l w.in-Some.to _ w.drobulets_server_take-a.result w.drobulets_server_take-a.new.s w.drobulets_server_take-a.new.output w.answered-told.result c.loop-at.invariant.long c.look-l.ensures.is (rw w.in-Some.is at c.look-l.ensures.server) w.in-Some.is w.drobulets_server_take-a.ensures w.answered-told.ensures ∙ rw (w.told-is, w.servers-is)
      | in_default w ↦ unfed_plays vs n l c.look-l.ensures.is w.in_default.is ∙ rw (w.told-is, w.servers-is)
    ] in
    let long : length c.match-l.servers ≡ 12 =
    elim c.match-l.branch [
      | in-Some w ↦ ap length w.servers-is ∙ length-set vs w.in-Some.to w.drobulets_server_take-a.new.s ∙ c.loop-at.invariant.long
      | in_default w ↦ ap length w.servers-is ∙ c.loop-at.invariant.long
    ] in
    rw (taken, c.after_data-walk.ensures)
    (so_far_whole c.loop-at.invariant g n (record { told = c.match-l.told; servers = c.match-l.servers }) c.put_line-made.result c.put_line-made.new.out bitten (sym c.whole.ensures ∙ c.if-whole.true) plays long c.put_line-made.ensures)

pub loop-at-smaller : goal.loop-at-smaller
loop-at-smaller c =
    let xs = c.args.portion.now in
    let room = length c.args.out.now - c.loop-at.made in
    let g : Goes c.loop-at.walk (drop c.loop-at.at xs) room =
    record { going = sym c.going.ensures ∙ c.if-going.true; bytes = omega (arith, length-drop c.loop-at.at xs); room = omega arith } in
    let taken = rw take_rest at c.takes-taken.ensures in
    omega (arith, taken, takes_some c.loop-at.walk (drop c.loop-at.at xs) room g)

pub loop-at-preserved : goal.loop-at-preserved
loop-at-preserved c =
    let xs = c.args.portion.now in
    let room = length c.args.out.now - c.loop-at.made in
    let g : Goes c.loop-at.walk (drop c.loop-at.at xs) room =
    record { going = sym c.going.ensures ∙ c.if-going.true; bytes = omega (arith, length-drop c.loop-at.at xs); room = omega arith } in
    let taken = rw take_rest at c.takes-taken.ensures in
    let bitten = rw take_rest at c.bitten-w.ensures.is in
    rw taken (so_far_rest c.loop-at.invariant g c.bitten-w.result bitten (sym c.whole.ensures ∙ c.if-whole.false))

pub returns-else-out-made-ge-LINE : goal.returns-else-out-made-ge-LINE
returns-else-out-made-ge-LINE c =
    so_far_ends c.loop-at.invariant (no_room c.loop-at.walk (drop c.loop-at.at c.args.portion.now) (length c.args.out.now - c.loop-at.made) (omega arith))

pub returns-else-going : goal.returns-else-going
returns-else-going c = so_far_ends c.loop-at.invariant (no_going c.loop-at.walk _ _ (sym c.going.ensures ∙ c.if-going.false))

pub returns-after-loop-at : goal.returns-after-loop-at
returns-after-loop-at c =
    so_far_ends c.loop-at.invariant (none_stops c.loop-at.walk (drop c.loop-at.at c.args.portion.now) _ (omega (arith, length-drop c.loop-at.at c.args.portion.now)))
