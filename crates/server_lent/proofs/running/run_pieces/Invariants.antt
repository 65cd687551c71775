-- The first i pieces have run.
use Rattle.std.proofs.Common.{◌≡◌}
use Rattle.server.specs.Held.{record_at}
use Rattle.server_lent.specs.Listed.{ran_pieces, with_counters}
use Rattle.server_lent.proofs.running.run_pieces.Given as goal

abbrev pub invariant-loop-i : goal.invariant-loop-i
invariant-loop-i l =
    let so_far = ran_pieces (record_at l.initial.s l.u).pieces l.k l.initial.s.counters l.i in
    (l.v ≡ so_far.values) × (l.s ≡ with_counters l.initial.s so_far.counters)
