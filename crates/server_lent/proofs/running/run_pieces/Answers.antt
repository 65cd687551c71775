-- `server_lent::running::run_pieces` meets its contract: of each piece the counter and the result are stored, each in its place.
use Rattle.std.proofs.Common.{◌≡◌, ◌<◌, ◌∙◌, refl, ap, ap₂, arith, add-one, ℕ, suc, get_or}
use borrow.Author.Tests.{eq-eqb, ne_eqb}
use Rattle.masks.specs.Folds.{iter}
use Rattle.rules.specs.declared.Values.{Values}
use Rattle.rules.specs.Pieces.{piece_at}
use Rattle.rules.specs.Values.{with_value}
use Rattle.counters.specs.Effects.{zeroed, with_counter}
use Rattle.counters.specs.InPlace.{place_of, run_at}
use Rattle.rules.proofs.OnePass.{used_le}
use Rattle.counters.specs.declared.Executed.{Executed}
use Rattle.counters.proofs.InPlace as in_place
use Rattle.server.specs.declared.Server.{Server}
use Rattle.server.specs.Held.{record_at}
use Rattle.server_lent.specs.Listed.{ran_pieces, piece_turn, with_counters}
use Rattle.server_lent.proofs.RunInPlace.{results_few}
use Rattle.server_lent.proofs.running.run_pieces.Goals as goal
use Rattle.server_lent.proofs.running.run_pieces.Goals.{then-p-k, else-p-k}

pub loop-i-init : goal.loop-i-init
unfolding ran_pieces iter
loop-i-init c = (c.no_values-v.ensures, refl)

-- fewer pieces have run than there are places, and each has at most one result
pub offset_bounds-s-i : goal.offset_bounds-s-i
offset_bounds-s-i c =
    let few : c.loop-i.i < 8 = omega (arith, used_le (record_at c.args.s.now c.args.u).pieces.count) in
    record { fits = omega arith }

pub bounds-s-i : goal.bounds-s-i
bounds-s-i c =
    omega (arith, used_le (record_at c.args.s.now c.args.u).pieces.count)

pub offset_bounds-s-at : goal.offset_bounds-s-at
offset_bounds-s-at c =
    let h : c.place_of-at.result < 16 = in_place.place_lt _ _ c.place_of-at.ensures in
    record { fits = omega arith }

pub bounds-s-at : goal.bounds-s-at
bounds-s-at c =
    in_place.place_lt _ _ c.place_of-at.ensures

pub offset_bounds-s-at-then-p-k : goal.offset_bounds-s-at-then-p-k
offset_bounds-s-at-then-p-k c =
    let h : c.place_of-at.result < 16 = in_place.place_lt _ _ c.place_of-at.ensures in
    record { fits = omega arith }

pub bounds-s-at-then-p-k : goal.bounds-s-at-then-p-k
bounds-s-at-then-p-k c =
    in_place.place_lt _ _ c.place_of-at.ensures

pub overflow_cast-v : goal.overflow_cast-v
overflow_cast-v c =
    let x = record_at c.args.s.now c.args.u in
    let few : c.loop-i.i < 8 = omega (arith, used_le x.pieces.count) in
    let room : c.loop-i.v.count < 8 = omega (arith, ap (λ (v : Values). v.count) c.loop-i.invariant.0, results_few x.pieces c.args.k c.args.s.now.counters c.loop-i.i) in
    record { fits = omega arith }

pub offset_bounds-v-v : goal.offset_bounds-v-v
offset_bounds-v-v c =
    let x = record_at c.args.s.now c.args.u in
    let few : c.loop-i.i < 8 = omega (arith, used_le x.pieces.count) in
    let room : c.loop-i.v.count < 8 = omega (arith, ap (λ (v : Values). v.count) c.loop-i.invariant.0, results_few x.pieces c.args.k c.args.s.now.counters c.loop-i.i) in
    record { fits = omega arith }

pub bounds-v-v : goal.bounds-v-v
bounds-v-v c =
    let x = record_at c.args.s.now c.args.u in
    let few : c.loop-i.i < 8 = omega (arith, used_le x.pieces.count) in
    let room : c.loop-i.v.count < 8 = omega (arith, ap (λ (v : Values). v.count) c.loop-i.invariant.0, results_few x.pieces c.args.k c.args.s.now.counters c.loop-i.i) in
    room

pub overflow_add-v : goal.overflow_add-v
overflow_add-v c =
    let x = record_at c.args.s.now c.args.u in
    let few : c.loop-i.i < 8 = omega (arith, used_le x.pieces.count) in
    let room : c.loop-i.v.count < 8 = omega (arith, ap (λ (v : Values). v.count) c.loop-i.invariant.0, results_few x.pieces c.args.k c.args.s.now.counters c.loop-i.i) in
    record { fits = omega arith }

-- one turn over a lent server and the results so far, and what it makes of a piece that is here, or is not
abbrev turned : ℕ → ℕ → ℕ → Server → Values → Executed
turned u k i s v = piece_turn (record_at s u).pieces k i (record { counters = s.counters; values = v })

abbrev made : ℕ → ℕ → Server → Values → Executed
made u i s v =
    let p = piece_at (record_at s u).pieces i in
    let x = run_at p (get_or s.counters.list (place_of p.key) zeroed) in
    record { counters = with_counter s.counters (place_of p.key) x.counter; values = with_value v x.result }

here : (u k i : ℕ) (s : Server) (v : Values) → (piece_at (record_at s u).pieces i).shard ≡ k → made u i s v ≡ turned u k i s v
here u k i s v e = rw (eq-eqb (piece_at (record_at s u).pieces i).shard k e)

elsewhere : (u k i : ℕ) (s : Server) (v : Values) → ((piece_at (record_at s u).pieces i).shard ≡ k → ⊥) → record { counters = s.counters; values = v } ≡ turned u k i s v
elsewhere u k i s v n = rw (ne_eqb (piece_at (record_at s u).pieces i).shard k n)

pub loop-i-preserved : goal.loop-i-preserved
unfolding ran_pieces iter
loop-i-preserved c =
    let u = c.args.u in
    let k = c.args.k in
    let i = c.loop-i.i in
    let s = c.loop-i.s in
    let v = c.loop-i.v in
    let inv = c.loop-i.invariant in
    let so_far = ran_pieces (record_at c.args.s.now u).pieces k c.args.s.now.counters (suc i) in
    let more : turned u k i s v ≡ so_far = ap₂ (turned u k i) inv.1 inv.0 in
    rw (add-one i)
    (elim c.if-p-k.branch [
      | then-p-k w ↦
          let m : made u i s v ≡ so_far = here u k i s v w.if-p-k.true ∙ more in (
            w.v-is ∙ rw (w.run_at-x.ensures, w.place_of-at.ensures) (ap (λ (e : Executed). e.values) m),
            w.s-is ∙ rw (w.run_at-x.ensures, w.place_of-at.ensures) (ap₂ (λ (z : Server) (e : Executed). with_counters z e.counters) inv.1 m),
          )
      | else-p-k w ↦
          let m : record { counters = s.counters; values = v } ≡ so_far = elsewhere u k i s v w.if-p-k.false ∙ more in (
            w.v-is ∙ ap (λ (e : Executed). e.values) m,
            w.s-is ∙ ap₂ (λ (z : Server) (e : Executed). with_counters z e.counters) inv.1 m,
          )
    ])
