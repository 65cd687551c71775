-- `server_read::stepping::weigh` meets its contract: the record of T is read in its place, and then the records that come to ask.
use Rattle.std.proofs.Common.{◌≡◌, cond, ◌&&◌}
use Rattle.std.proofs.lemmas.Result.{err_from_is_err_and}
use lib.Dec.{eqb}
use Rattle.wire.specs.Codes.{PreAccept}
use Rattle.rules.specs.Keys.{keys_on}
use Rattle.server.specs.Held.{record_at}
use Rattle.server_read.specs.InPlace.{earlier_in, considered_by}
use Rattle.server_read.proofs.StepInPlace.{taken-by}
use Rattle.server_read.proofs.stepping.weigh.Goals as goal
use Rattle.server_read.proofs.stepping.weigh.Goals.{then-fixes, else-fixes}

pub returns-in_err-refuse-clause-refusal : goal.returns-in_err-refuse-clause-refusal
unfolding considered_by
returns-in_err-refuse-clause-refusal c =
    let p = err_from_is_err_and c.from_residual.result c.from_residual.ensures.1 in
    rw (← c.place_of-place.ensures.value, ← c.in_err-refuse.ensures, p.1, p.2)

pub returns-clause-refusal : goal.returns-clause-refusal
unfolding considered_by
returns-clause-refusal c = rw (← c.place_of-place.ensures.value) c.in_ok-refuse.ensures

pub returns-clause-taken : goal.returns-clause-taken
returns-clause-taken c =
    let s = c.args.s.now in
    let m = c.args.m.now in
    let i = c.place_of-place.result in
    let k = c.args.f.shard in
    let word : c.if-fixes.word ≡ cond (eqb m.code PreAccept && eqb (record_at s i).arrival.some 0) (earlier_in s (keys_on m.pieces k) k 64) 0 =
    elim c.if-fixes.branch [
      | then-fixes w ↦ rw (w.word-is, w.if-fixes.true, w.earlier-word.ensures, w.keys_on.ensures)
      | else-fixes w ↦ rw (w.word-is, w.if-fixes.false)
    ] in
    taken-by s c.args.f m i c.place_of-place.ensures.value c.in_ok-refuse.ensures c.if-fixes.word word c.change-c.result c.change-c.ensures
