-- The answer decides; a refusal is written after the letter and a space. Assumes nothing.
use native.Mathlib.Omega.{arith}
use Rattle.xdr.specs.Over.{put-put}
use Rattle.capture.specs.Text.{shown}
use Rattle.capture.proofs.text.put_shown.Goals as goal

pub returns-in-Refusal : goal.returns-in-Refusal
unfolding shown
returns-in-Refusal c =
    let z = c.args.out.now in
    let two = put-put _ _ _ z (omega arith) c.put_byte-a.ensures c.put_byte-b.ensures in
    rw c.in-Refusal.is (put-put _ _ _ z (omega arith) two (rw c.from-in-Refusal.ensures at c.put_decimal-in-Refusal.ensures))
