-- `graph::group` meets its contract: after u turns the word has those below u that t is before.
-- Assumes nothing.
use mathlib.Core.Path.{◌≡◌, ap, ◌∙◌}
use native.Mathlib.Omega.{arith}
use Rattle.masks.specs.Folds.{mask_of}
use Rattle.masks.proofs.Turns.{mask-none, mask_step}
use Rattle.graph.specs.Walk.{before}
use Rattle.graph.proofs.InWords.{group-word}
use Rattle.graph.proofs.group.Goals as goal

pub loop-u-init : goal.loop-u-init
loop-u-init c = mask-none _

pub loop-u-preserved : goal.loop-u-preserved
unfolding before
loop-u-preserved c = rw (mask_step, c.put-after.ensures, c.has.ensures, c.loop-u.invariant)

pub returns : goal.returns
returns c =
    let rows = c.args.rows.now in
    let t = c.args.t in
    let end : c.loop-u.u ≡ 64 = omega arith in
    let after = c.loop-u.invariant ∙ ap (mask_of (before rows t)) end in
    rw (c.insert.ensures, c.both.ensures, after) (group-word rows t (c.fits-rows t) c.requires)
