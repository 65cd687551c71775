-- `transaction::touched` meets its contract: the word holds the shards of the pieces passed, and `kept` says whether they keep rule 2. Assumes nothing.
use mathlib.Core.Path.{◌≡◌, refl, sym, ap, ◌∙◌}
use borrow.Author.Tests.{leb-true, lt-ltb}
use Rattle.rules.specs.Pieces.{touched_by}
use lib.Dec.{leb}
use Rattle.rules.proofs.OnePass.{shards_passed, shards-none, shards-step}
use mathlib.Core.Bool.{true, false, ◌&&◌}
use native.Mathlib.Omega.{arith}
use Rattle.rules.proofs.TouchedWord.{last_none, last_step, entry-rises, walked}
use Rattle.masks.specs.Folds.{all_below}
use Rattle.rules.specs.Pieces.{entry_kept, pieces_kept}
use Rattle.masks.proofs.Turns.{all_none, all-step}
use Rattle.masks.proofs.Bools.{and_yes_r, not_yes, not_no}
use borrow.Author.Rules.{rules}
use Rattle.transaction.proofs.touched.Goals as goal

pub returns-then-not-enough : goal.returns-then-not-enough
unfolding touched_by pieces_kept
returns-then-not-enough c = let n = c.args.ps.count in rw (not_yes (leb 1 n && leb n 8) c.if-not-enough.true-raw)

pub loop-i-init : goal.loop-i-init
loop-i-init c =
    let n = c.args.ps.count in
    (leb-true n 8 (and_yes_r (leb 1 n) (leb n 8) (not_no (leb 1 n && leb n 8) c.if-not-enough.false-raw)), refl, all_none _, last_none _, shards-none _)

pub put_below-word-requires : goal.put_below-word-requires
put_below-word-requires c = omega arith

pub loop-i-preserved : goal.loop-i-preserved
loop-i-preserved c =
    let ps = c.args.ps in
    let i = c.loop-i.i in
    (search rules, search rules, rw (all-step, ← entry-rises ps i) (cc), rw last_step c.place-at.ensures, rw (shards-step, lt-ltb i ps.count (omega arith)) (cc))

pub returns-then-kept : goal.returns-then-kept
returns-then-kept c =
    let ps = c.args.ps in
    let n = ps.count in
    let e : c.loop-i.i ≡ n = omega arith in
    let all : all_below (entry_kept ps) n ≡ true = ap (all_below (entry_kept ps)) (sym e) ∙ sym c.loop-i.invariant.2 ∙ c.if-kept.true in
    rw (walked ps (not_no (leb 1 n && leb n 8) c.if-not-enough.false-raw), all) (c.loop-i.invariant.4 ∙ ap (shards_passed ps) e)

pub returns-else-kept : goal.returns-else-kept
returns-else-kept c =
    let ps = c.args.ps in
    let n = ps.count in
    let e : c.loop-i.i ≡ n = omega arith in
    let all : all_below (entry_kept ps) n ≡ false = ap (all_below (entry_kept ps)) (sym e) ∙ sym c.loop-i.invariant.2 ∙ c.if-kept.false in
    rw (walked ps (not_no (leb 1 n && leb n 8) c.if-not-enough.false-raw), all)
