-- The line that ends the walk is chosen as the definition chooses it.
use Rattle.std.proofs.Common.{refl}
use Rattle.xdr.specs.Over.{over}
use Rattle.capture.specs.Text.{bad_header, cut_record}
use Rattle.player.proofs.Within.{ends_bad, ends_well, ends_cut}
use Rattle.player.proofs.chewing.finish.Goals as goal

pub returns-then-w-eq-OPENING-clause-long : goal.returns-then-w-eq-OPENING-clause-long
unfolding bad_header
returns-then-w-eq-OPENING-clause-long c = rw (ends_bad c.args.w c.then-w-eq-OPENING.either) c.put_text.ensures.long

pub returns-then-w-eq-OPENING-clause-bytes : goal.returns-then-w-eq-OPENING-clause-bytes
unfolding bad_header
returns-then-w-eq-OPENING-clause-bytes c = rw (ends_bad c.args.w c.then-w-eq-OPENING.either) c.put_text.ensures.bytes

pub returns-then-w-eq0-clause-long : goal.returns-then-w-eq0-clause-long
returns-then-w-eq0-clause-long c = rw (ends_well c.args.w c.if-w-eq-HEADS.true c.if-w-eq0.true) refl

pub returns-then-w-eq0-clause-bytes : goal.returns-then-w-eq0-clause-bytes
unfolding over
returns-then-w-eq0-clause-bytes c = rw (ends_well c.args.w c.if-w-eq-HEADS.true c.if-w-eq0.true) refl

pub returns-clause-long : goal.returns-clause-long
unfolding cut_record
returns-clause-long c = rw (ends_cut c.args.w c.if-w-eq-OPENING.false c.if-w-ge-OVER.false c.else-w-eq-HEADS.either) c.put_text-2.ensures.long

pub returns-clause-bytes : goal.returns-clause-bytes
unfolding cut_record
returns-clause-bytes c = rw (ends_cut c.args.w c.if-w-eq-OPENING.false c.if-w-ge-OVER.false c.else-w-eq-HEADS.either) c.put_text-2.ensures.bytes
