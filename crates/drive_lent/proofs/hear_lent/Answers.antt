-- `drive_lent::hear_lent` meets its contract: on a refusal the drive is as it was lent. Assumes nothing.
use Rattle.std.proofs.Common.{◌∙◌, sym}
use Rattle.drive_step.proofs.Outcomes.{hears-told, hears-refused}
use Rattle.drive_lent.proofs.hear_lent.Goals as goal

pub returns-in-Err : goal.returns-in-Err
returns-in-Err c = (c.from.ensures ∙ c.in-Err.ensures.refused, hears-refused c.args.d.now c.args.m.now c.in-Err.refusal (c.in-Err.ensures.refused ∙ sym (hears-told c.args.d.now c.args.m.now)))
