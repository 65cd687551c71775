-- `drive_decide::words::of_drive` meets its contract: shard by shard. Assumes nothing.
use Rattle.drive_decide.proofs.Wording.{words-four}
use Rattle.drive_decide.proofs.words.of_drive.Goals as goal

pub returns : goal.returns
returns c = rw (c.in_all.ensures, c.in_shard-4.ensures, c.in_shard-3.ensures, c.in_shard-2.ensures, c.in_shard.ensures) (words-four _)
