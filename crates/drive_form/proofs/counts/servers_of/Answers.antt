-- `drive_form::counts::servers_of` meets its contract: the shards are put in one after the other. Assumes nothing.
use Rattle.drive_form.proofs.Servers.{servers-four}
use Rattle.drive_form.proofs.counts.servers_of.Goals as goal

pub returns : goal.returns
returns c = rw (c.with_shard.ensures, c.with_shard-c.ensures, c.with_shard-b.ensures, c.with_shard-a.ensures) (servers-four _)
