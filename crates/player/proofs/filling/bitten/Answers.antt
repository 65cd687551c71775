-- A turn begins at the front of the window or leaves what is kept.
use Rattle.player.proofs.Within.{bitten_within}
use Rattle.player.proofs.filling.bitten.Goals as goal

pub returns-clause-within : goal.returns-clause-within
returns-clause-within c = rw (c.turned.ensures, c.filled.ensures) (bitten_within c.args.w c.args.xs.now c.requires)
