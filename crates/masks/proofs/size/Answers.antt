-- `masks::size` meets its contract: the machine counts the digits that are 1. Assumes nothing.
use native.Mathlib.Omega.{arith}
use Rattle.masks.proofs.Counts.{ones-size}
use Rattle.masks.proofs.size.Goals as goal

pub returns : goal.returns
returns c = ones-size c.args.w (omega arith)
