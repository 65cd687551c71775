-- The committed sets of the numbers below t are read.
use Rattle.std.proofs.Common.{◌≡◌}
use Rattle.masks.specs.Folds.{mask_of}
use Rattle.server.specs.Held.{committed_at}
use Rattle.server_run.proofs.Gathering.{named_below}
use Rattle.server_read.proofs.wanting.missing.Given as goal

abbrev pub invariant-loop-t : goal.invariant-loop-t
invariant-loop-t l = (l.all ≡ named_below l.s l.t) × (l.committed ≡ mask_of (committed_at l.s) l.t)
