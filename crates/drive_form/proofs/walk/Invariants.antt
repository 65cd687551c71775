-- `drive_form::walk` meets its contract: after s turns the answers of the servers below s are walked. Assumes nothing.
use mathlib.Core.Path.{◌≡◌}
use Prim.Native.Nat.{◌<◌}
use lib.ListN.{length}
use Rattle.drive_form.specs.Parts.{walked_to}
use Rattle.drive_form.proofs.walk.Given as goal

abbrev pub invariant-loop-s : goal.invariant-loop-s
invariant-loop-s l = record { walked : l.walked ≡ walked_to l.d l.shards l.s; whole : 0 < l.s → length l.d.answers ≡ 12 }
