-- `graph::close` meets its contract: after k turns the rows are those of k passes, and `common` is part of each; within a pass the first t rows are done.
-- Assumes nothing.
use mathlib.Core.Path.{◌≡◌}
use Rattle.graph.specs.Walk.{grown, passes}
use Rattle.graph.proofs.Places.{upto}
use Rattle.graph.proofs.InPlace.{Shared, Common}
use Rattle.graph.proofs.close.Given as goal

abbrev pub invariant-loop-t : goal.invariant-loop-t
invariant-loop-t l = (l.rows ≡ upto (grown l.k l.own) l.t l.initial.rows) × Shared l.k l.own l.initial.rows l.common l.t

abbrev pub invariant-loop-k : goal.invariant-loop-k
invariant-loop-k l = (l.rows ≡ passes l.k l.initial.rows) × Common l.rows l.common 64
