-- `door::readings::counter` meets its contract. Assumes nothing.
use mathlib.Core.Path.{ap₂}
use mir.Syntax.{w32}
use mir.Facts.{to_z-of_z}
use Rattle.door.specs.Readings.{reading, counter_in}
use borrow.Author.Tests.{lt-ltb, le-ltb}
use Rattle.door.proofs.readings.counter.Goals as goal

pub returns-then-key-lt-KEYS : goal.returns-then-key-lt-KEYS
unfolding counter_in
returns-then-key-lt-KEYS c = rw (lt-ltb _ _ c.if-key-lt-KEYS.true) (ap₂ reading (to_z-of_z {w = w32} (record { sfits = c.struct_told-1.given.0.1 })) c.kept_of.ensures)

pub returns : goal.returns
unfolding counter_in
returns c = rw (le-ltb _ _ c.if-key-lt-KEYS.false) c.none.ensures
