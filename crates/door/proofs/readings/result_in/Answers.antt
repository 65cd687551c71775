-- `door::readings::result_in` meets its contract. Assumes nothing.
use mathlib.Core.Path.{ap}
use lib.IntN.{ℤ}
use mir.Syntax.{w32}
use mir.Facts.{to_z-of_z}
use lib.ListN.{get_or}
use Rattle.rules.specs.Values.{no_value}
use lib.Dec.{ltb}
use borrow.Author.Tests.{ltb-true}
use mathlib.Core.Bool.{◌&&◌}
use Rattle.rules.specs.Flags.{there}
use Rattle.masks.proofs.Bools.{and_yes_r}
use Rattle.door.specs.Readings.{reading, result_in}
use Rattle.door.proofs.readings.result_in.Goals as goal

pub bounds-v-place : goal.bounds-v-place
bounds-v-place c =
    let v = c.args.v.now in
    let i = c.args.place in
    ltb-true i 8 (and_yes_r (there v.ran && ltb i v.values.count) (ltb i 8) c.if-there.true)

pub returns-then-there : goal.returns-then-there
unfolding result_in
returns-then-there c =
    let x = get_or c.args.v.now.values.list c.args.place no_value in
    rw c.if-there.true (ap (λ (z : ℤ). reading z x.kept) (to_z-of_z {w = w32} (record { sfits = c.struct_told-1.given.0.1 })))

pub returns : goal.returns
unfolding result_in
returns c = rw c.if-there.false c.none.ensures
