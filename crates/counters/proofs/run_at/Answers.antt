-- `counters::run_at` meets its contract.
-- Assumes nothing.
use native.Mathlib.Omega.{arith}
use borrow.Author.Tests.{lt-ltb, le-ltb}
use Rattle.counters.specs.InPlace.{run_at}
use Rattle.counters.proofs.Signed.{back}
use Rattle.counters.proofs.run_at.Goals as goal

pub returns-then-p-lt-KEYS : goal.returns-then-p-lt-KEYS
unfolding run_at
returns-then-p-lt-KEYS c =
    let told = c.struct_told-1.given in
    rw (lt-ltb _ 16 c.if-p-lt-KEYS.true, c.effect.ensures, back _ (record { sfits = told.1.1.1.0.1 }))

pub returns : goal.returns
unfolding run_at
returns c =
    let told = c.struct_told-2-1.given in
    rw (le-ltb c.args.p.key 16 (omega arith), c.effect-2.ensures, back _ (record { sfits = told.1.1.1.0.1 }))
