-- `masks::has` meets its contract: below 64 by a shift, from 64 on because a word has no digit there. Assumes nothing.
use mathlib.Core.Path.{ap, sym}
use Prim.Native.Nat.{ℕ}
use native.Mathlib.Omega.{arith}
use lib.Dec.{eqb}
use Rattle.masks.proofs.Digits.{shifted, bit_past}
use Rattle.masks.proofs.has.Goals as goal

pub returns-then-t-lt64 : goal.returns-then-t-lt64
returns-then-t-lt64 c = ap (λ (x : ℕ). eqb x 1) (shifted c.args.w c.args.t)

pub returns-else-t-lt64 : goal.returns-else-t-lt64
returns-else-t-lt64 c = sym (ap (λ (x : ℕ). eqb x 1) (bit_past 64 c.args.w c.args.t (omega arith) (omega arith)))
