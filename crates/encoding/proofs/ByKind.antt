-- The messages by kinds are the table of codes. Assumes nothing.
use mathlib.Core.Path.{◌≡◌, refl}
use Prim.Native.Nat.{ℕ}
use native.Mathlib.Omega.{arith}
use borrow.Author.Tests.{le-leb, lt-leb}
use lib.Dec.{lit<}
use Rattle.wire.specs.Codes.{shape_of}
use Rattle.messages.proofs.Fields.{Each, table, other}
use Rattle.encoding.specs.ByKind.{kind_shape}

pub kind_shape_lem : (k : ℕ) → kind_shape k ≡ shape_of k
unfolding Each shape_of kind_shape
kind_shape_lem =
    table kind_shape
    ((((((((((((((((((((((((tt, refl), refl), refl), refl), refl), refl), refl), refl), refl), refl), refl), refl), refl), refl), refl), refl), refl), refl), refl), refl), refl), refl), refl), refl)
    (λ k h. rw (other k h 4 (lit< tt), other k h 5 (lit< tt), lt-leb k 3 (omega (arith, h)), other k h 20 (lit< tt), lt-leb k 23 (omega (arith, h)), le-leb 16 k (omega (arith, h))))
