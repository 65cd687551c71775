-- What a piece's kind says of its number. Assumes nothing.
use Prim.Native.Nat.{ℕ}
use mathlib.Core.Path.{◌≡◌, refl}
use mathlib.Core.Bool.{Bool, true, false, not, cond}
use lib.Dec.{eqb}
use Rattle.rules.specs.declared.kinds.Kind.TheVariants.{Read, Put, Add}
use Rattle.rules.specs.Kind.{kind_of, writes}

pub kind-read : (n : ℕ) → kind_of n ≡ Read → eqb n 0 ≡ true
kind-read n e = by (eqb n 0) (eqb n 1) e
  where
    by : (a b : Bool) → cond a Read (cond b Put Add) ≡ Read → a ≡ true
    by true b h = refl
    by false true h = cc
    by false false h = cc

pub kind-put : (n : ℕ) → kind_of n ≡ Put → eqb n 0 ≡ false
kind-put n e = by (eqb n 0) (eqb n 1) e
  where
    by : (a b : Bool) → cond a Read (cond b Put Add) ≡ Put → a ≡ false
    by true b h = cc
    by false b h = refl

pub kind-is_put : (n : ℕ) → kind_of n ≡ Put → eqb n 1 ≡ true
kind-is_put n e = by (eqb n 0) (eqb n 1) e
  where
    by : (a b : Bool) → cond a Read (cond b Put Add) ≡ Put → b ≡ true
    by true true h = refl
    by true false h = cc
    by false true h = refl
    by false false h = cc

pub kind-add : (n : ℕ) → kind_of n ≡ Add → eqb n 0 ≡ false
kind-add n e = by (eqb n 0) (eqb n 1) e
  where
    by : (a b : Bool) → cond a Read (cond b Put Add) ≡ Add → a ≡ false
    by true b h = cc
    by false b h = refl

pub kind-no_put : (n : ℕ) → kind_of n ≡ Add → eqb n 1 ≡ false
kind-no_put n e = by (eqb n 0) (eqb n 1) e
  where
    by : (a b : Bool) → cond a Read (cond b Put Add) ≡ Add → b ≡ false
    by true b h = cc
    by false true h = cc
    by false false h = refl

pub kind-writes : (n : ℕ) → writes (kind_of n) ≡ not (eqb n 0)
kind-writes n = by (eqb n 0) (eqb n 1)
  where
    by : (a b : Bool) → writes (cond a Read (cond b Put Add)) ≡ not a
    by true b = refl
    by false true = refl
    by false false = refl
