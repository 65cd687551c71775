-- A number of at most k digits has at most k bytes; so a decimal has at most 20, the last column at most 22, and a line at most LINE. Assumes nothing.
use Prim.Native.Nat.{ℕ, zero, suc, ◌+◌, ◌≤◌, ◌/◌, ◌%◌}
use native.Mathlib.Omega.{arith}
use mathlib.Core.Bool.{Bool, true, false}
use mathlib.Core.List.{List, [], ◌∷◌, ◌++◌}
use lib.Dec.{ltb}
use Rattle.std.specs.Prelude.{Option, Some, None}
use lib.ListN.{length, length-append}
use Rattle.rules.specs.Choice.{◌if◌else◌}
use Rattle.capture.specs.declared.Shown.{Shown}
use Rattle.capture.specs.declared.Shown.TheVariants.{Dash, Code, Refusal}
use Rattle.capture.specs.declared.Told.{Told}
use Rattle.capture.specs.Text.{digits, decimal, maybe, shown, line, LINE}

either_short : (b : Bool) (xs ys : List ℕ) (n : ℕ) → length xs ≤ n → length ys ≤ n → length (xs if b else ys) ≤ n
either_short true xs ys n p q = p
either_short false xs ys n p q = q

pub digits_short : (k n : ℕ) → length (digits k n) ≤ k
unfolding digits
digits_short zero n = omega arith
digits_short (suc k) n =
    let more : length (digits k (n / 10) ++ (48 + n % 10) ∷ []) ≤ suc k = rw length-append (omega (arith, digits_short k (n / 10))) in
    either_short (ltb n 10) ((48 + n) ∷ []) (digits k (n / 10) ++ (48 + n % 10) ∷ []) (suc k) (omega arith) more

pub decimal_short : (n : ℕ) → length (decimal n) ≤ 20
unfolding decimal
decimal_short n = digits_short 20 n

pub maybe_short : (n : Option ℕ) → length (maybe n) ≤ 20
unfolding maybe
maybe_short (Some n) = decimal_short n
maybe_short None = omega arith

pub shown_short : (answer : Shown) → length (shown answer) ≤ 22
unfolding shown
shown_short Dash = omega arith
shown_short (Code c) = omega (arith, decimal_short c)
shown_short (Refusal n) = omega (arith, decimal_short n)

pub line_short : (number seconds : ℕ) (o : Told) → length (line number seconds o) ≤ LINE
unfolding line
line_short number seconds o =
    simp length-append (omega (arith, decimal_short number, decimal_short seconds, maybe_short o.code, maybe_short o.t, shown_short o.answer))
