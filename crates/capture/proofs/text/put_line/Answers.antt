-- The ten parts of a line are written in a row. Assumes nothing.
use native.Mathlib.Omega.{arith}
use Rattle.capture.specs.Text.{decimal}
use Rattle.capture.proofs.Lengths.{decimal_short, maybe_short, shown_short}
use Rattle.capture.proofs.InARow.{Row, next, line_in_a_row}
use Rattle.capture.proofs.text.put_line.Goals as goal

pub returns : goal.returns
returns c =
    let a = c.args in
    let z = a.out.now in
    let w₁ : Row a.at z 20 (decimal a.number) _ _ = record { put = c.put_decimal-a.ensures; short = decimal_short a.number } in
    let w₂ = next 1 (omega arith) (omega arith) w₁ c.put_byte-b.ensures in
    let w₃ = next 20 (decimal_short a.seconds) (omega arith) w₂ (rw c.from.ensures at c.put_decimal-c.ensures) in
    let w₄ = next 1 (omega arith) (omega arith) w₃ c.put_byte-d.ensures in
    let w₅ = next 20 (maybe_short a.o.code) (omega arith) w₄ c.put_maybe-e.ensures in
    let w₆ = next 1 (omega arith) (omega arith) w₅ c.put_byte-f.ensures in
    let w₇ = next 20 (maybe_short a.o.t) (omega arith) w₆ c.put_maybe-g.ensures in
    let w₈ = next 1 (omega arith) (omega arith) w₇ c.put_byte-h.ensures in
    let w₉ = next 22 (shown_short a.o.answer) (omega arith) w₈ c.put_shown-i.ensures in
    let w₁₀ = next 1 (omega arith) (omega arith) w₉ c.put_byte.ensures in
    rw (line_in_a_row a.number a.seconds a.o) at w₁₀.put
