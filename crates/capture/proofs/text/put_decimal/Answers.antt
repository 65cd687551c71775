-- What the library prints is laid at the place.
use Rattle.std.proofs.Common.{◌≡◌, ◌+◌, ◌-◌, length, refl, ◌∙◌, arith}
use Rattle.xdr.specs.Over.{over}
use Rattle.capture.specs.Text.{decimal}
use Rattle.capture.proofs.Digits.{decimal_is}
use Rattle.capture.proofs.text.put_decimal.Goals as goal

pub returns : goal.returns
unfolding over
returns c =
    let text : c.as_bytes-text.result.now ≡ decimal c.args.n = c.as_bytes-text.ensures.value ∙ c.format.ensures.text ∙ decimal_is c.args.n c.ranges.n.fits in
    let long : c.args.at + length (decimal c.args.n) - c.args.at ≡ length (decimal c.args.n) = omega arith in
    rw (c.copy_from_slice.ensures.after, text, long) (record { next = refl; bytes = refl })
