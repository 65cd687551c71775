-- A bool is written as the number 0 or 1. Assumes nothing.
use Rattle.std.proofs.Common.{◌≡◌, refl, ◌∙◌, Bool, true, false}
use Rattle.std.specs.Int.{from_bool}
use Rattle.xdr.specs.Form.{flag, bit_of}
use Rattle.xdr.proofs.put_bool.Goals as goal

same : (b : Bool) → from_bool b ≡ bit_of b
same true = refl
same false = refl

pub returns : goal.returns
unfolding flag
returns c =
    let e : c.from.result ≡ bit_of c.args.v = c.from.ensures ∙ same c.args.v in
    rw e at c.put_u32.ensures
