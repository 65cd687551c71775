-- A bool is a number that is 0 or 1: the judge notes any other. Assumes nothing.
use Rattle.xdr.specs.Form.{flag, bit_one}
use Rattle.xdr.proofs.get_bool.Goals as goal

pub returns : goal.returns
unfolding flag
returns c =
    let e = c.get_u32-a.ensures in
    record { value = rw (← e.value) (bit_one c.get_u32-a.result.v); next = rw (← e.value, ← e.next) c.judge-next.ensures }
