-- One byte is stored at the place. Assumes nothing.
use mathlib.Core.Path.{refl}
use Prim.Native.Nat.{◌<◌}
use native.Mathlib.Omega.{arith}
use native.Mathlib.Numerals.{add-one}
use lib.ListN.{length}
use lib.Seq.{set_split, drop-drop}
use Rattle.xdr.specs.Over.{over}
use Rattle.capture.proofs.text.put_byte.Goals as goal

pub returns : goal.returns
unfolding over
returns c =
    let here : c.args.at < length c.args.out.now = omega arith in
    record { next = refl; bytes = rw (set_split, drop-drop, add-one) }
