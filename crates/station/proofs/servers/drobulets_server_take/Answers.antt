-- `drobulets_server_take` meets its contract: by whether the bytes decode.
use Rattle.std.proofs.Common.{◌≡◌, ◌∙◌, sym, ap, true, false, arith}
use borrow.Author.Tests.{eq-eqb, ne_eqb}
use Rattle.rules.specs.Flags.{there}
use Rattle.wire.specs.Bytes.{decode}
use Rattle.wire.specs.declared.Decoded.{Decoded}
use Rattle.door.specs.Exchange.{Exchange}
use Rattle.door.proofs.Answered.{take-undecoded, take-decoded}
use Rattle.station.proofs.servers.drobulets_server_take.Goals as goal

pub returns-then-d-ne0 : goal.returns-then-d-ne0
returns-then-d-ne0 c =
    let e = ap (λ (d : Decoded). d.refusal) c.decode-d.ensures in
    let h : there (decode c.args.input.now).refusal ≡ true = rw (← e, ne_eqb _ 0 c.if-d-ne0.true) in
    let none = take-undecoded c.args.s.now c.args.input.now c.args.output.now h in
    (rw e (ap (λ (x : Exchange). x.answer) (sym none)), grind (arith, none), ap (λ (x : Exchange). x.output) (sym none))

pub returns : goal.returns
returns c =
    let e = ap (λ (d : Decoded). d.refusal) c.decode-d.ensures in
    let h : there (decode c.args.input.now).refusal ≡ false = rw (← e, eq-eqb _ 0 c.if-d-ne0.false) in
    let all = sym (take-decoded c.args.s.now c.args.input.now c.args.output.now h) in (
      c.from.ensures ∙ rw (c.take.ensures.answer, c.decode-d.ensures) (ap (λ (x : Exchange). x.answer) all),
      rw (c.take.ensures.server, c.decode-d.ensures) (ap (λ (x : Exchange). x.server) all),
      rw (c.take.ensures.output, c.decode-d.ensures) (ap (λ (x : Exchange). x.output) all),
    )

-- the set of a decoded message has words
pub take-requires : goal.take-requires
take-requires c = record { w0 = omega arith; w1 = omega arith; w2 = omega arith; w3 = omega arith }
