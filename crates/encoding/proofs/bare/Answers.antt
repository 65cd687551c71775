-- The code and T, where there is room for them. Assumes nothing.
use Rattle.std.proofs.Common.{◌≡◌, ℕ, refl, sym, ap, ◌∙◌, arith}
use lib.Dec.{lit<}
use lib.ListN.{length, take}
use Rattle.xdr.specs.Over.{over}
use Rattle.wire.specs.Encoding.{Encoding}
use Rattle.wire.specs.Bytes.{code}
use Rattle.xdr.specs.Word.{be-length}
use Rattle.encoding.specs.Answers.{answer}
use Rattle.encoding.specs.Sections.{cat}
use Rattle.encoding.proofs.WriteWhole.{cleared, none-put, section-room, section-put, built-fits}
use Rattle.encoding.proofs.EncodeWhole.{bare_built, bare-room, bare-length, sent-14, sent-all, none-written}
use Rattle.encoding.proofs.bare.Goals as goal

pub returns-in_err-room : goal.returns-in_err-room
unfolding code
returns-in_err-room c =
    let m = c.args.m.now in
    let short = c.in_err-room.ensures in
    let e = sent-14 (cat (bare_built m)) c.args.out.now refl (bare-length m) short.0 in
    (none-written c.from_residual.result c.in_err-room.field-0.0 c.from_residual.ensures.1 short.1 ∙ ap answer e, ap (λ (x : Encoding). x.buffer) e)

pub put-a-requires : goal.put-a-requires
put-a-requires c = omega (arith, be-length 4 c.args.m.now.code)

pub put-n-requires : goal.put-n-requires
unfolding code
put-n-requires c =
    let m = c.args.m.now in
    let ss = bare_built m in
    let p₁ = section-put ss 0 cleared (bare-room m) 0 (lit< tt) (none-put ss 0 cleared (bare-room m)) c.put-a.ensures in
    omega (arith, section-room ss 0 cleared (bare-room m) 1 (lit< tt) p₁, be-length 4 m.t)

pub send-requires : goal.send-requires
unfolding code
send-requires c =
    let m = c.args.m.now in
    let ss = bare_built m in
    let room = bare-room m in
    let p₁ = section-put ss 0 cleared room 0 (lit< tt) (none-put ss 0 cleared room) c.put-a.ensures in
    let p₂ = section-put ss 0 cleared room 1 (lit< tt) p₁ c.put-n.ensures in
    let fits = built-fits ss room p₂ in
    (fits.0, omega (arith, c.in_ok-room.ensures, p₂.next, bare-length m), fits.1)

pub returns : goal.returns
unfolding code
returns c =
    let m = c.args.m.now in
    let ss = bare_built m in
    let room = bare-room m in
    let p₁ = section-put ss 0 cleared room 0 (lit< tt) (none-put ss 0 cleared room) c.put-a.ensures in
    let p₂ = section-put ss 0 cleared room 1 (lit< tt) p₁ c.put-n.ensures in
    let all : length (cat ss) ≡ c.send.result = omega (arith, p₂.next, c.send.ensures.length) in
    let e = sent-all (cat ss) c.args.out.now refl all (omega (arith, c.in_ok-room.ensures, bare-length m)) p₂ (c.send.ensures.bytes ∙ ap (λ (k : ℕ). over (take k c.put-n.new.out) c.args.out.now) (sym c.send.ensures.length)) in
    (ap answer e, ap (λ (x : Encoding). x.buffer) e)
