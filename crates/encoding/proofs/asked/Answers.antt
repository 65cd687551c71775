-- The sections in a row, where the count is no more than eight and there is room for them. Assumes nothing.
use Rattle.std.proofs.Common.{◌≡◌, ℕ, List, sym, ap, ◌∙◌, arith}
use lib.Dec.{ltb, lit<}
use lib.ListN.{length, take}
use borrow.Author.Tests.{lt-ltb, le-ltb}
use Rattle.xdr.specs.Word.{be-length}
use Rattle.xdr.specs.Over.{over}
use Rattle.wire.specs.declared.Shape.{Shape}
use Rattle.wire.specs.Encoding.{Encoding}
use Rattle.wire.specs.Bytes.{code}
use Rattle.encoding.specs.Answers.{answer, sent}
use Rattle.encoding.specs.Sections.{cat}
use Rattle.encoding.specs.ByKind.{asked_shape, asked_sections}
use Rattle.encoding.proofs.WriteWhole.{cleared, none-put, section-room, section-put, built-fits}
use Rattle.encoding.proofs.EncodeWhole.{asked_built, asked-length, asked-room, asked-same, sent-12, sent-14, sent-all, none-written}
use Rattle.encoding.proofs.asked.Goals as goal

pub put-a-requires : goal.put-a-requires
put-a-requires c = omega (arith, be-length 4 c.args.m.now.code)

pub returns-then-m-gt8 : goal.returns-then-m-gt8
returns-then-m-gt8 c =
    let m = c.args.m.now in
    let e = sent-12 (cat (asked_sections (asked_shape m.code) m.code m.t m.ballot m.pieces.list m.pieces.count m.set)) c.args.out.now (lt-ltb 8 m.pieces.count c.if-m-gt8.true) in
    (ap answer e, ap (λ (x : Encoding). x.buffer) e)

pub returns-in_err-room : goal.returns-in_err-room
unfolding code
returns-in_err-room c =
    let m = c.args.m.now in
    let h = c.asked_shape-h.result in
    let ss = asked_built m h in
    let f = c.front_length.ensures in
    let p = c.pieces_length-entries.ensures in
    let s = c.cost.ensures in
    let short = c.in_err-room.ensures in
    let same = asked-same m h c.asked_shape-h.ensures ∙ ap (λ (x : Shape). cat (asked_sections x m.code m.t m.ballot m.pieces.list m.pieces.count m.set)) c.asked_shape-h.ensures in
    let e = sent-14 (cat ss) c.args.out.now (le-ltb 8 m.pieces.count c.if-m-gt8.false) (asked-length m h) (omega (arith, short.0)) ∙ ap (λ (x : List ℕ). sent (ltb 8 m.pieces.count) x c.args.out.now) same in
    (none-written c.from_residual.result c.in_err-room.field-0.0 c.from_residual.ensures.1 short.1 ∙ ap answer e, ap (λ (x : Encoding). x.buffer) e)

pub put_front-b-requires : goal.put_front-b-requires
unfolding code
put_front-b-requires c =
    let m = c.args.m.now in
    let h = c.asked_shape-h.result in
    let ss = asked_built m h in
    let room = asked-room m h c.asked_shape-h.ensures c.if-m-gt8.false in
    let p₁ = section-put ss 0 cleared room 0 (lit< tt) (none-put ss 0 cleared room) c.put-a.ensures in
    section-room ss 0 cleared room 1 (lit< tt) p₁

pub put-c-requires : goal.put-c-requires
unfolding code
put-c-requires c =
    let m = c.args.m.now in
    let h = c.asked_shape-h.result in
    let ss = asked_built m h in
    let room = asked-room m h c.asked_shape-h.ensures c.if-m-gt8.false in
    let p₁ = section-put ss 0 cleared room 0 (lit< tt) (none-put ss 0 cleared room) c.put-a.ensures in
    let p₂ = section-put ss 0 cleared room 1 (lit< tt) p₁ c.put_front-b.ensures in
    section-room ss 0 cleared room 2 (lit< tt) p₂

pub put_if-n-requires : goal.put_if-n-requires
unfolding code
put_if-n-requires c =
    let m = c.args.m.now in
    let h = c.asked_shape-h.result in
    let ss = asked_built m h in
    let room = asked-room m h c.asked_shape-h.ensures c.if-m-gt8.false in
    let p₁ = section-put ss 0 cleared room 0 (lit< tt) (none-put ss 0 cleared room) c.put-a.ensures in
    let p₂ = section-put ss 0 cleared room 1 (lit< tt) p₁ c.put_front-b.ensures in
    let p₃ = section-put ss 0 cleared room 2 (lit< tt) p₂ c.put-c.ensures in
    section-room ss 0 cleared room 3 (lit< tt) p₃

pub send-requires : goal.send-requires
unfolding code
send-requires c =
    let m = c.args.m.now in
    let h = c.asked_shape-h.result in
    let ss = asked_built m h in
    let room = asked-room m h c.asked_shape-h.ensures c.if-m-gt8.false in
    let p₁ = section-put ss 0 cleared room 0 (lit< tt) (none-put ss 0 cleared room) c.put-a.ensures in
    let p₂ = section-put ss 0 cleared room 1 (lit< tt) p₁ c.put_front-b.ensures in
    let p₃ = section-put ss 0 cleared room 2 (lit< tt) p₂ c.put-c.ensures in
    let p₄ = section-put ss 0 cleared room 3 (lit< tt) p₃ c.put_if-n.ensures in
    let f = c.front_length.ensures in
    let p = c.pieces_length-entries.ensures in
    let s = c.cost.ensures in
    let l = asked-length m h in
    let fits = built-fits ss room p₄ in
    (fits.0, omega (arith, c.in_ok-room.ensures, p₄.next), fits.1)

pub returns : goal.returns
unfolding code
returns c =
    let m = c.args.m.now in
    let h = c.asked_shape-h.result in
    let ss = asked_built m h in
    let room = asked-room m h c.asked_shape-h.ensures c.if-m-gt8.false in
    let p₁ = section-put ss 0 cleared room 0 (lit< tt) (none-put ss 0 cleared room) c.put-a.ensures in
    let p₂ = section-put ss 0 cleared room 1 (lit< tt) p₁ c.put_front-b.ensures in
    let p₃ = section-put ss 0 cleared room 2 (lit< tt) p₂ c.put-c.ensures in
    let p₄ = section-put ss 0 cleared room 3 (lit< tt) p₃ c.put_if-n.ensures in
    let f = c.front_length.ensures in
    let p = c.pieces_length-entries.ensures in
    let s = c.cost.ensures in
    let l = asked-length m h in
    let same = asked-same m h c.asked_shape-h.ensures ∙ ap (λ (x : Shape). cat (asked_sections x m.code m.t m.ballot m.pieces.list m.pieces.count m.set)) c.asked_shape-h.ensures in
    let all : length (cat ss) ≡ c.send.result = omega (arith, p₄.next, c.send.ensures.length) in
    let q = c.send.ensures.bytes ∙ ap (λ (k : ℕ). over (take k c.put_if-n.new.out) c.args.out.now) (sym c.send.ensures.length) in
    let e = sent-all (cat ss) c.args.out.now (le-ltb 8 m.pieces.count c.if-m-gt8.false) all (omega (arith, c.in_ok-room.ensures)) p₄ q ∙ ap (λ (x : List ℕ). sent (ltb 8 m.pieces.count) x c.args.out.now) same in
    (ap answer e, ap (λ (x : Encoding). x.buffer) e)
