-- The sections in a row, where the count is no more than eight and there is room for them. Assumes nothing.
use Rattle.std.proofs.Common.{◌≡◌, ℕ, sym, ap, ◌∙◌, arith, ◌&&◌}
use lib.Dec.{ltb, lit<}
use lib.ListN.{length, take}
use borrow.Author.Tests.{ltb-false}
use Rattle.xdr.specs.Word.{be-length}
use Rattle.xdr.specs.Over.{over}
use Rattle.wire.specs.declared.Shape.{Shape}
use Rattle.wire.specs.Encoding.{Encoding}
use Rattle.wire.specs.Bytes.{code}
use Rattle.encoding.specs.Answers.{answer, sent}
use Rattle.encoding.specs.Sections.{cat}
use Rattle.encoding.proofs.WriteWhole.{cleared, none-put, section-room, section-put, built-fits}
use Rattle.encoding.proofs.EncodeWhole.{answered_built, answered-length, answered-room, sent-12, sent-14, sent-all, none-written}
use Rattle.encoding.proofs.answered.Goals as goal

pub put-a-requires : goal.put-a-requires
put-a-requires c = omega (arith, be-length 4 c.args.m.now.code)

pub returns-then-h-m : goal.returns-then-h-m
returns-then-h-m c =
    let m = c.args.m.now in
    let h = c.answered_shape-h.result in
    let e = sent-12 (cat (answered_built m h)) c.args.out.now c.if-h-m.true ∙ ap (λ (x : Shape). sent (x.values && ltb 8 m.values.count) (cat (answered_built m x)) c.args.out.now) c.answered_shape-h.ensures in
    (ap answer e, ap (λ (x : Encoding). x.buffer) e)

pub values_length-entries-requires : goal.values_length-entries-requires
values_length-entries-requires c g = ltb-false 8 c.args.m.now.values.count (rw g at c.if-h-m.false)

pub returns-in_err-room : goal.returns-in_err-room
unfolding code
returns-in_err-room c =
    let m = c.args.m.now in
    let h = c.answered_shape-h.result in
    let few = c.if-h-m.false in
    let ss = answered_built m h in
    let w = c.cost.ensures in
    let q = c.prepared_length.ensures in
    let p' = c.cost-prepared.ensures in
    let p = rw q.0 at p'.0 in
    let v = c.values_length-entries.ensures in
    let f = c.front_length.ensures in
    let l = answered-length m h in
    let short = c.in_err-room.ensures in
    let e = sent-14 (cat ss) c.args.out.now few l (omega (arith, short.0)) ∙ ap (λ (x : Shape). sent (x.values && ltb 8 m.values.count) (cat (answered_built m x)) c.args.out.now) c.answered_shape-h.ensures in
    (none-written c.from_residual.result c.in_err-room.field-0.0 c.from_residual.ensures.1 short.1 ∙ ap answer e, ap (λ (x : Encoding). x.buffer) e)

pub put_front-b-requires : goal.put_front-b-requires
unfolding code
put_front-b-requires c =
    let m = c.args.m.now in
    let h = c.answered_shape-h.result in
    let few = c.if-h-m.false in
    let ss = answered_built m h in
    let room = answered-room m h (λ g. ltb-false 8 m.values.count (rw g at few)) in
    let p₁ = section-put ss 0 cleared room 0 (lit< tt) (none-put ss 0 cleared room) c.put-a.ensures in
    section-room ss 0 cleared room 1 (lit< tt) p₁

pub put_if-c-requires : goal.put_if-c-requires
unfolding code
put_if-c-requires c =
    let m = c.args.m.now in
    let h = c.answered_shape-h.result in
    let few = c.if-h-m.false in
    let ss = answered_built m h in
    let room = answered-room m h (λ g. ltb-false 8 m.values.count (rw g at few)) in
    let p₁ = section-put ss 0 cleared room 0 (lit< tt) (none-put ss 0 cleared room) c.put-a.ensures in
    let p₂ = section-put ss 0 cleared room 1 (lit< tt) p₁ c.put_front-b.ensures in
    section-room ss 0 cleared room 2 (lit< tt) p₂

pub put_if-d-requires : goal.put_if-d-requires
unfolding code
put_if-d-requires c =
    let m = c.args.m.now in
    let h = c.answered_shape-h.result in
    let few = c.if-h-m.false in
    let ss = answered_built m h in
    let room = answered-room m h (λ g. ltb-false 8 m.values.count (rw g at few)) in
    let p₁ = section-put ss 0 cleared room 0 (lit< tt) (none-put ss 0 cleared room) c.put-a.ensures in
    let p₂ = section-put ss 0 cleared room 1 (lit< tt) p₁ c.put_front-b.ensures in
    let p₃ = section-put ss 0 cleared room 2 (lit< tt) p₂ c.put_if-c.ensures in
    section-room ss 0 cleared room 3 (lit< tt) p₃

pub put_if-n-requires : goal.put_if-n-requires
unfolding code
put_if-n-requires c =
    let m = c.args.m.now in
    let h = c.answered_shape-h.result in
    let few = c.if-h-m.false in
    let ss = answered_built m h in
    let room = answered-room m h (λ g. ltb-false 8 m.values.count (rw g at few)) in
    let p₁ = section-put ss 0 cleared room 0 (lit< tt) (none-put ss 0 cleared room) c.put-a.ensures in
    let p₂ = section-put ss 0 cleared room 1 (lit< tt) p₁ c.put_front-b.ensures in
    let p₃ = section-put ss 0 cleared room 2 (lit< tt) p₂ c.put_if-c.ensures in
    let p₄ = section-put ss 0 cleared room 3 (lit< tt) p₃ c.put_if-d.ensures in
    section-room ss 0 cleared room 4 (lit< tt) p₄

pub send-requires : goal.send-requires
unfolding code
send-requires c =
    let m = c.args.m.now in
    let h = c.answered_shape-h.result in
    let few = c.if-h-m.false in
    let ss = answered_built m h in
    let room = answered-room m h (λ g. ltb-false 8 m.values.count (rw g at few)) in
    let p₁ = section-put ss 0 cleared room 0 (lit< tt) (none-put ss 0 cleared room) c.put-a.ensures in
    let p₂ = section-put ss 0 cleared room 1 (lit< tt) p₁ c.put_front-b.ensures in
    let p₃ = section-put ss 0 cleared room 2 (lit< tt) p₂ c.put_if-c.ensures in
    let p₄ = section-put ss 0 cleared room 3 (lit< tt) p₃ c.put_if-d.ensures in
    let p₅ = section-put ss 0 cleared room 4 (lit< tt) p₄ c.put_if-n.ensures in
    let w = c.cost.ensures in
    let q = c.prepared_length.ensures in
    let p' = c.cost-prepared.ensures in
    let p = rw q.0 at p'.0 in
    let v = c.values_length-entries.ensures in
    let f = c.front_length.ensures in
    let l = answered-length m h in
    let fits = built-fits ss room p₅ in
    (fits.0, omega (arith, c.in_ok-room.ensures, p₅.next), fits.1)

pub returns : goal.returns
unfolding code
returns c =
    let m = c.args.m.now in
    let h = c.answered_shape-h.result in
    let few = c.if-h-m.false in
    let ss = answered_built m h in
    let room = answered-room m h (λ g. ltb-false 8 m.values.count (rw g at few)) in
    let p₁ = section-put ss 0 cleared room 0 (lit< tt) (none-put ss 0 cleared room) c.put-a.ensures in
    let p₂ = section-put ss 0 cleared room 1 (lit< tt) p₁ c.put_front-b.ensures in
    let p₃ = section-put ss 0 cleared room 2 (lit< tt) p₂ c.put_if-c.ensures in
    let p₄ = section-put ss 0 cleared room 3 (lit< tt) p₃ c.put_if-d.ensures in
    let p₅ = section-put ss 0 cleared room 4 (lit< tt) p₄ c.put_if-n.ensures in
    let w = c.cost.ensures in
    let q = c.prepared_length.ensures in
    let p' = c.cost-prepared.ensures in
    let p = rw q.0 at p'.0 in
    let v = c.values_length-entries.ensures in
    let f = c.front_length.ensures in
    let l = answered-length m h in
    let all : length (cat ss) ≡ c.send.result = omega (arith, p₅.next, c.send.ensures.length) in
    let q = c.send.ensures.bytes ∙ ap (λ (k : ℕ). over (take k c.put_if-n.new.out) c.args.out.now) (sym c.send.ensures.length) in
    let e = sent-all (cat ss) c.args.out.now few all (omega (arith, c.in_ok-room.ensures)) p₅ q ∙ ap (λ (x : Shape). sent (x.values && ltb 8 m.values.count) (cat (answered_built m x)) c.args.out.now) c.answered_shape-h.ensures in
    (ap answer e, ap (λ (x : Encoding). x.buffer) e)
