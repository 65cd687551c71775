-- Each kind of message is sent by its sections. Assumes nothing.
use mathlib.Core.Path.{sym, ap, ◌∙◌}
use Rattle.wire.specs.Encoding.{Encoding}
use Rattle.encoding.specs.Answers.{answer}
use Rattle.encoding.proofs.EncodeWhole.{encode-bare, encode-asked, encode-answered, encode-12}
use Rattle.codec.proofs.write.Goals as goal

pub returns-then-bare : goal.returns-then-bare
returns-then-bare c =
    let a = c.args in
    let e = encode-bare a.message.now a.out.now (sym c.bare.ensures ∙ c.if-bare.true) in
    let q = c.bare-then-bare.ensures in
    (q.0 ∙ ap answer e, q.1 ∙ ap (λ (x : Encoding). x.buffer) e)

pub returns-then-asked : goal.returns-then-asked
returns-then-asked c =
    let a = c.args in
    let e = encode-asked a.message.now a.out.now (sym c.bare.ensures ∙ c.if-bare.false) (sym c.asked.ensures ∙ c.if-asked.true) in
    let q = c.asked-then-asked.ensures in
    (q.0 ∙ ap answer e, q.1 ∙ ap (λ (x : Encoding). x.buffer) e)

pub returns-then-answered : goal.returns-then-answered
returns-then-answered c =
    let a = c.args in
    let e = encode-answered a.message.now a.out.now (sym c.bare.ensures ∙ c.if-bare.false) (sym c.asked.ensures ∙ c.if-asked.false) (sym c.answered.ensures ∙ c.if-answered.true) in
    let q = c.answered-then-answered.ensures in
    (q.0 ∙ ap answer e, q.1 ∙ ap (λ (x : Encoding). x.buffer) e)

pub returns : goal.returns
returns c =
    let a = c.args in
    let e = encode-12 a.message.now a.out.now (sym c.bare.ensures ∙ c.if-bare.false) (sym c.asked.ensures ∙ c.if-asked.false) (sym c.answered.ensures ∙ c.if-answered.false) in
    (ap answer e, ap (λ (x : Encoding). x.buffer) e)
