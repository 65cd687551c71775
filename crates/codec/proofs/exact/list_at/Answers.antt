-- One more entry is read, and blank ones stand behind them. Assumes nothing.
use Rattle.std.proofs.Common.{rules, ◌≡◌, ℕ, ◌≤◌, sym, ap, ◌∙◌, ◌+◌, ◌-◌, ◌++◌, length, take, replicate, arith, length-take-le}
use Rattle.std.proofs.lemmas.List.{drop-replicate, take_all}
use Rattle.xdr.specs.Reading.{clean}
use Rattle.rules.specs.declared.Piece.{Piece}
use Rattle.rules.specs.Pieces.{no_piece}
use Rattle.wire.specs.Parts.{piece}
use Rattle.parts.proofs.Items.{got-more}
use Rattle.codec.proofs.exact.list_at.Goals as goal

-- as many entries as were lent
lent : (n : ℕ) (b : Piece) → n ≤ 8 → length (take n (replicate 8 b)) ≡ n
lent n b h = length-take-le n (replicate 8 b) h

pub loop-entry-preserved : goal.loop-entry-preserved
loop-entry-preserved c =
    let l = c.loop-entry in
    let e = c.at.ensures in
    (omega (arith, l.invariant.0), got-more piece c.args.s.now (clean c.args.at) l.entry-index l.entry-items (clean l.next) c.at.result (clean (l.next + 16)) (omega arith) l.invariant.1 e.value e.next)

pub returns : goal.returns
returns c =
    let l = c.loop-entry in
    let n = c.args.n in
    let b = c.default-list.result in
    let few = lent n b c.requires.0 in
    let all : length l.entry-items ≡ n = l.auto.entry-items ∙ few in
    let i : l.entry-index ≡ n = omega arith in
    let whole : take l.entry-index l.entry-items ≡ l.entry-items = take_all l.entry-index l.entry-items (omega arith) in
    let read = rw (whole, i) at l.invariant.1 in
    let e = c.default-list.ensures in
    let blank : b ≡ no_piece = search rules in
    let behind = drop-replicate n 8 b ∙ ap (replicate (8 - n)) blank in
    ((λ i. read.0 i ++ behind i), ap clean (sym (rw i at l.invariant.0)) ∙ read.1)
