-- `log::read_log` meets its contract: the entries passed are new numbers, and the word holds them. Assumes nothing.
use Rattle.std.proofs.Common.{◌≡◌, ℕ, false, sym, ap, ◌∙◌, arith, slice_index_or, take, length-take, ◌<◌}
use Rattle.std.proofs.lemmas.List.{get_or-take}
use lib.Dec.{ltb}
use borrow.Author.Tests.{ltb-true}
use Rattle.masks.specs.Bits.{has, insert}
use Rattle.masks.proofs.Bools.{and_yes-l, and_yes_r, not_yes}
use Rattle.masks.proofs.Turns.{all_none}
use Rattle.server.specs.Form.{logged}
use Rattle.server.specs.Held.{entry_at}
use Rattle.server_form.proofs.FormInOnePass.{logged_none, log-long, log-broken, log_whole, entry-fresh, entry-more}
use Rattle.server_form.proofs.log.read_log.Goals as goal

pub returns-then-l-gt-NUMBERS : goal.returns-then-l-gt-NUMBERS
returns-then-l-gt-NUMBERS c = log-long c.args.l.now c.if-l-gt-NUMBERS.true

pub loop-entry-init : goal.loop-entry-init
loop-entry-init c = (sym (all_none _), logged_none c.args.l.now)

-- the entry that is read is that of the log, since the log has no more than 64
pub loop-entry-preserved : goal.loop-entry-preserved
loop-entry-preserved c =
    let l = c.args.l.now in
    let i = c.loop-entry.entry-index in
    let few : i < l.count = omega (arith, length-take l.count l.list) in
    let entry = slice_index_or (take l.count l.list) i 0 in
    let e : entry ≡ entry_at l i = get_or-take l.count l.list i 0 few in
    let inv = c.loop-entry.invariant in
    let new = c.if-not-fresh.false in
    let unseen : has (logged l i) entry ≡ false = rw (← inv.1) (sym c.has.ensures ∙ not_yes _ (and_yes_r (ltb entry 64) _ new)) in
    let more = entry-more l i entry e (ltb-true entry 64 (and_yes-l (ltb entry 64) _ new)) unseen inv.0 in
    (more.0, c.insert-word.ensures ∙ ap (λ (w : ℕ). insert w entry) inv.1 ∙ more.1)

pub returns-then-not-fresh : goal.returns-then-not-fresh
returns-then-not-fresh c =
    let l = c.args.l.now in
    let i = c.loop-entry.entry-index in
    let few : i < l.count = omega (arith, length-take l.count l.list) in
    let entry = slice_index_or (take l.count l.list) i 0 in
    let e : entry ≡ entry_at l i = get_or-take l.count l.list i 0 few in
    let inv = c.loop-entry.invariant in
    log-broken l c.if-l-gt-NUMBERS.false i few (entry-fresh l i entry e (rw (← inv.1, ← c.has.ensures) c.if-not-fresh.true))

pub returns : goal.returns
returns c =
    let l = c.args.l.now in
    let at-end : c.loop-entry.entry-index ≡ l.count = omega (arith, length-take l.count l.list) in
    let whole = log_whole l c.if-l-gt-NUMBERS.false _ at-end c.loop-entry.invariant.0 in
    (whole.0, c.loop-entry.invariant.1 ∙ whole.1)
