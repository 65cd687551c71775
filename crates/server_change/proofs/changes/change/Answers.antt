-- `changes::change` meets its contract: each code has the change that the definition gives it. Assumes nothing.
use Rattle.std.proofs.Common.{◌≡◌, ⊎_elim, ◌∙◌, ℕ, sym, ap, arith, rules}
use borrow.Author.Tests.{ne_eqb}
use Rattle.rules.specs.Choice.{◌if◌else◌}
use Rattle.wire.specs.declared.Message.{Message}
use Rattle.wire.specs.Codes.{PreAccept, Accept, Prepare, Inquire, commits}
use Rattle.server.specs.declared.Changed.{Changed}
use Rattle.server.specs.declared.Record.{Record}
use Rattle.server.specs.Changes.{asked, pre_accepted, accepted, prepared, committed, inquired, fetched, change}
use lib.Dec.{eqb}
use Rattle.server_change.proofs.changes.change.Goals as goal

module _ (id w : ℕ) (v : Record) (m : Message) where
  abbrev by_code : ℕ → Changed
  by_code k =
      asked id v m (pre_accepted id w v m) if eqb k PreAccept
      else asked id v m (accepted id v m) if eqb k Accept
      else asked id v m (prepared id v m) if eqb k Prepare
      else committed id v m if commits k
      else inquired id v m if eqb k Inquire
      else fetched id v m

  at : (k : ℕ) → m.code ≡ k → by_code k ≡ change id w v m
  unfolding change
  at k e = sym (ap by_code e)

  at-rest : (m.code ≡ 0 → ⊥) → (m.code ≡ 1 → ⊥) → (m.code ≡ 3 → ⊥) → (m.code ≡ 2 → ⊥) → (m.code ≡ 20 → ⊥) → (m.code ≡ 4 → ⊥) → fetched id v m ≡ change id w v m
  unfolding change
  at-rest a b c d e f = rw (ne_eqb m.code 0 a, ne_eqb m.code 1 b, ne_eqb m.code 3 c, ne_eqb m.code 2 d, ne_eqb m.code 20 e, ne_eqb m.code 4 f)

pub returns-in-0 : goal.returns-in-0
returns-in-0 c =
    let v = c.args.v.now in
    let m = c.args.m.now in
    c.asked.ensures (pre_accepted c.args.id c.args.w v m) (λ x p. search rules) ∙ at c.args.id c.args.w v m 0 c.in-0.is

pub returns-in-1 : goal.returns-in-1
returns-in-1 c =
    let v = c.args.v.now in
    let m = c.args.m.now in
    c.asked-in-1.ensures (accepted c.args.id v m) (λ x p. search rules) ∙ at c.args.id c.args.w v m 1 c.in-1.is

pub returns-in-3 : goal.returns-in-3
returns-in-3 c =
    let v = c.args.v.now in
    let m = c.args.m.now in
    c.asked-in-3.ensures (prepared c.args.id v m) (λ x p. search rules) ∙ at c.args.id c.args.w v m 3 c.in-3.is

pub returns-in-2 : goal.returns-in-2
returns-in-2 c =
    let v = c.args.v.now in
    let m = c.args.m.now in
    c.committed.ensures ∙ ⊎_elim (at c.args.id c.args.w v m 2) (at c.args.id c.args.w v m 20) c.in-2.is

pub returns-in-4 : goal.returns-in-4
returns-in-4 c = c.inquired.ensures ∙ at c.args.id c.args.w c.args.v.now c.args.m.now 4 c.in-4.is

pub returns-in_default : goal.returns-in_default
returns-in_default c =
    c.fetched.ensures
    ∙ at-rest c.args.id c.args.w c.args.v.now c.args.m.now (omega arith) (omega arith) (omega arith) (grind arith) (grind arith) (omega arith)
