-- `graph::next_group` meets its contract: the group of a number has that number, so it isn't empty.
-- Assumes nothing.
use mathlib.Core.Path.{sym, ◌∙◌, subst}
use Prim.Native.Nat.{ℕ}
use borrow.Author.Tests.{lt-ltb}
use Rattle.masks.specs.Bits.{In}
use Rattle.masks.proofs.Laws.{not_in_none}
use Rattle.graph.specs.Walk.{group_at, next_group}
use Rattle.graph.proofs.Groups.{group_self}
use Rattle.graph.proofs.next_group.Goals as goal

pub returns-in_err-t : goal.returns-in_err-t
unfolding next_group group_at
returns-in_err-t c = rw (c.from_residual.ensures, c.in_err-t.ensures)

pub returns : goal.returns
unfolding next_group group_at
returns c =
    let rows = c.args.rows.now in
    let t = c.in_ok-t.t in (
      λ e. not_in_none (subst (λ (w : ℕ). In w t) (sym c.group.ensures ∙ e) (group_self rows t c.in_ok-t.ensures.0)),
      c.group.ensures ∙ rw (← c.in_ok-t.ensures.1, lt-ltb t 64 c.in_ok-t.ensures.0),
    )
