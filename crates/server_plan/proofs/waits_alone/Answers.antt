-- `server_plan::waits_alone` meets its contract. Assumes nothing.
use Rattle.server_plan.proofs.waits_alone.Goals as goal

pub returns : goal.returns
returns c =
    rw (
      c.is_empty-2.ensures,
      c.without-2.ensures,
      c.is_empty.ensures,
      c.without.ensures,
      c.without-left.ensures,
      c.insert-only.ensures,
    )
