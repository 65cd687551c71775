-- `rules::Ballot::next` meets its contract. Assumes nothing.
use mathlib.Core.Path.{sym, ◌∙◌}
use native.Mathlib.Omega.{arith}
use Rattle.rules.proofs.NextIsSmallest.{not-past}
use Rattle.rules.specs.Ballots.{next_ballot, next_refusal}
use Rattle.rules.proofs.Ballot.next.Goals as goal

pub returns-then-stranger : goal.returns-then-stranger
unfolding next_ballot next_refusal
returns-then-stranger c = rw (← c.bad_coordinator-stranger.ensures, c.if-stranger.true)

pub returns-then-past : goal.returns-then-past
unfolding next_ballot next_refusal
returns-then-past c = rw (← c.bad_coordinator-stranger.ensures, c.if-stranger.false, ← c.no_next-past.ensures, c.if-past.true)

pub overflow_cast-result : goal.overflow_cast-result
overflow_cast-result c =
    let kept = not-past c.args.c c.args.n (sym c.no_next-past.ensures ∙ c.if-past.false) in
    record { fits = rw c.next_above.ensures (omega (arith, kept)) }

pub returns : goal.returns
unfolding next_ballot next_refusal
returns c = rw (← c.bad_coordinator-stranger.ensures, c.if-stranger.false, ← c.no_next-past.ensures, c.if-past.false, c.next_above.ensures)
