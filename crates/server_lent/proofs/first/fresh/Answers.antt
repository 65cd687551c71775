-- `server_lent::first::fresh` meets its contract. Assumes nothing.
use Rattle.std.proofs.Common.{◌≡◌, sym, ◌∙◌, arith, length}
use Rattle.server.specs.Host.{fresh, fresh_server}
use Rattle.server_lent.proofs.first.fresh.Goals as goal

pub returns-then-bad_server-clause-refusal : goal.returns-then-bad_server-clause-refusal
unfolding fresh
returns-then-bad_server-clause-refusal c = rw (sym c.bad_server.ensures ∙ c.if-bad_server.true)

pub returns-then-bad_server-clause-server : goal.returns-then-bad_server-clause-server
unfolding fresh
returns-then-bad_server-clause-server c = rw (sym c.bad_server.ensures ∙ c.if-bad_server.true)

pub returns-clause-refusal : goal.returns-clause-refusal
unfolding fresh
returns-clause-refusal c = rw (sym c.bad_server.ensures ∙ c.if-bad_server.false)

pub returns-clause-server : goal.returns-clause-server
unfolding fresh fresh_server
returns-clause-server c =
    let long : length c.args.s.now.records ≡ 64 = omega arith in
    rw (sym c.bad_server.ensures ∙ c.if-bad_server.false, c.no_counters-s.ensures, c.no_log-s.ensures, c.fill.ensures.after (λ y e. e), long, c.fresh_record.ensures)
