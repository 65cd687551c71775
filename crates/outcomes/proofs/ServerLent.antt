-- Two outcomes that meet the contract of a public function of `server_lent` are equal. Written by tools/outcomes. Assumes nothing.
use mathlib.Core.Path.{sym, ◌∙◌}
use Rattle.outcomes.specs.Once.{Answers, Leaves}
use Rattle.outcomes.proofs.Forms.{told-one}
use Rattle.server.specs.declared.Server.{Server}
use Rattle.server_lent.proofs.first.fresh.Reads as server-lent·first·fresh-contract
use Rattle.server_lent.proofs.running.run_planned.Reads as server-lent·running·run-planned-contract

pub server-lent·first·fresh : Answers server-lent·first·fresh-contract.Post
server-lent·first·fresh κ a x y e e' p q = told-one x y (p.0 ∙ sym q.0)

pub server-lent·first·fresh·leaves-s : Leaves {B = Server} (λ κ e. e.0.now) server-lent·first·fresh-contract.Post
server-lent·first·fresh·leaves-s κ a x y e e' p q = p.1 ∙ sym q.1

pub server-lent·running·run-planned : Answers server-lent·running·run-planned-contract.Post
server-lent·running·run-planned κ a x y e e' p q = p.0 ∙ sym q.0

pub server-lent·running·run-planned·leaves-s : Leaves {B = Server} (λ κ e. e.0.now) server-lent·running·run-planned-contract.Post
server-lent·running·run-planned·leaves-s κ a x y e e' p q = p.1 ∙ sym q.1
