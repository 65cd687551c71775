-- Two outcomes that meet the contract of a public function of `server_plan` are equal. Written by tools/outcomes. Assumes nothing.
use mathlib.Core.Path.{sym, ◌∙◌}
use Rattle.outcomes.specs.Once.{Answers, Leaves}
use Rattle.server_plan.specs.declared.Waiting.{Waiting}
use Rattle.server_plan.proofs.Waiting.note.Reads as server-plan·Waiting·note-contract
use Rattle.server_plan.proofs.unrun_of.Reads as server-plan·unrun-of-contract
use Rattle.server_plan.proofs.waiting_in.Reads as server-plan·waiting-in-contract
use Rattle.server_plan.proofs.plan_runs.Reads as server-plan·plan-runs-contract
use Rattle.server_plan.proofs.plan_commit.Reads as server-plan·plan-commit-contract

pub server-plan·Waiting·note : Leaves {B = Waiting} (λ κ e. e.0.now) server-plan·Waiting·note-contract.Post
server-plan·Waiting·note κ a x y e e' p q = p ∙ sym q

pub server-plan·unrun-of : Answers server-plan·unrun-of-contract.Post
server-plan·unrun-of κ a x y e e' p q = p ∙ sym q

pub server-plan·waiting-in : Answers server-plan·waiting-in-contract.Post
server-plan·waiting-in κ a x y e e' p q = p ∙ sym q

pub server-plan·plan-runs : Answers server-plan·plan-runs-contract.Post
server-plan·plan-runs κ a x y e e' p q = p ∙ sym q

pub server-plan·plan-commit : Answers server-plan·plan-commit-contract.Post
server-plan·plan-commit κ a x y e e' p q = p ∙ sym q
