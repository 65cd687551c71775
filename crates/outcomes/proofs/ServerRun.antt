-- Two outcomes that meet the contract of a public function of `server_run` are equal. Written by tools/outcomes. Assumes nothing.
use mathlib.Core.Path.{sym, ◌∙◌}
use Rattle.outcomes.specs.Once.{Answers}
use Rattle.server_run.proofs.first.fresh_record.Reads as server-run·first·fresh-record-contract
use Rattle.server_run.proofs.first.no_counters.Reads as server-run·first·no-counters-contract
use Rattle.server_run.proofs.first.no_log.Reads as server-run·first·no-log-contract
use Rattle.server_run.proofs.gather.named.Reads as server-run·gather·named-contract
use Rattle.server_run.proofs.gather.set_without.Reads as server-run·gather·set-without-contract

pub server-run·first·fresh-record : Answers server-run·first·fresh-record-contract.Post
server-run·first·fresh-record κ a x y e e' p q = p ∙ sym q

pub server-run·first·no-counters : Answers server-run·first·no-counters-contract.Post
server-run·first·no-counters κ a x y e e' p q = p ∙ sym q

pub server-run·first·no-log : Answers server-run·first·no-log-contract.Post
server-run·first·no-log κ a x y e e' p q = p ∙ sym q

pub server-run·gather·named : Answers server-run·gather·named-contract.Post
server-run·gather·named κ a x y e e' p q = p ∙ sym q

pub server-run·gather·set-without : Answers server-run·gather·set-without-contract.Post
server-run·gather·set-without κ a x y e e' p q = p ∙ sym q
