-- Two outcomes that meet the contract of a public function of `server_read` are equal. Written by tools/outcomes. Assumes nothing.
use mathlib.Core.Path.{sym, ◌∙◌}
use Rattle.outcomes.specs.Once.{Answers}
use Rattle.outcomes.proofs.Forms.{told-ok}
use Rattle.server_read.proofs.stepping.weigh.Reads as server-read·stepping·weigh-contract
use Rattle.server_read.proofs.wanting.wanted.Reads as server-read·wanting·wanted-contract

pub server-read·stepping·weigh : Answers server-read·stepping·weigh-contract.Post
server-read·stepping·weigh κ a x y e e' p q = told-ok x y _ (p.0 ∙ sym q.0) p.1 q.1

pub server-read·wanting·wanted : Answers server-read·wanting·wanted-contract.Post
server-read·wanting·wanted κ a x y e e' p q = p ∙ sym q
