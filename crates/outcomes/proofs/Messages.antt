-- Two outcomes that meet the contract of a public function of `messages` are equal. Written by tools/outcomes. Assumes nothing.
use mathlib.Core.Path.{sym, ◌∙◌}
use Rattle.outcomes.specs.Once.{Answers}
use Rattle.messages.proofs.plain.Reads as messages·plain-contract
use Rattle.messages.proofs.blank.Reads as messages·blank-contract
use Rattle.messages.proofs.codes.shape_of.Reads as messages·codes·shape-of-contract
use Rattle.messages.proofs.codes.server_takes.Reads as messages·codes·server-takes-contract
use Rattle.messages.proofs.codes.drive_takes.Reads as messages·codes·drive-takes-contract
use Rattle.messages.proofs.blanks.no_pieces.Reads as messages·blanks·no-pieces-contract
use Rattle.messages.proofs.blanks.no_set.Reads as messages·blanks·no-set-contract
use Rattle.messages.proofs.blanks.no_values.Reads as messages·blanks·no-values-contract
use Rattle.messages.proofs.asks.pre_accept.Reads as messages·asks·pre-accept-contract
use Rattle.messages.proofs.asks.accept.Reads as messages·asks·accept-contract
use Rattle.messages.proofs.asks.commit.Reads as messages·asks·commit-contract
use Rattle.messages.proofs.asks.prepare.Reads as messages·asks·prepare-contract
use Rattle.messages.proofs.asks.inquire.Reads as messages·asks·inquire-contract
use Rattle.messages.proofs.asks.fetch.Reads as messages·asks·fetch-contract
use Rattle.messages.proofs.replies.pre_accept_ok.Reads as messages·replies·pre-accept-ok-contract
use Rattle.messages.proofs.replies.accept_ok.Reads as messages·replies·accept-ok-contract
use Rattle.messages.proofs.replies.commit_ok.Reads as messages·replies·commit-ok-contract
use Rattle.messages.proofs.replies.prepare_ok.Reads as messages·replies·prepare-ok-contract
use Rattle.messages.proofs.replies.done.Reads as messages·replies·done-contract
use Rattle.messages.proofs.replies.behind.Reads as messages·replies·behind-contract
use Rattle.messages.proofs.replies.not_yet.Reads as messages·replies·not-yet-contract
use Rattle.messages.proofs.replies.results.Reads as messages·replies·results-contract

pub messages·plain : Answers messages·plain-contract.Post
messages·plain κ a x y e e' p q = p ∙ sym q

pub messages·blank : Answers messages·blank-contract.Post
messages·blank κ a x y e e' p q = p ∙ sym q

pub messages·codes·shape-of : Answers messages·codes·shape-of-contract.Post
messages·codes·shape-of κ a x y e e' p q = p ∙ sym q

pub messages·codes·server-takes : Answers messages·codes·server-takes-contract.Post
messages·codes·server-takes κ a x y e e' p q = p ∙ sym q

pub messages·codes·drive-takes : Answers messages·codes·drive-takes-contract.Post
messages·codes·drive-takes κ a x y e e' p q = p ∙ sym q

pub messages·blanks·no-pieces : Answers messages·blanks·no-pieces-contract.Post
messages·blanks·no-pieces κ a x y e e' p q = p ∙ sym q

pub messages·blanks·no-set : Answers messages·blanks·no-set-contract.Post
messages·blanks·no-set κ a x y e e' p q = p ∙ sym q

pub messages·blanks·no-values : Answers messages·blanks·no-values-contract.Post
messages·blanks·no-values κ a x y e e' p q = p ∙ sym q

pub messages·asks·pre-accept : Answers messages·asks·pre-accept-contract.Post
messages·asks·pre-accept κ a x y e e' p q = p ∙ sym q

pub messages·asks·accept : Answers messages·asks·accept-contract.Post
messages·asks·accept κ a x y e e' p q = p ∙ sym q

pub messages·asks·commit : Answers messages·asks·commit-contract.Post
messages·asks·commit κ a x y e e' p q = p ∙ sym q

pub messages·asks·prepare : Answers messages·asks·prepare-contract.Post
messages·asks·prepare κ a x y e e' p q = p ∙ sym q

pub messages·asks·inquire : Answers messages·asks·inquire-contract.Post
messages·asks·inquire κ a x y e e' p q = p ∙ sym q

pub messages·asks·fetch : Answers messages·asks·fetch-contract.Post
messages·asks·fetch κ a x y e e' p q = p ∙ sym q

pub messages·replies·pre-accept-ok : Answers messages·replies·pre-accept-ok-contract.Post
messages·replies·pre-accept-ok κ a x y e e' p q = p ∙ sym q

pub messages·replies·accept-ok : Answers messages·replies·accept-ok-contract.Post
messages·replies·accept-ok κ a x y e e' p q = p ∙ sym q

pub messages·replies·commit-ok : Answers messages·replies·commit-ok-contract.Post
messages·replies·commit-ok κ a x y e e' p q = p ∙ sym q

pub messages·replies·prepare-ok : Answers messages·replies·prepare-ok-contract.Post
messages·replies·prepare-ok κ a x y e e' p q = p ∙ sym q

pub messages·replies·done : Answers messages·replies·done-contract.Post
messages·replies·done κ a x y e e' p q = p ∙ sym q

pub messages·replies·behind : Answers messages·replies·behind-contract.Post
messages·replies·behind κ a x y e e' p q = p ∙ sym q

pub messages·replies·not-yet : Answers messages·replies·not-yet-contract.Post
messages·replies·not-yet κ a x y e e' p q = p ∙ sym q

pub messages·replies·results : Answers messages·replies·results-contract.Post
messages·replies·results κ a x y e e' p q = p ∙ sym q
