-- Two outcomes that meet the contract of a public function of `rules` are equal. Written by tools/outcomes. Assumes nothing.
use mathlib.Core.Path.{sym, ◌∙◌}
use Rattle.outcomes.specs.Once.{Answers}
use Rattle.outcomes.proofs.Forms.{as_next-one}
use Rattle.rules.proofs.Ballot.next.Reads as rules·Ballot·next-contract
use Rattle.rules.proofs.NextBallotFromResultBallotRefusal.from.Reads as rules·NextBallotFromResultBallotRefusal·from-contract
use Rattle.rules.proofs.cluster.bad_number.Reads as rules·cluster·bad-number-contract
use Rattle.rules.proofs.cluster.bad_server.Reads as rules·cluster·bad-server-contract
use Rattle.rules.proofs.cluster.bad_coordinator.Reads as rules·cluster·bad-coordinator-contract
use Rattle.rules.proofs.cluster.server_of.Reads as rules·cluster·server-of-contract
use Rattle.rules.proofs.cluster.shard_of.Reads as rules·cluster·shard-of-contract
use Rattle.rules.proofs.ballots.origin.Reads as rules·ballots·origin-contract
use Rattle.rules.proofs.ballots.bad_ballot.Reads as rules·ballots·bad-ballot-contract
use Rattle.rules.proofs.ballots.recovers_with.Reads as rules·ballots·recovers-with-contract
use Rattle.rules.proofs.ballots.may_use.Reads as rules·ballots·may-use-contract
use Rattle.rules.proofs.ballots.next_above.Reads as rules·ballots·next-above-contract
use Rattle.rules.proofs.ballots.no_next.Reads as rules·ballots·no-next-contract
use Rattle.rules.proofs.sets.word.Reads as rules·sets·word-contract
use Rattle.rules.proofs.sets.same_set.Reads as rules·sets·same-set-contract
use Rattle.rules.proofs.sets.union_set.Reads as rules·sets·union-set-contract
use Rattle.rules.proofs.sets.members.Reads as rules·sets·members-contract
use Rattle.rules.proofs.sets.bad_word.Reads as rules·sets·bad-word-contract
use Rattle.rules.proofs.sets.bad_set.Reads as rules·sets·bad-set-contract
use Rattle.rules.proofs.refusals.U32FromRefusal.from.Reads as rules·refusals·U32FromRefusal·from-contract
use Rattle.rules.proofs.refusals.told.Reads as rules·refusals·told-contract
use Rattle.rules.proofs.kinds.KindFromU32.from.Reads as rules·kinds·KindFromU32·from-contract
use Rattle.rules.proofs.kinds.Kind.writes.Reads as rules·kinds·Kind·writes-contract

pub rules·Ballot·next : Answers rules·Ballot·next-contract.Post
rules·Ballot·next κ a x y e e' p q = as_next-one x y (p ∙ sym q)

pub rules·NextBallotFromResultBallotRefusal·from : Answers rules·NextBallotFromResultBallotRefusal·from-contract.Post
rules·NextBallotFromResultBallotRefusal·from κ a x y e e' p q = p ∙ sym q

pub rules·cluster·bad-number : Answers rules·cluster·bad-number-contract.Post
rules·cluster·bad-number κ a x y e e' p q = p ∙ sym q

pub rules·cluster·bad-server : Answers rules·cluster·bad-server-contract.Post
rules·cluster·bad-server κ a x y e e' p q = p ∙ sym q

pub rules·cluster·bad-coordinator : Answers rules·cluster·bad-coordinator-contract.Post
rules·cluster·bad-coordinator κ a x y e e' p q = p ∙ sym q

pub rules·cluster·server-of : Answers rules·cluster·server-of-contract.Post
rules·cluster·server-of κ a x y e e' p q = p ∙ sym q

pub rules·cluster·shard-of : Answers rules·cluster·shard-of-contract.Post
rules·cluster·shard-of κ a x y e e' p q = p ∙ sym q

pub rules·ballots·origin : Answers rules·ballots·origin-contract.Post
rules·ballots·origin κ a x y e e' p q = p ∙ sym q

pub rules·ballots·bad-ballot : Answers rules·ballots·bad-ballot-contract.Post
rules·ballots·bad-ballot κ a x y e e' p q = p ∙ sym q

pub rules·ballots·recovers-with : Answers rules·ballots·recovers-with-contract.Post
rules·ballots·recovers-with κ a x y e e' p q = p ∙ sym q

pub rules·ballots·may-use : Answers rules·ballots·may-use-contract.Post
rules·ballots·may-use κ a x y e e' p q = p ∙ sym q

pub rules·ballots·next-above : Answers rules·ballots·next-above-contract.Post
rules·ballots·next-above κ a x y e e' p q = p ∙ sym q

pub rules·ballots·no-next : Answers rules·ballots·no-next-contract.Post
rules·ballots·no-next κ a x y e e' p q = p ∙ sym q

pub rules·sets·word : Answers rules·sets·word-contract.Post
rules·sets·word κ a x y e e' p q = p ∙ sym q

pub rules·sets·same-set : Answers rules·sets·same-set-contract.Post
rules·sets·same-set κ a x y e e' p q = p ∙ sym q

pub rules·sets·union-set : Answers rules·sets·union-set-contract.Post
rules·sets·union-set κ a x y e e' p q = p ∙ sym q

pub rules·sets·members : Answers rules·sets·members-contract.Post
rules·sets·members κ a x y e e' p q = p ∙ sym q

pub rules·sets·bad-word : Answers rules·sets·bad-word-contract.Post
rules·sets·bad-word κ a x y e e' p q = p ∙ sym q

pub rules·sets·bad-set : Answers rules·sets·bad-set-contract.Post
rules·sets·bad-set κ a x y e e' p q = p ∙ sym q

pub rules·refusals·U32FromRefusal·from : Answers rules·refusals·U32FromRefusal·from-contract.Post
rules·refusals·U32FromRefusal·from κ a x y e e' p q = p ∙ sym q

pub rules·refusals·told : Answers rules·refusals·told-contract.Post
rules·refusals·told κ a x y e e' p q = p ∙ sym q

pub rules·kinds·KindFromU32·from : Answers rules·kinds·KindFromU32·from-contract.Post
rules·kinds·KindFromU32·from κ a x y e e' p q = p ∙ sym q

pub rules·kinds·Kind·writes : Answers rules·kinds·Kind·writes-contract.Post
rules·kinds·Kind·writes κ a x y e e' p q = p ∙ sym q
