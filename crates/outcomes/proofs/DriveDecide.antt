-- Two outcomes that meet the contract of a public function of `drive_decide` are equal. Written by tools/outcomes. Assumes nothing.
use mathlib.Core.Path.{sym, ◌∙◌}
use Rattle.outcomes.specs.Once.{Answers, Leaves}
use Rattle.drive.specs.declared.Drive.{Drive}
use Rattle.drive_decide.proofs.Turn.to.Reads as drive-decide·Turn·to-contract
use Rattle.drive_decide.proofs.Turn.begin.Reads as drive-decide·Turn·begin-contract
use Rattle.drive_decide.proofs.decide0.Reads as drive-decide·decide0-contract
use Rattle.drive_decide.proofs.decide1.Reads as drive-decide·decide1-contract
use Rattle.drive_decide.proofs.decide.Reads as drive-decide·decide-contract
use Rattle.drive_decide.proofs.votes.highest.Reads as drive-decide·votes·highest-contract
use Rattle.drive_decide.proofs.votes.best.Reads as drive-decide·votes·best-contract
use Rattle.drive_decide.proofs.words.in_shard.Reads as drive-decide·words·in-shard-contract
use Rattle.drive_decide.proofs.words.in_all.Reads as drive-decide·words·in-all-contract
use Rattle.drive_decide.proofs.words.of_drive.Reads as drive-decide·words·of-drive-contract

pub drive-decide·Turn·to : Answers drive-decide·Turn·to-contract.Post
drive-decide·Turn·to κ a x y e e' p q = p ∙ sym q

pub drive-decide·Turn·begin : Leaves {B = Drive} (λ κ e. e.1.0.now) drive-decide·Turn·begin-contract.Post
drive-decide·Turn·begin κ a x y e e' p q = p ∙ sym q

pub drive-decide·decide0 : Answers drive-decide·decide0-contract.Post
drive-decide·decide0 κ a x y e e' p q = p ∙ sym q

pub drive-decide·decide1 : Answers drive-decide·decide1-contract.Post
drive-decide·decide1 κ a x y e e' p q = p ∙ sym q

pub drive-decide·decide : Answers drive-decide·decide-contract.Post
drive-decide·decide κ a x y e e' p q = p ∙ sym q

pub drive-decide·votes·highest : Answers drive-decide·votes·highest-contract.Post
drive-decide·votes·highest κ a x y e e' p q = p ∙ sym q

pub drive-decide·votes·best : Answers drive-decide·votes·best-contract.Post
drive-decide·votes·best κ a x y e e' p q = p ∙ sym q

pub drive-decide·words·in-shard : Answers drive-decide·words·in-shard-contract.Post
drive-decide·words·in-shard κ a x y e e' p q = p ∙ sym q

pub drive-decide·words·in-all : Answers drive-decide·words·in-all-contract.Post
drive-decide·words·in-all κ a x y e e' p q = p ∙ sym q

pub drive-decide·words·of-drive : Answers drive-decide·words·of-drive-contract.Post
drive-decide·words·of-drive κ a x y e e' p q = p ∙ sym q
