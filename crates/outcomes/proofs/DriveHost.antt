-- Two outcomes that meet the contract of a public function of `drive_host` are equal. Written by tools/outcomes. Assumes nothing.
use mathlib.Core.Path.{sym, ◌∙◌}
use Rattle.outcomes.specs.Once.{Answers, Leaves}
use Rattle.outcomes.proofs.Forms.{sent-one, told-one}
use Rattle.drive.specs.declared.Drive.{Drive}
use Rattle.drive_host.proofs.began.Reads as drive-host·began-contract
use Rattle.drive_host.proofs.start.Reads as drive-host·start-contract
use Rattle.drive_host.proofs.recover.Reads as drive-host·recover-contract
use Rattle.drive_host.proofs.again.Reads as drive-host·again-contract
use Rattle.drive_host.proofs.move_on.Reads as drive-host·move-on-contract
use Rattle.drive_host.proofs.sending.due.Reads as drive-host·sending·due-contract

pub drive-host·began : Answers drive-host·began-contract.Post
drive-host·began κ a x y e e' p q = p ∙ sym q

pub drive-host·start : Answers drive-host·start-contract.Post
drive-host·start κ a x y e e' p q = told-one x y (p.0 ∙ sym q.0)

pub drive-host·start·leaves-d : Leaves {B = Drive} (λ κ e. e.0.now) drive-host·start-contract.Post
drive-host·start·leaves-d κ a x y e e' p q = p.1 ∙ sym q.1

pub drive-host·recover : Answers drive-host·recover-contract.Post
drive-host·recover κ a x y e e' p q = told-one x y (p.0 ∙ sym q.0)

pub drive-host·recover·leaves-d : Leaves {B = Drive} (λ κ e. e.0.now) drive-host·recover-contract.Post
drive-host·recover·leaves-d κ a x y e e' p q = p.1 ∙ sym q.1

pub drive-host·again : Answers drive-host·again-contract.Post
drive-host·again κ a x y e e' p q = told-one x y (p.0 ∙ sym q.0)

pub drive-host·again·leaves-d : Leaves {B = Drive} (λ κ e. e.0.now) drive-host·again-contract.Post
drive-host·again·leaves-d κ a x y e e' p q = p.1 ∙ sym q.1

pub drive-host·move-on : Answers drive-host·move-on-contract.Post
drive-host·move-on κ a x y e e' p q = told-one x y (p.0 ∙ sym q.0)

pub drive-host·move-on·leaves-d : Leaves {B = Drive} (λ κ e. e.0.now) drive-host·move-on-contract.Post
drive-host·move-on·leaves-d κ a x y e e' p q = p.1 ∙ sym q.1

pub drive-host·sending·due : Answers drive-host·sending·due-contract.Post
drive-host·sending·due κ a x y e e' p q = sent-one x y (p ∙ sym q)
