-- Two outcomes that meet the contract of a public function of `station` are equal. Written by tools/outcomes. Assumes nothing.
use mathlib.Core.Path.{sym, ◌∙◌}
use mathlib.Core.List.{List}
use Prim.Native.Nat.{ℕ}
use Rattle.outcomes.specs.Once.{Answers, Leaves}
use Rattle.outcomes.proofs.Forms.{answered-one, counted_as-one}
use Rattle.drive.specs.declared.Drive.{Drive}
use Rattle.server.specs.declared.Server.{Server}
use Rattle.station.proofs.by_value.drobulets_next_ballot.Reads as station·by-value·drobulets-next-ballot-contract
use Rattle.station.proofs.by_value.drobulets_decode.Reads as station·by-value·drobulets-decode-contract
use Rattle.station.proofs.by_value.drobulets_encode.Reads as station·by-value·drobulets-encode-contract
use Rattle.station.proofs.servers.drobulets_server_fresh.Reads as station·servers·drobulets-server-fresh-contract
use Rattle.station.proofs.servers.take_commit.Reads as station·servers·take-commit-contract
use Rattle.station.proofs.servers.drobulets_server_take.Reads as station·servers·drobulets-server-take-contract
use Rattle.station.proofs.servers.runs.Reads as station·servers·runs-contract
use Rattle.station.proofs.servers.drobulets_server_run.Reads as station·servers·drobulets-server-run-contract
use Rattle.station.proofs.servers.drobulets_server_run_all.Reads as station·servers·drobulets-server-run-all-contract
use Rattle.station.proofs.servers.drobulets_server_wanted.Reads as station·servers·drobulets-server-wanted-contract
use Rattle.station.proofs.servers.drobulets_server_counter.Reads as station·servers·drobulets-server-counter-contract
use Rattle.station.proofs.servers.drobulets_server_log.Reads as station·servers·drobulets-server-log-contract
use Rattle.station.proofs.servers.drobulets_server_result.Reads as station·servers·drobulets-server-result-contract
use Rattle.station.proofs.drives.drobulets_drive_start.Reads as station·drives·drobulets-drive-start-contract
use Rattle.station.proofs.drives.drobulets_drive_recover.Reads as station·drives·drobulets-drive-recover-contract
use Rattle.station.proofs.drives.drobulets_drive_again.Reads as station·drives·drobulets-drive-again-contract
use Rattle.station.proofs.drives.drobulets_drive_move_on.Reads as station·drives·drobulets-drive-move-on-contract
use Rattle.station.proofs.drives.drobulets_drive_take.Reads as station·drives·drobulets-drive-take-contract
use Rattle.station.proofs.drives.drobulets_drive_due.Reads as station·drives·drobulets-drive-due-contract

pub station·by-value·drobulets-next-ballot : Answers station·by-value·drobulets-next-ballot-contract.Post
station·by-value·drobulets-next-ballot κ a x y e e' p q = p ∙ sym q

pub station·by-value·drobulets-decode : Answers station·by-value·drobulets-decode-contract.Post
station·by-value·drobulets-decode κ a x y e e' p q = p ∙ sym q

pub station·by-value·drobulets-encode : Answers station·by-value·drobulets-encode-contract.Post
station·by-value·drobulets-encode κ a x y e e' p q = p.0 ∙ sym q.0

pub station·by-value·drobulets-encode·leaves-output : Leaves {B = List ℕ} (λ κ e. e.1.0.now) station·by-value·drobulets-encode-contract.Post
station·by-value·drobulets-encode·leaves-output κ a x y e e' p q = p.1 ∙ sym q.1

pub station·servers·drobulets-server-fresh : Answers station·servers·drobulets-server-fresh-contract.Post
station·servers·drobulets-server-fresh κ a x y e e' p q = p.0 ∙ sym q.0

pub station·servers·drobulets-server-fresh·leaves-s : Leaves {B = Server} (λ κ e. e.0.now) station·servers·drobulets-server-fresh-contract.Post
station·servers·drobulets-server-fresh·leaves-s κ a x y e e' p q = p.1 ∙ sym q.1

pub station·servers·take-commit : Answers station·servers·take-commit-contract.Post
station·servers·take-commit κ a x y e e' p q = answered-one x y (p.0 ∙ sym q.0)

pub station·servers·take-commit·leaves-s : Leaves {B = Server} (λ κ e. e.0.now) station·servers·take-commit-contract.Post
station·servers·take-commit·leaves-s κ a x y e e' p q = p.1.0 ∙ sym q.1.0

pub station·servers·take-commit·leaves-output : Leaves {B = List ℕ} (λ κ e. e.1.1.1.0.now) station·servers·take-commit-contract.Post
station·servers·take-commit·leaves-output κ a x y e e' p q = p.1.1 ∙ sym q.1.1

pub station·servers·drobulets-server-take : Answers station·servers·drobulets-server-take-contract.Post
station·servers·drobulets-server-take κ a x y e e' p q = p.0 ∙ sym q.0

pub station·servers·drobulets-server-take·leaves-s : Leaves {B = Server} (λ κ e. e.0.now) station·servers·drobulets-server-take-contract.Post
station·servers·drobulets-server-take·leaves-s κ a x y e e' p q = p.1 ∙ sym q.1

pub station·servers·drobulets-server-take·leaves-output : Leaves {B = List ℕ} (λ κ e. e.1.1.0.now) station·servers·drobulets-server-take-contract.Post
station·servers·drobulets-server-take·leaves-output κ a x y e e' p q = p.2 ∙ sym q.2

pub station·servers·runs : Answers station·servers·runs-contract.Post
station·servers·runs κ a x y e e' p q = counted_as-one x y (p.0 ∙ sym q.0)

pub station·servers·runs·leaves-s : Leaves {B = Server} (λ κ e. e.0.now) station·servers·runs-contract.Post
station·servers·runs·leaves-s κ a x y e e' p q = p.1 ∙ sym q.1

pub station·servers·drobulets-server-run : Answers station·servers·drobulets-server-run-contract.Post
station·servers·drobulets-server-run κ a x y e e' p q = p.0 ∙ sym q.0

pub station·servers·drobulets-server-run·leaves-s : Leaves {B = Server} (λ κ e. e.0.now) station·servers·drobulets-server-run-contract.Post
station·servers·drobulets-server-run·leaves-s κ a x y e e' p q = p.1 ∙ sym q.1

pub station·servers·drobulets-server-run-all : Answers station·servers·drobulets-server-run-all-contract.Post
station·servers·drobulets-server-run-all κ a x y e e' p q = p.0 ∙ sym q.0

pub station·servers·drobulets-server-run-all·leaves-s : Leaves {B = Server} (λ κ e. e.0.now) station·servers·drobulets-server-run-all-contract.Post
station·servers·drobulets-server-run-all·leaves-s κ a x y e e' p q = p.1 ∙ sym q.1

pub station·servers·drobulets-server-wanted : Answers station·servers·drobulets-server-wanted-contract.Post
station·servers·drobulets-server-wanted κ a x y e e' p q = p ∙ sym q

pub station·servers·drobulets-server-counter : Answers station·servers·drobulets-server-counter-contract.Post
station·servers·drobulets-server-counter κ a x y e e' p q = p ∙ sym q

pub station·servers·drobulets-server-log : Answers station·servers·drobulets-server-log-contract.Post
station·servers·drobulets-server-log κ a x y e e' p q = p ∙ sym q

pub station·servers·drobulets-server-result : Answers station·servers·drobulets-server-result-contract.Post
station·servers·drobulets-server-result κ a x y e e' p q = p ∙ sym q

pub station·drives·drobulets-drive-start : Answers station·drives·drobulets-drive-start-contract.Post
station·drives·drobulets-drive-start κ a x y e e' p q = p.0 ∙ sym q.0

pub station·drives·drobulets-drive-start·leaves-d : Leaves {B = Drive} (λ κ e. e.0.now) station·drives·drobulets-drive-start-contract.Post
station·drives·drobulets-drive-start·leaves-d κ a x y e e' p q = p.1 ∙ sym q.1

pub station·drives·drobulets-drive-recover : Answers station·drives·drobulets-drive-recover-contract.Post
station·drives·drobulets-drive-recover κ a x y e e' p q = p.0 ∙ sym q.0

pub station·drives·drobulets-drive-recover·leaves-d : Leaves {B = Drive} (λ κ e. e.0.now) station·drives·drobulets-drive-recover-contract.Post
station·drives·drobulets-drive-recover·leaves-d κ a x y e e' p q = p.1 ∙ sym q.1

pub station·drives·drobulets-drive-again : Answers station·drives·drobulets-drive-again-contract.Post
station·drives·drobulets-drive-again κ a x y e e' p q = p.0 ∙ sym q.0

pub station·drives·drobulets-drive-again·leaves-d : Leaves {B = Drive} (λ κ e. e.0.now) station·drives·drobulets-drive-again-contract.Post
station·drives·drobulets-drive-again·leaves-d κ a x y e e' p q = p.1 ∙ sym q.1

pub station·drives·drobulets-drive-move-on : Answers station·drives·drobulets-drive-move-on-contract.Post
station·drives·drobulets-drive-move-on κ a x y e e' p q = p.0 ∙ sym q.0

pub station·drives·drobulets-drive-move-on·leaves-d : Leaves {B = Drive} (λ κ e. e.0.now) station·drives·drobulets-drive-move-on-contract.Post
station·drives·drobulets-drive-move-on·leaves-d κ a x y e e' p q = p.1 ∙ sym q.1

pub station·drives·drobulets-drive-take : Answers station·drives·drobulets-drive-take-contract.Post
station·drives·drobulets-drive-take κ a x y e e' p q = p.0 ∙ sym q.0

pub station·drives·drobulets-drive-take·leaves-d : Leaves {B = Drive} (λ κ e. e.0.now) station·drives·drobulets-drive-take-contract.Post
station·drives·drobulets-drive-take·leaves-d κ a x y e e' p q = p.1 ∙ sym q.1

pub station·drives·drobulets-drive-due : Answers station·drives·drobulets-drive-due-contract.Post
station·drives·drobulets-drive-due κ a x y e e' p q = p.0 ∙ sym q.0

pub station·drives·drobulets-drive-due·leaves-output : Leaves {B = List ℕ} (λ κ e. e.1.0.now) station·drives·drobulets-drive-due-contract.Post
station·drives·drobulets-drive-due·leaves-output κ a x y e e' p q = p.1 ∙ sym q.1
