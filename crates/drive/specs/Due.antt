-- Document 01, "The drive": the message due and the servers that it is due to, every server of T's shards in each phase. It depends on the drive alone.
use Rattle.std.specs.Prelude.{ℕ, eqb}
use Rattle.masks.specs.Folds.{mask_of}
use Rattle.rules.specs.Choice.{◌if◌else◌}
use Rattle.wire.specs.declared.Message.{Message}
use Rattle.wire.specs.Messages.{blank, prepare, pre_accept, accept, commit}
use Rattle.drive.specs.declared.Drive.{Drive}
use Rattle.drive.specs.declared.Sending.{Sending}
use Rattle.drive.specs.Held.{touched, addressed}
use Rattle.drive.specs.Form.{formed}

unfoldable pub due_message : Drive → Message
due_message d =
    prepare d.t d.ballot d.pieces if eqb d.phase 0
    else pre_accept d.t d.ballot d.pieces if eqb d.phase 1
    else accept d.t d.ballot d.pieces d.chosen.set if eqb d.phase 2
    else commit d.t d.pieces d.chosen.set

unfoldable pub servers_of : (touched : ℕ) → ℕ
servers_of touched = mask_of (addressed touched) 12

unfoldable pub due : Drive → Sending
due d =
    record { refusal = 0; message = due_message d; servers = servers_of (touched d) } if formed d
    else record { refusal = 13; message = blank; servers = 0 }
