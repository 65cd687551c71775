-- What is due, as the definitions say it: of a refusal its number, a blank message and no server.
use Rattle.std.specs.Prelude.{Result, Ok, Err}
use Rattle.rules.specs.declared.refusals.Refusal.{Refusal}
use Rattle.rules.specs.Refusal.{number_of}
use Rattle.wire.specs.Messages.{blank}
use Rattle.drive.specs.declared.Sending.{Sending}
use Rattle.drive_host.specs.declared.sending.Letter.{Letter}

abbrev pub sent : Result Letter Refusal → Sending
sent (Ok l) = record { refusal = 0; message = l.message; servers = l.servers }
sent (Err r) = record { refusal = number_of r; message = blank; servers = 0 }
