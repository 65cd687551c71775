-- What a call tells the host in C's words: the refusal's number or 0, and beside it how many bytes were written, or how many numbers ran.
use Rattle.std.specs.Prelude.{ℕ, Result, Ok, Err}
use Rattle.rules.specs.declared.refusals.Refusal.{Refusal}
use Rattle.rules.specs.Refusal.{number_of}
use Rattle.server.specs.declared.Ran.{Ran}
use Rattle.door.specs.declared.Answer.{Answer}
use Rattle.door.specs.declared.Counted.{Counted}
use Rattle.door.specs.declared.Due.{Due}
use Rattle.door.specs.declared.Posted.{Posted}

abbrev pub answered : Result ℕ Refusal → Answer
answered (Ok n) = record { refusal = 0; length = n }
answered (Err r) = record { refusal = number_of r; length = 0 }

abbrev pub due_as : Result Posted Refusal → Due
due_as (Ok p) = record { refusal = 0; length = p.length; servers = p.servers }
due_as (Err r) = record { refusal = number_of r; length = 0; servers = 0 }

abbrev pub counted_as : Result ℕ Refusal → Counted
counted_as (Ok n) = record { refusal = 0; many = n }
counted_as (Err r) = record { refusal = number_of r; many = 0 }

abbrev pub counted : Ran → Counted
counted o = record { refusal = o.refusal; many = o.many }
