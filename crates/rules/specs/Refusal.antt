-- Document 01, "Refusal numbers": each reason's number, and what is told of an outcome, 0 where nothing refuses.
use Rattle.std.specs.Prelude.{ℕ, Result, Ok, Err}
use Rattle.rules.specs.declared.refusals.Refusal.{Refusal}
use Rattle.rules.specs.declared.refusals.Refusal.TheVariants.{OutOfRange, BadPieces, BadSet, Untouched, OtherPieces, OtherSet, TooFew, Misplaced, NoBallot, Cut, Left, Unknown, OutOfForm, NoRoom}

abbrev pub number_of : Refusal → ℕ
number_of OutOfRange = 1
number_of BadPieces = 2
number_of BadSet = 3
number_of Untouched = 4
number_of OtherPieces = 5
number_of OtherSet = 6
number_of TooFew = 7
number_of Misplaced = 8
number_of NoBallot = 9
number_of Cut = 10
number_of Left = 11
number_of Unknown = 12
number_of OutOfForm = 13
number_of NoRoom = 14

abbrev pub told : {A : Type 0} → Result A Refusal → ℕ
told (Ok _) = 0
told (Err r) = number_of r
