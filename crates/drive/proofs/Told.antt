-- What `?` hands on is told as what it was given, and no refusal is told as 0. Assumes nothing.
use Rattle.std.proofs.Common.{◌≡◌, ℕ, Result, Ok, Err, ap, ◌∙◌, false, refl}
use Rattle.std.specs.Prelude.{IsErrAnd, eqb}
use Rattle.rules.specs.declared.refusals.Refusal.{Refusal}
use Rattle.rules.specs.declared.refusals.Refusal.TheVariants.{OutOfRange, BadPieces, BadSet, Untouched, OtherPieces, OtherSet, TooFew, Misplaced, NoBallot, Cut, Left, Unknown, OutOfForm, NoRoom}
use Rattle.rules.specs.Refusal.{number_of, told}

pub passed_on : {A : Type 0} (r : Result A Refusal) (x : Refusal) {n : ℕ} → IsErrAnd r (λ e. e ≡ x) → number_of x ≡ n → told r ≡ n
passed_on (Ok a) x f h = absurd f
passed_on (Err e) x f h = ap number_of f ∙ h

pub told-other : (x : Refusal) → eqb (number_of x) 0 ≡ false
told-other OutOfRange = refl
told-other BadPieces = refl
told-other BadSet = refl
told-other Untouched = refl
told-other OtherPieces = refl
told-other OtherSet = refl
told-other TooFew = refl
told-other Misplaced = refl
told-other NoBallot = refl
told-other Cut = refl
told-other Left = refl
told-other Unknown = refl
told-other OutOfForm = refl
told-other NoRoom = refl
