-- Two outcomes are equal where what is told of them is: a refusal by its number, or what is given. Assumes nothing.
use mathlib.Core.Path.{◌≡◌, refl, sym, ap, ◌∙◌}
use Prim.Native.Nat.{ℕ}
use mathlib.Core.Bool.{true≢false}
use lib.Dec.{eqb}
use Rattle.std.specs.Prelude.{Option, Some, None, Result, Ok, Err, IfOk, MatchOption, MatchResult}
use Rattle.rules.specs.Choice.{◌if◌else◌}
use Rattle.rules.specs.Refusal.{number_of, told}
use Rattle.rules.specs.declared.refusals.Refusal.{Refusal}
use Rattle.rules.specs.declared.refusals.Refusal.TheVariants.{OutOfRange, BadPieces, BadSet, Untouched, OtherPieces, OtherSet, TooFew, Misplaced, NoBallot, Cut, Left, Unknown, OutOfForm, NoRoom}
use Rattle.drive.proofs.Told.{told-other}
use Rattle.rules.specs.declared.Ballot.{Ballot}
use Rattle.rules.specs.Ballots.{as_next}
use Rattle.encoding.specs.Answers.{told_of}
use Rattle.drive_host.specs.declared.sending.Letter.{Letter}
use Rattle.drive_host.specs.Sent.{sent}
use Rattle.door.specs.Told.{answered, counted_as}

unfoldable of_number : ℕ → Refusal
of_number n =
    OutOfRange if eqb n 1
    else BadPieces if eqb n 2
    else BadSet if eqb n 3
    else Untouched if eqb n 4
    else OtherPieces if eqb n 5
    else OtherSet if eqb n 6
    else TooFew if eqb n 7
    else Misplaced if eqb n 8
    else NoBallot if eqb n 9
    else Cut if eqb n 10
    else Left if eqb n 11
    else Unknown if eqb n 12
    else OutOfForm if eqb n 13
    else NoRoom

of-number : (r : Refusal) → of_number (number_of r) ≡ r
unfolding of_number
of-number OutOfRange = refl
of-number BadPieces = refl
of-number BadSet = refl
of-number Untouched = refl
of-number OtherPieces = refl
of-number OtherSet = refl
of-number TooFew = refl
of-number Misplaced = refl
of-number NoBallot = refl
of-number Cut = refl
of-number Left = refl
of-number Unknown = refl
of-number OutOfForm = refl
of-number NoRoom = refl

-- a refusal has its number alone
number-one : (r s : Refusal) → number_of r ≡ number_of s → r ≡ s
number-one r s e = sym (of-number r) ∙ ap of_number e ∙ of-number s

-- and none has 0
number-some : (r : Refusal) → number_of r ≡ 0 → ⊥
number-some r e = true≢false (ap (λ (n : ℕ). eqb n 0) (sym e) ∙ told-other r)

pub told-one : (x y : Result (Unit {0}) Refusal) → told x ≡ told y → x ≡ y
told-one (Ok a) (Ok b) e = refl
told-one (Err r) (Err s) e = ap Err (number-one r s e)
told-one (Ok a) (Err s) e = absurd (number-some s (sym e))
told-one (Err r) (Ok b) e = absurd (number-some r e)

pub told-ok : {A : Type 0} (x y : Result A Refusal) (v : A) → told x ≡ told y → IfOk x (λ c. c ≡ v) → IfOk y (λ c. c ≡ v) → x ≡ y
told-ok (Ok a) (Ok b) v e h k = ap Ok (h ∙ sym k)
told-ok (Err r) (Err s) v e h k = ap Err (number-one r s e)
told-ok (Ok a) (Err s) v e h k = absurd (number-some s (sym e))
told-ok (Err r) (Ok b) v e h k = absurd (number-some r e)

pub told_of-one : (x y : Result ℕ Refusal) → told_of x ≡ told_of y → x ≡ y
told_of-one (Ok m) (Ok n) e = λ i. Ok (e i).length
told_of-one (Err r) (Err s) e = ap Err (number-one r s (λ i. (e i).refusal))
told_of-one (Ok m) (Err s) e = absurd (number-some s (λ i. (sym e i).refusal))
told_of-one (Err r) (Ok n) e = absurd (number-some r (λ i. (e i).refusal))

pub as_next-one : (x y : Result Ballot Refusal) → as_next x ≡ as_next y → x ≡ y
as_next-one (Ok m) (Ok n) e = λ i. Ok (record { number = (e i).ballot })
as_next-one (Err r) (Err s) e = ap Err (number-one r s (λ i. (e i).refusal))
as_next-one (Ok m) (Err s) e = absurd (number-some s (λ i. (sym e i).refusal))
as_next-one (Err r) (Ok n) e = absurd (number-some r (λ i. (e i).refusal))

pub sent-one : (x y : Result Letter Refusal) → sent x ≡ sent y → x ≡ y
sent-one (Ok m) (Ok n) e = λ i. Ok (record { message = (e i).message; servers = (e i).servers })
sent-one (Err r) (Err s) e = ap Err (number-one r s (λ i. (e i).refusal))
sent-one (Ok m) (Err s) e = absurd (number-some s (λ i. (sym e i).refusal))
sent-one (Err r) (Ok n) e = absurd (number-some r (λ i. (e i).refusal))

pub answered-one : (x y : Result ℕ Refusal) → answered x ≡ answered y → x ≡ y
answered-one (Ok m) (Ok n) e = λ i. Ok (e i).length
answered-one (Err r) (Err s) e = ap Err (number-one r s (λ i. (e i).refusal))
answered-one (Ok m) (Err s) e = absurd (number-some s (λ i. (sym e i).refusal))
answered-one (Err r) (Ok n) e = absurd (number-some r (λ i. (e i).refusal))

pub counted_as-one : (x y : Result ℕ Refusal) → counted_as x ≡ counted_as y → x ≡ y
counted_as-one (Ok m) (Ok n) e = λ i. Ok (e i).many
counted_as-one (Err r) (Err s) e = ap Err (number-one r s (λ i. (e i).refusal))
counted_as-one (Ok m) (Err s) e = absurd (number-some s (λ i. (sym e i).refusal))
counted_as-one (Err r) (Ok n) e = absurd (number-some r (λ i. (e i).refusal))

-- where it is said when nothing is given, and what is given else
pub option-one : {A : Type 0} {P : Type 0} {Q : A → Type 0} {v : A} (x y : Option A) → ((a : A) → Q a → a ≡ v → P → ⊥)
    → MatchOption x P (λ a. Q a × (a ≡ v)) → MatchOption y P (λ a. Q a × (a ≡ v)) → x ≡ y
option-one None None never h k = refl
option-one (Some a) (Some b) never h k = ap Some (h.1 ∙ sym k.1)
option-one None (Some b) never h k = absurd (never b k.0 k.1 h)
option-one (Some a) None never h k = absurd (never a h.0 h.1 k)

pub result-one : {A E : Type 0} {P Q : Type 0} (v : A) (w : E) (x y : Result A E) → (P → Q → ⊥)
    → MatchResult x (λ a. P × (a ≡ v)) (λ e. Q × (e ≡ w)) → MatchResult y (λ a. P × (a ≡ v)) (λ e. Q × (e ≡ w)) → x ≡ y
result-one v w (Ok a) (Ok b) never h k = ap Ok (h.1 ∙ sym k.1)
result-one v w (Err a) (Err b) never h k = ap Err (h.1 ∙ sym k.1)
result-one v w (Ok a) (Err b) never h k = absurd (never h.0 k.0)
result-one v w (Err a) (Ok b) never h k = absurd (never k.0 h.0)
