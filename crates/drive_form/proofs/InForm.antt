-- What a check of the form answers says of the form, and who is then counted. Assumes nothing.
use Rattle.std.proofs.Common.{◌≡◌, Result, Ok, Err, Bool, true, false}
use Rattle.rules.specs.Choice.{◌if◌else◌}
use Rattle.rules.specs.declared.refusals.Refusal.{Refusal}
use Rattle.rules.specs.declared.refusals.Refusal.TheVariants.{OutOfForm}
use Rattle.drive.specs.declared.Drive.{Drive}
use Rattle.drive.specs.Form.{formed}
use Rattle.drive_form.specs.declared.Counted.{Counted}
use Rattle.drive_form.specs.Parts.{counted_of, in_form}

abbrev by : Bool → Counted → Result Counted Refusal
by b k = Ok k if b else Err OutOfForm

kept-by : (b : Bool) (k x : Counted) → Ok x ≡ by b k → (b ≡ true) × (x ≡ k)
kept-by true k x e = (cc, cc)
kept-by false k x e = cc

broken_by : (b : Bool) (k : Counted) (x : Refusal) → Err x ≡ by b k → (b ≡ false) × (x ≡ OutOfForm)
broken_by true k x e = cc
broken_by false k x e = (cc, cc)

module _ (d : Drive) where
  pub kept : {x : Counted} → Ok x ≡ in_form d → (formed d ≡ true) × (x ≡ counted_of d)
  kept e = kept-by (formed d) (counted_of d) _ e

  pub broken : {x : Refusal} → Err x ≡ in_form d → (formed d ≡ false) × (x ≡ OutOfForm)
  broken e = broken_by (formed d) (counted_of d) _ e
