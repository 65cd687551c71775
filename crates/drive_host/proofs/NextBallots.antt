-- What the next ballot of a coordinator answers: the ballot, or 9 for want of one. Assumes nothing.
use Rattle.std.proofs.Common.{◌≡◌, ℕ, Bool, true, false, ap, ◌∙◌, refl, arith}
use Rattle.std.specs.Prelude.{not, eqb, leb, ◌&&◌}
use borrow.Author.Tests.{eq-eqb}
use Rattle.masks.proofs.Bools.{and_yes-l, and_yes_r, not_yes, true_and_false}
use Rattle.rules.specs.Choice.{◌if◌else◌}
use Rattle.rules.specs.declared.NextBallot.{NextBallot}
use Rattle.rules.specs.declared.refusals.Refusal.{Refusal}
use Rattle.rules.specs.Refusal.{number_of}
use Rattle.rules.specs.Cluster.{bad_number, bad_coordinator}
use Rattle.rules.specs.Ballots.{next_above, no_next, next_refusal, next_ballot}
use Rattle.drive.specs.declared.Drive.{Drive}
use Rattle.drive.specs.Form.{numbers_formed, formed}
use Rattle.drive.proofs.FormParts.{formed_parts}
use Rattle.drive.proofs.Told.{told-other}

pub own_coordinator : (d : Drive) → formed d ≡ true → bad_coordinator d.coordinator ≡ false
unfolding numbers_formed
own_coordinator d e = not_yes (bad_coordinator d.coordinator) (and_yes_r (not (bad_number d.t)) (not (bad_coordinator d.coordinator)) (and_yes-l (not (bad_number d.t) && not (bad_coordinator d.coordinator)) (leb d.phase 3) (formed_parts d e).numbers))

abbrev by : Bool → ℕ → NextBallot
by past above = record { refusal = 9 if past else 0; ballot = above if eqb (9 if past else 0) 0 else 0 }

none_by : (past : Bool) (above : ℕ) (x : Refusal) → ◌≡◌ {A = NextBallot} (record { refusal = number_of x; ballot = 0 }) (by past above) → (past ≡ true) × (number_of x ≡ 9)
none_by true above x e = (refl, ap (λ (n : NextBallot). n.refusal) e)
none_by false above x e = absurd (true_and_false (eq-eqb (number_of x) 0 (ap (λ (n : NextBallot). n.refusal) e)) (told-other x))

one-by : (past : Bool) (above b : ℕ) → ◌≡◌ {A = NextBallot} (record { refusal = 0; ballot = b }) (by past above) → (past ≡ false) × (b ≡ above)
one-by true above b e = let h : ◌≡◌ {A = ℕ} 0 9 = ap (λ (n : NextBallot). n.refusal) e in absurd (omega arith)
one-by false above b e = (refl, ap (λ (n : NextBallot). n.ballot) e)

module _ (c n : ℕ) (own : bad_coordinator c ≡ false) where
  is : next_ballot c n ≡ by (no_next c n) (next_above c n)
  unfolding next_ballot next_refusal
  is = rw own

  pub none_left : (x : Refusal) → ◌≡◌ {A = NextBallot} (record { refusal = number_of x; ballot = 0 }) (next_ballot c n) → (no_next c n ≡ true) × (number_of x ≡ 9)
  none_left x e = none_by (no_next c n) (next_above c n) x (e ∙ is)

  pub one-left : (b : ℕ) → ◌≡◌ {A = NextBallot} (record { refusal = 0; ballot = b }) (next_ballot c n) → (no_next c n ≡ false) × (b ≡ next_above c n)
  one-left b e = one-by (no_next c n) (next_above c n) b (e ∙ is)
