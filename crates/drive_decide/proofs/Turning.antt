-- A drive that is turned by what it decides is the drive that the definitions decide. Assumes nothing.
use mathlib.Core.Path.{◌≡◌, refl, ◌∙◌}
use mathlib.Core.Bool.{Bool, true, false, ◌&&◌}
use Prim.Native.Nat.{ℕ}
use Rattle.std.specs.Prelude.{Some, None}
use lib.Dec.{ltb, eqb}
use Rattle.rules.specs.Choice.{◌if◌else◌}
use Rattle.drive.specs.declared.Drive.{Drive}
use Rattle.drive.specs.Held.{answer_at, to_phase, to_phase1 as to_phase1-of}
use Rattle.drive.specs.Decide.{all_answered, equal_words, unions, highest, decide0, decide1, decide2, decide}
use Rattle.drive_decide.specs.declared.Turn.{Turn}
use Rattle.drive_decide.specs.Turns.{turned, to, to_phase1, turn0, turn1, vote_of, turn_of}

module _ (d : Drive) where
  turned-if : (b : Bool) (x y : Turn) → turned d (x if b else y) ≡ (turned d x if b else turned d y)
  turned-if true x y = refl
  turned-if false x y = refl

  pub turned-0 : (best : ℕ) (equal : Bool) → turned d (turn0 (Some (answer_at d best).accepted.set if ltb best 12 else None) equal (unions d)) ≡ decide0 d best equal
  unfolding turn0 decide0
  turned-0 best equal = go (ltb best 12)
    where
      go : (b : Bool) → turned d (turn0 (Some (answer_at d best).accepted.set if b else None) equal (unions d)) ≡ (to_phase 2 d (answer_at d best).accepted.set if b else to_phase 2 d (unions d) if equal else to_phase1-of d)
      go true = refl
      go false = turned-if equal (to 2 (unions d)) to_phase1

  pub turned-1 : (first all equal : Bool) → turned d (turn1 first all equal (unions d)) ≡ decide1 d first all equal
  unfolding turn1 decide1
  turned-1 first all equal = turned-if (first && all && equal) (to 3 (unions d)) (to 2 (unions d))

  abbrev zeroth : Turn
  zeroth = turn0 (vote_of d) (equal_words d) (unions d)

  abbrev first : Turn
  first = turn1 (eqb d.ballot 0) (all_answered d) (equal_words d) (unions d)

  pub turned-decide : turned d (turn_of d) ≡ decide d
  unfolding turn_of decide decide2
  turned-decide =
      turned-if (eqb d.phase 0) zeroth (first if eqb d.phase 1 else to 3 d.chosen.set)
      ∙ rw (turned-0 (highest d) (equal_words d), turned-if (eqb d.phase 1) first (to 3 d.chosen.set), turned-1 (eqb d.ballot 0) (all_answered d) (equal_words d))
