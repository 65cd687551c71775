-- What is stored of a reply that is not refused is what the step makes of the drive, and the place of its answer is one of the twelve. Assumes nothing.
use mathlib.Core.Path.{◌≡◌, refl}
use mathlib.Core.Bool.{Bool, true, false}
use Prim.Native.Nat.{◌<◌}
use lib.Dec.{eqb}
use borrow.Author.Tests.{eqb-true}
use lib.Seq.{set-get_or}
use Rattle.wire.specs.declared.Message.{Message}
use Rattle.wire.specs.Codes.{Done, Behind}
use Rattle.drive.specs.declared.Drive.{Drive}
use Rattle.drive.specs.Held.{with_answer}
use Rattle.drive.specs.Decide.{decided}
use Rattle.drive.specs.Hear.{answer_of, settle, count, heard, refusal, hear}
use Rattle.drive_decide.proofs.Turning.{turned-decide}
use Rattle.drive_step.specs.declared.Weighed.{Weighed}
use Rattle.drive_step.specs.declared.Weighed.TheVariants.{Turned, Kept}
use Rattle.drive_step.specs.Weighing.{weighed_answer, weighed, stored}
use Rattle.drive_refusals.proofs.InOrder.{ok_place}
use Rattle.drive.proofs.Told.{told-other}
use Rattle.rules.specs.declared.refusals.Refusal.{Refusal}
use Rattle.rules.specs.Refusal.{number_of}

-- where an answer is kept, its place is one of the twelve
abbrev pub InPlace : Weighed → Type 0
InPlace (Turned x) = Unit {0}
InPlace (Kept s a x) = s < 12

module _ (d : Drive) (m : Message) where
  heard-by : (b c e : Bool) → eqb m.code Done ≡ b → eqb m.code Behind ≡ c → decided (with_answer d m.server (answer_of m)) ≡ e → stored d (weighed d m) ≡ heard d m
  unfolding weighed weighed_answer heard count settle
  heard-by true c e x y z = rw x
  heard-by false true e x y z = rw (x, y, set-get_or)
  heard-by false false true x y z = rw (x, y, z, ← turned-decide)
  heard-by false false false x y z = rw (x, y, z)

  pub stored-hears : stored d (weighed d m) ≡ heard d m
  stored-hears = heard-by _ _ _ refl refl refl

  module _ (taken : refusal d m ≡ 0) where
    placed_by : (b c e : Bool) → eqb m.code Done ≡ b → eqb m.code Behind ≡ c → decided (with_answer d m.server (answer_of m)) ≡ e → InPlace (weighed d m)
    unfolding weighed weighed_answer
    placed_by true c e x y z = rw x tt
    placed_by false true e x y z = rw (x, y) (ok_place d m taken x)
    placed_by false false true x y z = rw (x, y, z) tt
    placed_by false false false x y z = rw (x, y, z) (ok_place d m taken x)

    pub placed : InPlace (weighed d m)
    placed = placed_by _ _ _ refl refl refl

-- ---- the step, by what is told of the reply

module _ (d : Drive) (m : Message) where
  hears-told-by : (b : Bool) → eqb (refusal d m) 0 ≡ b → refusal d m ≡ (hear d m).refusal
  unfolding hear
  hears-told-by true e = rw e (eqb-true (refusal d m) 0 e)
  hears-told-by false e = rw e

  pub hears-told : refusal d m ≡ (hear d m).refusal
  hears-told = hears-told-by _ refl

  pub hears-refused : (x : Refusal) → number_of x ≡ refusal d m → d ≡ (hear d m).drive
  unfolding hear
  hears-refused x is = rw (← is, told-other x)

  pub hears-taken : 0 ≡ refusal d m → {w : Weighed} → w ≡ weighed d m → stored d w ≡ (hear d m).drive
  unfolding hear
  hears-taken taken e = rw (← taken, e, stored-hears d m)
