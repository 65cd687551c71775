-- What a walk knows of a value: that it is one it has a name for, and how a test came out. Assumes nothing.
use mathlib.Core.Path.{◌≡◌, refl, ap, subst, ◌∙◌}
use mathlib.Core.Bool.{Bool, true, false, not}
use mathlib.Core.List.{[], ◌∷◌, List}
use lib.Dec.{T}
use mir.Val.{Val}
use denote.RattleType.{RattleType}
use denote.Laws.{Is, Tells}
use denote.Steps.{only}

-- x is related to the machine value v, and is y: so v is y's machine value, as it is spelled, and y is related to that
module _ (R : RattleType) (vals : R.Denot → List Val) (tells : Tells R (Is R) vals) (x y : R.Denot) (v : Val) (is : Is R x (v ∷ [])) (e : x ≡ y) where
  pub spelled_as : v ≡ only (vals y)
  spelled_as = ap only (tells x (v ∷ []) is ∙ ap vals e)

  pub is_spelled : Is R y (only (vals y) ∷ [])
  is_spelled = subst (λ (z : R.Denot). Is R z (only (vals y) ∷ [])) e (subst (λ (us : List Val). Is R x us) (ap (λ (u : Val). u ∷ []) spelled_as) is)

pub is_true : (y : Bool) → T y → y ≡ true
is_true true h = refl
is_true false h = absurd h

pub is_false : (y : Bool) → T (not y) → y ≡ false
is_false true h = absurd h
is_false false h = refl
