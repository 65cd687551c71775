-- Two outcomes that meet a contract are equal. `P κ a r e` is what a contract says at the lifetimes κ: a are the arguments, r is the answer, and e the parameters at exit.
use Rattle.std.specs.Prelude.{◌≡◌}

module _ {K : Type 0} {A R E : K → Type 0} where
  -- the answers are equal
  abbrev pub Answers : ((κ : K) → A κ → R κ → E κ → Type 0) → Type 0
  Answers P = (κ : K) (a : A κ) (x y : R κ) (e e' : E κ) → P κ a x e → P κ a y e' → x ≡ y

  -- what was lent is left the same; `part` reads it off the parameters at exit
  abbrev pub Leaves : {B : Type 0} → ((κ : K) → E κ → B) → ((κ : K) → A κ → R κ → E κ → Type 0) → Type 0
  Leaves part P = (κ : K) (a : A κ) (x y : R κ) (e e' : E κ) → P κ a x e → P κ a y e' → part κ e ≡ part κ e'
