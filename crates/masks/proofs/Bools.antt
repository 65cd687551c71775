-- What a test that is joined of tests says of its parts, and back. Assumes nothing.
use mathlib.Core.Path.{◌≡◌, refl, sym, ◌∙◌}
use mathlib.Core.Bool.{Bool, true, false, not, cond, ◌&&◌, ◌||◌, true≢false, false≢true}
use mathlib.Core.Logic.{◌⊎◌, inl, inr}

pub or_no_l : (a b : Bool) → (a || b) ≡ false → a ≡ false
or_no_l true b e = e
or_no_l false b e = refl

pub or_no_r : (a b : Bool) → (a || b) ≡ false → b ≡ false
or_no_r true b e = absurd (true≢false e)
or_no_r false b e = e

pub or_no : (a b : Bool) → a ≡ false → b ≡ false → (a || b) ≡ false
or_no a b p q = cc

pub or_yes-l : (a b : Bool) → a ≡ true → (a || b) ≡ true
or_yes-l a b e = cc

pub or_yes_r : (a b : Bool) → b ≡ true → (a || b) ≡ true
or_yes_r true b e = refl
or_yes_r false b e = e

pub or_yes : (a b : Bool) → (a || b) ≡ true → (a ≡ true) ⊎ (b ≡ true)
or_yes true b e = inl refl
or_yes false b e = inr e

pub and_yes-l : (a b : Bool) → (a && b) ≡ true → a ≡ true
and_yes-l true b e = refl
and_yes-l false b e = e

pub and_yes_r : (a b : Bool) → (a && b) ≡ true → b ≡ true
and_yes_r true b e = e
and_yes_r false b e = absurd (false≢true e)

pub and_yes : (a b : Bool) → a ≡ true → b ≡ true → (a && b) ≡ true
and_yes a b p q = cc

pub and_no_l : (a b : Bool) → a ≡ false → (a && b) ≡ false
and_no_l a b e = cc

pub and_no_r : (a b : Bool) → b ≡ false → (a && b) ≡ false
and_no_r true b e = e
and_no_r false b e = refl

pub and_no : (a b : Bool) → (a && b) ≡ false → (a ≡ false) ⊎ (b ≡ false)
and_no true b e = inr e
and_no false b e = inl refl

-- of two that are not both, the one is: the other is not
pub one_no : (a b : Bool) → (a && b) ≡ false → a ≡ true → b ≡ false
one_no true b e h = e
one_no false b e h = absurd (false≢true h)

-- if a then b
pub then_yes : (a b : Bool) → (not a || b) ≡ true → a ≡ true → b ≡ true
then_yes a b e h = cc

pub yes_then : (a b : Bool) → (a ≡ true → b ≡ true) → (not a || b) ≡ true
yes_then true b f = f refl
yes_then false b f = refl

pub not_yes : (a : Bool) → not a ≡ true → a ≡ false
not_yes true e = absurd (false≢true e)
not_yes false e = refl

pub not_no : (a : Bool) → not a ≡ false → a ≡ true
not_no true e = refl
not_no false e = absurd (true≢false e)

pub not_not : (a : Bool) → not (not a) ≡ a
not_not true = refl
not_not false = refl

pub not_and : (a b : Bool) → not (a && b) ≡ (not a || not b)
not_and true b = refl
not_and false b = refl

pub not_or : (a b : Bool) → not (a || b) ≡ (not a && not b)
not_or true b = refl
not_or false b = refl

pub true_or_false : (a : Bool) → (a ≡ true) ⊎ (a ≡ false)
true_or_false true = inl refl
true_or_false false = inr refl

-- a test that is true and false proves anything
pub true_and_false : {a : Bool} → a ≡ true → a ≡ false → ⊥
true_and_false p q = true≢false (sym p ∙ q)

-- what is not true is false
pub not_true_false : (a : Bool) → (a ≡ true → ⊥) → a ≡ false
not_true_false true n = absurd (n refl)
not_true_false false n = refl

-- tests that hold of the same are the same
pub bool_ext : (a b : Bool) → (a ≡ true → b ≡ true) → (b ≡ true → a ≡ true) → a ≡ b
bool_ext true b p q = sym (p refl)
bool_ext false true p q = q refl
bool_ext false false p q = refl

pub cond_true : {A : Type 0} (b : Bool) (x y : A) → b ≡ true → cond b x y ≡ x
cond_true b x y e = cc

pub cond_false : {A : Type 0} (b : Bool) (x y : A) → b ≡ false → cond b x y ≡ y
cond_false b x y e = cc
