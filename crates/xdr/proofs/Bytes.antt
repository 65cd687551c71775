-- A number's bytes as the library's methods give and take them, and a front that is written whole. Assumes nothing.
use Rattle.std.proofs.Common.{◌≡◌, refl, sym, ap, ◌∙◌, List, ◌∷◌, ◌++◌, ℕ, zero, suc, ◌+◌, ◌/◌, ◌%◌, ◌^◌, length, drop, div-one}
use Rattle.std.specs.Int.{bytes_high_first}
use Rattle.xdr.specs.Word.{be, be_mod}
use Rattle.xdr.specs.Over.{over}

pub be-high : (n v : ℕ) → be n v ≡ bytes_high_first n v
unfolding be
be-high zero v = refl
be-high (suc zero) v = rw div-one
be-high (suc (suc n)) v = ap (λ (l : List ℕ). (v / 256 ^ suc n % 256) ∷ l) (sym (be_mod (suc n) v) ∙ be-high (suc n) v)

pub over-whole : (ys z : List ℕ) (k : ℕ) {z₂ : List ℕ} → z₂ ≡ ys → length ys ≡ k → z₂ ++ drop k z ≡ over ys z
unfolding over
over-whole ys z k q e = λ i. q i ++ drop (sym e i) z
