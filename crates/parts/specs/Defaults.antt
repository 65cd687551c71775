-- An array whose entries are all the default is blank.
use Rattle.std.specs.Prelude.{◌≡◌, List, [], ◌∷◌, ℕ, zero, suc, ◌<◌, length, get_or, replicate}
use Rattle.std.specs.Array.{AllOfLen}
use Rattle.std.proofs.Common.{refl, ap, ◌∙◌, arith}
use Rattle.rules.specs.declared.Piece.{Piece}
use Rattle.rules.specs.declared.Pieces.{Pieces}
use Rattle.rules.specs.declared.Value.{Value}
use Rattle.rules.specs.declared.Values.{Values}
use Rattle.rules.specs.Pieces.{no_piece, no_pieces}
use Rattle.rules.specs.Values.{no_value, no_values}

module _ {A : Type 0} (b : A) where
  one_value : (xs : List A) → ((i : ℕ) → i < length xs → get_or xs i b ≡ b) → xs ≡ replicate (length xs) b
  one_value [] h = refl
  one_value (x ∷ xs) h = λ i. h zero (omega arith) i ∷ one_value xs (λ k l. h (suc k) (omega arith)) i

  pub all_blank : {P : A → Type 0} → ((x : A) → P x → x ≡ b) → (xs : List A) (n : ℕ) → AllOfLen P xs n → xs ≡ replicate n b
  all_blank f xs n p = one_value xs (λ i h. f _ (p.at i b (omega (arith, p.long)))) ∙ ap (λ (k : ℕ). replicate k b) p.long

pub pieces_blank : {P : Piece → Type 0} → ((x : Piece) → P x → x ≡ no_piece) → (x : Pieces) → AllOfLen P x.list 8 × (x.count ≡ 0) → x ≡ no_pieces
pieces_blank f x p = λ i. record { list = all_blank no_piece f x.list 8 p.0 i; count = p.1 i }

pub values_blank : {P : Value → Type 0} → ((x : Value) → P x → x ≡ no_value) → (x : Values) → AllOfLen P x.list 8 × (x.count ≡ 0) → x ≡ no_values
values_blank f x p = λ i. record { list = all_blank no_value f x.list 8 p.0 i; count = p.1 i }
