-- Parts that are written in a row, each at most so long, are written as one, and the ten parts of a line in a row are the line. Assumes nothing.
use mathlib.Core.Path.{◌≡◌}
use mathlib.Core.List.{List, [], ◌∷◌, ◌++◌}
use Prim.Native.Nat.{ℕ, ◌+◌, ◌≤◌}
use native.Mathlib.Omega.{arith}
use lib.ListN.{length, length-append}
use lib.Seq.{append_snoc}
use Rattle.xdr.specs.Over.{Put, put-put}
use Rattle.capture.specs.declared.Told.{Told}
use Rattle.capture.specs.Text.{decimal, maybe, shown, line, SPACE, NEWLINE}

-- so far xs, which are at most m, are written at a place of z; the next place is a, and z became z₁
pub record Row (at : ℕ) (z : List ℕ) (m : ℕ) (xs : List ℕ) (a : ℕ) (z₁ : List ℕ) : Type 0 where
  pub put : Put at xs z a z₁
  pub short : length xs ≤ m

pub next : {at : ℕ} {z : List ℕ} {m : ℕ} {xs : List ℕ} {a : ℕ} {z₁ : List ℕ} {ys : List ℕ} {b : ℕ} {z₂ : List ℕ} (n : ℕ) → length ys ≤ n → at + m ≤ length z → Row at z m xs a z₁ → Put a ys z₁ b z₂ → Row at z (m + n) (xs ++ ys) b z₂
next {at} {z} {xs = xs} {ys = ys} n s h w p = record { put = put-put at xs ys z (omega arith) w.put p; short = rw length-append (omega arith) }

pub line_in_a_row : (number seconds : ℕ) (o : Told)
    → ((((((((decimal number ++ SPACE ∷ []) ++ decimal seconds) ++ SPACE ∷ []) ++ maybe o.code) ++ SPACE ∷ []) ++ maybe o.t) ++ SPACE ∷ []) ++ shown o.answer) ++ NEWLINE ∷ [] ≡ line number seconds o
unfolding line
line_in_a_row number seconds o = simp append_snoc
