-- A message that is exactly as long as its code and its count say.
use Rattle.std.specs.Prelude.{◌≡◌, Bool, true, false, ◌&&◌, List, ℕ, ◌+◌, ◌*◌, ◌≤◌, eqb, length, take, drop}
use Rattle.xdr.specs.Word.{value}
use Rattle.xdr.proofs.Windows.{cost}
use Rattle.encoding.specs.Sections.{front_length}
use Rattle.encoding.specs.ByKind.{bare, asked, answered, asked_shape, answered_shape}

abbrev pub word_at : List ℕ → ℕ → ℕ
word_at s at = value (take 4 (drop at s))

-- a code and T alone
abbrev pub is_bare : List ℕ → Bool
is_bare s = eqb (length s) 8 && bare (word_at s 0)

-- of the code k, with its count n at a place: pieces, and a set where it has one, and then the end
pub record ExactAsked (s : List ℕ) (k at n : ℕ) : Type 0 where
  pub code : k ≡ word_at s 0
  pub kind : asked k ≡ true
  pub place : at ≡ 8 + cost (asked_shape k).ballot 4
  pub count : n ≡ word_at s at
  pub few : n ≤ 8
  pub exact : length s ≡ (at + (4 + n * 16)) + cost (asked_shape k).set 32

-- of the code k: a front, and a word where it has one, and then the end
pub record ExactAnswered (s : List ℕ) (k : ℕ) : Type 0 where
  pub code : k ≡ word_at s 0
  pub kind : answered k ≡ true
  pub other : asked k ≡ false
  pub unprepared : (answered_shape k).prepared ≡ false
  pub unrun : (answered_shape k).values ≡ false
  pub exact : length s ≡ (4 + front_length (answered_shape k)) + cost (answered_shape k).word 8
