-- A word as a set of numbers: a number is in it if the binary digit there is 1. Document 01's dependency sets and arrival sets are made of such words.
use Rattle.std.specs.Prelude.{◌≡◌, Bool, ℕ, ◌-◌, ◌/◌, ◌%◌, ◌^◌, eqb}
use Rattle.std.specs.Int.Bits.{bit_or, bit_and}

-- the binary digit of w at t
unfoldable pub bit : ℕ → ℕ → ℕ
bit w t = w / 2 ^ t % 2

-- t is in w
pub record In (w t : ℕ) : Type 0 where
  pub is : bit w t ≡ 1

-- the same as a test
abbrev pub has : ℕ → ℕ → Bool
has w t = eqb (bit w t) 1

-- nothing
abbrev pub none : ℕ
none = 0

-- w and t
unfoldable pub insert : ℕ → ℕ → ℕ
insert w t = bit_or w (2 ^ t)

-- what is in a or in b
unfoldable pub union : ℕ → ℕ → ℕ
union a b = bit_or a b

-- what is in a and in b
unfoldable pub both : ℕ → ℕ → ℕ
both a b = bit_and a b

-- what is in a and not in b
unfoldable pub without : ℕ → ℕ → ℕ
without a b = bit_and a (2 ^ 64 - 1 - b)

-- all of a is in b
unfoldable pub within : ℕ → ℕ → Bool
within a b = eqb (bit_and a b) a
