-- Document 02, request 3: a record's line: its number, the seconds, the code, T, and the answer's code, or `r` and the refusal; decimals, with single spaces between.
-- A dash stands for a coordinator's answer, and for the code and T of data that can't be decoded.
use Rattle.std.specs.Prelude.{ℕ, zero, suc, ◌+◌, ◌/◌, ◌%◌, Option, Some, None, List, [], ◌∷◌, ◌++◌, ltb}
use Rattle.rules.specs.Choice.{◌if◌else◌}
use Rattle.capture.specs.declared.Shown.{Shown}
use Rattle.capture.specs.declared.Shown.TheVariants.{Dash, Code, Refusal}
use Rattle.capture.specs.declared.Told.{Told}

-- the decimal digits of a number, the highest first, where there are at most k of them
unfoldable pub digits : (k : ℕ) → ℕ → List ℕ
digits zero n = []
digits (suc k) n = (48 + n) ∷ [] if ltb n 10 else digits k (n / 10) ++ ((48 + n % 10) ∷ [])

-- a number of 64 bits has at most 20
unfoldable pub decimal : ℕ → List ℕ
decimal n = digits 20 n

abbrev pub SPACE : ℕ
SPACE = 32

abbrev pub NEWLINE : ℕ
NEWLINE = 10

abbrev pub DASH : ℕ
DASH = 45

abbrev pub LETTER-R : ℕ
LETTER-R = 114

-- a number where there is one
unfoldable pub maybe : Option ℕ → List ℕ
maybe (Some n) = decimal n
maybe None = DASH ∷ []

unfoldable pub shown : Shown → List ℕ
shown Dash = DASH ∷ []
shown (Code c) = decimal c
shown (Refusal n) = LETTER-R ∷ SPACE ∷ decimal n

unfoldable pub line : (number seconds : ℕ) → Told → List ℕ
line number seconds o =
    decimal number ++ SPACE ∷ decimal seconds ++ SPACE ∷ maybe o.code ++ SPACE ∷ maybe o.t ++ SPACE ∷ shown o.answer ++ NEWLINE ∷ []

-- no line is longer
abbrev pub LINE : ℕ
LINE = 128

-- `bad header` and `cut record`
unfoldable pub bad_header : List ℕ
bad_header = 98 ∷ 97 ∷ 100 ∷ 32 ∷ 104 ∷ 101 ∷ 97 ∷ 100 ∷ 101 ∷ 114 ∷ NEWLINE ∷ []

unfoldable pub cut_record : List ℕ
cut_record = 99 ∷ 117 ∷ 116 ∷ 32 ∷ 114 ∷ 101 ∷ 99 ∷ 111 ∷ 114 ∷ 100 ∷ NEWLINE ∷ []
