-- Document 02, request 3: classic pcap files. A header of 24 bytes; then records, each of a head of 16 bytes and as many bytes of data as the head says.
-- Numbers stand in the file's own byte order, which the magic number shows.
use Rattle.std.specs.Prelude.{ℕ, ◌+◌, Bool, true, false, ◌&&◌, List, [], ◌∷◌, eqb, ltb, length, get_or}
use Rattle.xdr.specs.Word.{value}
use Rattle.rules.specs.Choice.{◌if◌else◌}
use Rattle.capture.specs.declared.Header.{Header}
use Rattle.capture.specs.declared.Head.{Head}

abbrev pub HEADER : ℕ
HEADER = 24

abbrev pub HEAD : ℕ
HEAD = 16

-- a1b2c3d4
abbrev pub MAGIC : ℕ
MAGIC = 2712847316

abbrev pub LINK : ℕ
LINK = 147

-- the number of two bytes, and of four, from a place on: the lowest first in a little-endian file, else the highest first
unfoldable pub half : (little : Bool) → List ℕ → ℕ → ℕ
half true s at = value (get_or s (at + 1) 0 ∷ get_or s at 0 ∷ [])
half false s at = value (get_or s at 0 ∷ get_or s (at + 1) 0 ∷ [])

unfoldable pub word : (little : Bool) → List ℕ → ℕ → ℕ
word true s at = value (get_or s (at + 3) 0 ∷ get_or s (at + 2) 0 ∷ get_or s (at + 1) 0 ∷ get_or s at 0 ∷ [])
word false s at = value (get_or s at 0 ∷ get_or s (at + 1) 0 ∷ get_or s (at + 2) 0 ∷ get_or s (at + 3) 0 ∷ [])

-- version 2.4 and the link type; the zone, the accuracy and the longest capture, which stand between them, aren't looked at
unfoldable pub headed : (little : Bool) → List ℕ → Bool
headed little s = eqb (half little s 4) 2 && eqb (half little s 6) 4 && eqb (word little s 20) LINK

-- whether a file begins as it should, and its byte order
unfoldable pub header : List ℕ → Header
header s =
    record { good = false; little = false } if ltb (length s) HEADER
    else record { good = headed false s; little = false } if eqb (word false s 0) MAGIC
    else record { good = headed true s; little = true } if eqb (word true s 0) MAGIC
    else record { good = false; little = false }

-- of a record's head: the seconds, and how many bytes were captured; the fraction and the original length aren't looked at
unfoldable pub head : (little : Bool) → List ℕ → Head
head little s = record { seconds = word little s 0; captured = word little s 8 }
