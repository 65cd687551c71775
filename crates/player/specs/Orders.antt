-- The same capture in the other byte order: the bytes of each number of the header and of each record's head stand in the reverse order, and the data stays.
-- Of any file: a header or a head that is cut short stays too, and so does the data of a cut record.
use Rattle.std.specs.Prelude.{ℕ, zero, suc, ◌+◌, Bool, List, [], ◌∷◌, ◌++◌, length, take, drop, nat_lt, slice_index}
use Rattle.rules.specs.Choice.{◌if◌else◌}
use Rattle.capture.specs.Pcap.{HEADER, HEAD, header, head}

-- two bytes, and four, from a place on, in the reverse order
abbrev pub back2 : List ℕ → ℕ → List ℕ
back2 s at = slice_index s (at + 1) ∷ slice_index s at ∷ []

abbrev pub back4 : List ℕ → ℕ → List ℕ
back4 s at = slice_index s (at + 3) ∷ slice_index s (at + 2) ∷ slice_index s (at + 1) ∷ slice_index s at ∷ []

-- the magic number, the version's two, the zone, the accuracy, the longest capture, the link type
unfoldable pub other_header : List ℕ → List ℕ
other_header s = back4 s 0 ++ back2 s 4 ++ back2 s 6 ++ back4 s 8 ++ back4 s 12 ++ back4 s 16 ++ back4 s 20

-- the seconds, the fraction, the length captured, the original length
unfoldable pub other_head : List ℕ → List ℕ
other_head s = back4 s 0 ++ back4 s 4 ++ back4 s 8 ++ back4 s 12

-- the records of a file in the order `little`. A record has 16 bytes at least: so no more turns are taken than there are bytes
unfoldable pub other_records : (turns : ℕ) → (little : Bool) → (file : List ℕ) → List ℕ
other_records zero little file = file
other_records (suc turns) little file =
    let h = head little (take HEAD file) in
    let rest = drop HEAD file in
    file if nat_lt (length file) HEAD
    else other_head (take HEAD file) ++ (take h.captured rest ++ other_records turns little (drop h.captured rest))

unfoldable pub other_order : (file : List ℕ) → List ℕ
other_order file =
    let h = header (take HEADER file) in
    let rest = drop HEADER file in
    file if nat_lt (length file) HEADER
    else other_header (take HEADER file) ++ other_records (length rest) h.little rest
