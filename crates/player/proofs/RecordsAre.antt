-- What is printed of the records doesn't depend on how many turns are allowed, once there are as many as bytes: so it goes record by record.
-- Assumes nothing.
use Rattle.std.proofs.Common.{◌≡◌, ℕ, zero, suc, ◌+◌, ◌<◌, ◌≤◌, Bool, true, false, eqb, ltb, List, [], ◌∷◌, length, take, drop, refl, ap, ◌∙◌, arith, length-drop, le-ltb, lt-ltb, ne_eqb}
use Rattle.rules.specs.Choice.{◌if◌else◌}
use Rattle.server.specs.declared.Server.{Server}
use Rattle.capture.specs.Pcap.{HEAD, head}
use Rattle.capture.specs.Text.{line, cut_record}
use Rattle.player.specs.Replay.{Printed, ended, stopped, ◌then◌, next, played, walk, records}

-- one turn: the record at the front of a file, and then `more` of the servers and the rest
abbrev pub turn : (little : Bool) → (n : ℕ) → List Server → (file : List ℕ) → (more : List Server → List ℕ → Printed) → Printed
turn little n ss file more =
    let h = head little (take HEAD file) in
    let o = played ss (take h.captured (drop HEAD file)) in
    ended if eqb (length file) 0
    else stopped cut_record if ltb (length file) HEAD
    else stopped cut_record if ltb (length file) (HEAD + h.captured)
    else line n h.seconds o.told then more o.servers (drop (HEAD + h.captured) file)

-- the rest is shorter
shorter : (file : List ℕ) (c t : ℕ) → length file ≤ suc t → length (drop (HEAD + c) file) ≤ t
shorter file c t h = omega (arith, length-drop (HEAD + c) file)

pub walk-enough : (t u : ℕ) (little : Bool) (n : ℕ) (ss : List Server) (file : List ℕ) → length file ≤ t → length file ≤ u → walk t little n ss file ≡ walk u little n ss file
unfolding walk
walk-enough zero zero little n ss file h k = refl
walk-enough zero (suc u) little n ss [] h k = refl
walk-enough zero (suc u) little n ss (x ∷ file) h k = absurd (omega arith)
walk-enough (suc t) zero little n ss [] h k = refl
walk-enough (suc t) zero little n ss (x ∷ file) h k = absurd (omega arith)
walk-enough (suc t) (suc u) little n ss file h k =
    let c = (head little (take HEAD file)).captured in
    let o = played ss (take c (drop HEAD file)) in
    ap (λ (p : Printed). turn little n ss file (λ ss' rest. p)) (walk-enough t u little (next n) o.servers (drop (HEAD + c) file) (shorter file c t h) (shorter file c u k))

pub records_is : (little : Bool) (n : ℕ) (ss : List Server) (file : List ℕ) → records little n ss file ≡ turn little n ss file (λ ss' rest. records little (next n) ss' rest)
unfolding records walk
records_is little n ss [] = refl
records_is little n ss (x ∷ xs) =
    let c = (head little (take HEAD (x ∷ xs))).captured in
    let o = played ss (take c (drop HEAD (x ∷ xs))) in
    let rest = drop (HEAD + c) (x ∷ xs) in
    ap (λ (p : Printed). turn little n ss (x ∷ xs) (λ ss' rest. p)) (walk-enough (length xs) (length rest) little (next n) o.servers rest (shorter (x ∷ xs) c (length xs) (omega arith)) (omega arith))

-- ---- the same by cases: no byte is left, the record is cut, the record is whole

pub records-ended : (little : Bool) (n : ℕ) (ss : List Server) → records little n ss [] ≡ ended
records-ended little n ss = records_is little n ss []

pub records_cut : (little : Bool) (n : ℕ) (ss : List Server) (file : List ℕ) → 0 < length file → length file < HEAD + (head little (take HEAD file)).captured → records little n ss file ≡ stopped cut_record
records_cut little n ss file h k =
    records_is little n ss file
    ∙ rw (ne_eqb (length file) 0 (λ e. omega arith), lt-ltb (length file) (HEAD + (head little (take HEAD file)).captured) k) (go (ltb (length file) HEAD))
  where
    go : (b : Bool) → (stopped cut_record if b else stopped cut_record) ≡ stopped cut_record
    go true = refl
    go false = refl

pub records-whole : (little : Bool) (n : ℕ) (ss : List Server) (file : List ℕ) →
    let h = head little (take HEAD file) in
    let o = played ss (take h.captured (drop HEAD file)) in
    HEAD + h.captured ≤ length file → records little n ss file ≡ line n h.seconds o.told then records little (next n) o.servers (drop (HEAD + h.captured) file)
records-whole little n ss file k =
    records_is little n ss file
    ∙ rw (ne_eqb (length file) 0 (λ e. omega arith), le-ltb (length file) HEAD (omega arith), le-ltb (length file) (HEAD + (head little (take HEAD file)).captured) k)
