-- Document 02, request 3: both byte orders give the same lines. A capture whose header is good and the same capture in the other order are printed alike, whole or cut.
-- Assumes nothing.
use Rattle.std.proofs.Common.{◌≡◌, ℕ, zero, suc, ◌≤◌, Bool, true, false, not, eqb, ltb, List, [], ◌∷◌, ◌++◌, length, get_or, take, drop, sym, refl, ap, ◌∙◌, arith, length-drop, take-append-drop, length-take, drop-drop, ltb-false, le-ltb, eqb-true}
use Rattle.masks.specs.Folds.{tab}
use Rattle.masks.proofs.FoldLaws.{tab_of}
use Rattle.rules.specs.Choice.{◌if◌else◌}
use Rattle.xdr.specs.Word.{value}
use Rattle.server.specs.declared.Server.{Server}
use Rattle.capture.specs.declared.Header.{Header}
use Rattle.capture.specs.Pcap.{HEADER, HEAD, MAGIC, half, word, headed, header, head}
use Rattle.player.specs.Replay.{next, played, records, opened, replay, twelve}
use Rattle.player.specs.Orders.{other_header, other_head, other_records, other_order}
use Rattle.player.proofs.RecordsAre.{records_is, records-ended}

-- ---- the header

-- read both ways, four numbers are the magic number once at most: bytes or not, so no premise says that they are
one_way : (s : List ℕ) → word false s 0 ≡ MAGIC → word true s 0 ≡ MAGIC → ⊥
unfolding word value
one_way s p q = omega arith

-- a header by its tests
abbrev verdict : (short big small good good' : Bool) → Header
verdict short big small good good' =
    record { good = false; little = false } if short
    else record { good = good; little = false } if big
    else record { good = good'; little = true } if small
    else record { good = false; little = false }

header_other : (s : List ℕ) → (header s).good ≡ true → header (other_header s) ≡ record { good = true; little = not (header s).little }
unfolding header headed half word other_header
header_other s = go (ltb (length s) HEADER) (eqb (word false s 0) MAGIC) (eqb (word true s 0) MAGIC) (headed false s) (headed true s) (λ p q. one_way s (eqb-true _ _ p) (eqb-true _ _ q))
  where
    go : (short a b g l : Bool) → (a ≡ true → b ≡ true → ⊥) → (verdict short a b g l).good ≡ true → verdict false b a l g ≡ record { good = true; little = not (verdict short a b g l).little }
    go true a b g l f h = cc
    go false true true g l f h = absurd (f refl refl)
    go false true false g l f h = λ i. record { good = h i; little = true }
    go false false true g l f h = λ i. record { good = h i; little = false }
    go false false false g l f h = cc

-- ---- a record

head_other : (little : Bool) (s : List ℕ) → head (not little) (other_head s) ≡ head little s
unfolding head word other_head
head_other true s = refl
head_other false s = refl

none_other : (t : ℕ) (little : Bool) → other_records t little [] ≡ []
unfolding other_records
none_other zero little = refl
none_other (suc t) little = refl

-- the data c bytes long, or cut, and the records after it
module _ (t : ℕ) (little : Bool) where
  take-other : (c : ℕ) (l : List ℕ) → take c (take c l ++ other_records t little (drop c l)) ≡ take c l
  take-other zero l = refl
  take-other (suc c) [] = rw (none_other t little)
  take-other (suc c) (x ∷ l) = ap (λ (r : List ℕ). x ∷ r) (take-other c l)

  drop-other : (c : ℕ) (l : List ℕ) → drop c (take c l ++ other_records t little (drop c l)) ≡ other_records t little (drop c l)
  drop-other zero l = refl
  drop-other (suc c) [] = rw (none_other t little)
  drop-other (suc c) (x ∷ l) = drop-other c l

  length-after : ((l : List ℕ) → length (other_records t little l) ≡ length l) → (c : ℕ) (l : List ℕ) → length (take c l ++ other_records t little (drop c l)) ≡ length l
  length-after e zero l = e l
  length-after e (suc c) [] = e []
  length-after e (suc c) (x ∷ l) = ap suc (length-after e c l)

-- the bytes captured of the record at the front; and this record turned, and then the others
abbrev captured : (little : Bool) → (file : List ℕ) → ℕ
captured little file = (head little (take HEAD file)).captured

abbrev turned_front : (t : ℕ) → (little : Bool) → (file : List ℕ) → List ℕ
turned_front t little file =
    let c = captured little file in
    let rest = drop HEAD file in
    other_head (take HEAD file) ++ (take c rest ++ other_records t little (drop c rest))

-- what is to be shown of the records turned, by cases: a head is there, or not
by_head : (t : ℕ) (little : Bool) (file : List ℕ) (P : List ℕ → Type 0) → (ltb (length file) HEAD ≡ true → P file) → (ltb (length file) HEAD ≡ false → P (turned_front t little file)) → P (other_records (suc t) little file)
unfolding other_records
by_head t little file P a b = go (ltb (length file) HEAD) a b
  where
    go : (x : Bool) → (x ≡ true → P file) → (x ≡ false → P (turned_front t little file)) → P (file if x else turned_front t little file)
    go true a b = a refl
    go false a b = b refl

front_length_lem : (t : ℕ) (little : Bool) (file : List ℕ) → ((l : List ℕ) → length (other_records t little l) ≡ length l) → ltb (length file) HEAD ≡ false → length (turned_front t little file) ≡ length file
unfolding other_head
front_length_lem t little file e k = omega (arith, ltb-false, length-after t little e (captured little file) (drop HEAD file), length-drop HEAD file)

other_length : (t : ℕ) (little : Bool) (file : List ℕ) → length (other_records t little file) ≡ length file
unfolding other_records
other_length zero little file = refl
other_length (suc t) little file = by_head t little file (λ l. length l ≡ length file) (λ k. refl) (front_length_lem t little file (other_length t little))

other_records_lem : (t : ℕ) (little : Bool) (n : ℕ) (ss : List Server) (file : List ℕ) → length file ≤ t → records (not little) n ss (other_records t little file) ≡ records little n ss file
unfolding other_records other_head
other_records_lem zero little n ss [] h = records-ended (not little) n ss ∙ sym (records-ended little n ss)
other_records_lem zero little n ss (x ∷ xs) h = absurd (omega arith)
other_records_lem (suc t) little n ss file h =
    let c = captured little file in
    let rest = drop HEAD file in
    let o = played ss (take c rest) in
    by_head t little file (λ l. records (not little) n ss l ≡ records little n ss file)
    (λ k. rw (records_is (not little) n ss file, records_is little n ss file, k))
    (λ k. rw (records_is (not little) n ss (turned_front t little file), records_is little n ss file, front_length_lem t little file (other_length t little) k, head_other, ← drop-drop c HEAD (turned_front t little file), ← drop-drop c HEAD file, take-other t little c rest, drop-other t little c rest)
    (rw (other_records_lem t little (next n) o.servers (drop c rest) (omega (arith, length-drop c rest, length-drop HEAD file)))))

-- ---- the file

-- a good header has its 24 bytes
good_length : (file : List ℕ) → (header (take HEADER file)).good ≡ true → HEADER ≤ length file
unfolding header
good_length file h = go (ltb (length (take HEADER file)) HEADER) refl
  where
    go : (b : Bool) → ltb (length (take HEADER file)) HEADER ≡ b → HEADER ≤ length file
    go true k = let z : ◌≡◌ {A = ℕ} 0 1 = cc in omega arith
    go false k = omega (arith, ltb-false, length-take HEADER file)

other_is : (file : List ℕ) → (header (take HEADER file)).good ≡ true → other_order file ≡ other_header (take HEADER file) ++ other_records (length (drop HEADER file)) (header (take HEADER file)).little (drop HEADER file)
unfolding other_order
other_is file h = rw (le-ltb (length file) HEADER (good_length file h))

-- the other order of a good capture is good, and is not its own: so what follows isn't about one order twice
pub turned-good : (file : List ℕ) → (header (take HEADER file)).good ≡ true → header (take HEADER (other_order file)) ≡ record { good = true; little = not (header (take HEADER file)).little }
unfolding other_header
turned-good file h = rw (other_is file h) (header_other (take HEADER file) h)

pub either_order : (ss : List Server) (file : List ℕ) → (header (take HEADER file)).good ≡ true → opened ss (other_order file) ≡ opened ss file
unfolding opened other_header
either_order ss file h = rw (turned-good file h, h, other_is file h) (other_records_lem (length (drop HEADER file)) (header (take HEADER file)).little 1 ss (drop HEADER file) (omega arith))

pub same_lines : (file : List ℕ) → (header (take HEADER file)).good ≡ true → replay (other_order file) ≡ replay file
unfolding replay
same_lines file h = either_order twelve file h

-- ---- turned twice, a good capture is itself: nothing is lost

header_back : (s : List ℕ) → length s ≡ HEADER → other_header (other_header s) ≡ s
unfolding other_header tab
header_back s e = sym (tab_of (λ i. get_or s i 0) HEADER 0 s e (λ i h. refl))

head_back : (s : List ℕ) → length s ≡ HEAD → other_head (other_head s) ≡ s
unfolding other_head tab
head_back s e = sym (tab_of (λ i. get_or s i 0) HEAD 0 s e (λ i h. refl))

records_back : (t : ℕ) (little : Bool) (file : List ℕ) → other_records t (not little) (other_records t little file) ≡ file
unfolding other_records other_head
records_back zero little file = refl
records_back (suc t) little file =
    let c = captured little file in
    let rest = drop HEAD file in
    by_head t little file (λ l. other_records (suc t) (not little) l ≡ file)
    (λ k. rw k)
    (λ k. rw (front_length_lem t little file (other_length t little) k, k, head_other, take-other t little c rest, drop-other t little c rest, records_back t little (drop c rest), take-append-drop c rest)
    (ap (λ (s : List ℕ). s ++ rest) (head_back (take HEAD file) (omega (arith, ltb-false, length-take HEAD file))) ∙ take-append-drop HEAD file))

pub other_back : (file : List ℕ) → (header (take HEADER file)).good ≡ true → other_order (other_order file) ≡ file
unfolding other_header
other_back file h =
    let rest = drop HEADER file in
    other_is (other_order file) (ap (λ (x : Header). x.good) (turned-good file h))
    ∙ rw (turned-good file h, other_is file h, other_length (length rest) (header (take HEADER file)).little rest, records_back)
    (ap (λ (s : List ℕ). s ++ rest) (header_back (take HEADER file) (omega (arith, good_length file h, length-take HEADER file))) ∙ take-append-drop HEADER file)
