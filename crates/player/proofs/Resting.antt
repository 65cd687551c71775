-- What a walk that stands somewhere prints of the bytes to come, and that keeping bytes, turning to what follows, and a record's line keep it. Assumes nothing.
use Rattle.std.proofs.Common.{◌≡◌, ℕ, ◌+◌, ◌-◌, ◌≤◌, min, Bool, eqb, ltb, List, ◌++◌, length, take, drop, sym, ap, ◌∙◌, append_assoc, arith, length-take-le, ne_eqb}
use native.Mathlib.Decide.{ℕ_discrete}
use lib.Seq.{take-paste, length-paste}
use Rattle.rules.specs.Choice.{◌if◌else◌}
use Rattle.server.specs.declared.Server.{Server}
use Rattle.capture.specs.Pcap.{HEADER, HEAD}
use Rattle.capture.specs.Text.{line, bad_header, cut_record}
use Rattle.player.specs.declared.Walk.{Walk}
use Rattle.player.specs.Replay.{Played, played, Printed, stopped, ◌then◌, next, records, opened}
use Rattle.player.specs.Walking.{WINDOW, OPENING, HEADS, DATA, seen, takes, keeps, filled}
use Rattle.player.proofs.Lists.{portion-seam, portion-drop, portion-short, portion-window}

-- a record's line, and the records after it
abbrev pub lined : Walk → Played → List ℕ → Printed
lined w o ys = line w.number w.seconds o.told then records w.little (next w.number) o.servers ys

-- the same where the file has all of its data, by the window's bytes and what follows
abbrev pub data_by : Walk → List Server → Bool → (window following : List ℕ) → Printed
data_by w ss short xs ys = stopped cut_record if short else lined w (played ss xs) ys

abbrev pub data_rest : Walk → List Server → List ℕ → Printed
data_rest w ss ys = data_by w ss (ltb (length ys) w.left) (take WINDOW (seen w ++ take w.left ys)) (drop w.left ys)

unfoldable pub rest : Walk → List Server → (ys : List ℕ) → Printed
rest w ss ys =
    opened ss (seen w ++ ys) if eqb w.phase OPENING
    else records w.little w.number ss (seen w ++ ys) if eqb w.phase HEADS
    else data_rest w ss ys if eqb w.phase DATA
    else stopped bad_header

-- what is true of every walk that began at the front of a file
pub record Holds (w : Walk) : Type 0 where
  pub kept : length w.kept ≡ WINDOW
  pub have : w.have ≤ WINDOW
  pub opening : w.phase ≡ OPENING → (w.have + w.left ≡ HEADER) × (w.number ≡ 1)
  pub heads : w.phase ≡ HEADS → w.have + w.left ≡ HEAD

pub data Phase (w : Walk) : Type 0 where
  opens : w.phase ≡ OPENING → Phase w
  heading : w.phase ≡ HEADS → Phase w
  in_data : w.phase ≡ DATA → Phase w
  over : (w.phase ≡ OPENING → ⊥) → (w.phase ≡ HEADS → ⊥) → (w.phase ≡ DATA → ⊥) → Phase w

pub phase_of : (w : Walk) → Phase w
phase_of w = go (ℕ_discrete w.phase OPENING) (ℕ_discrete w.phase HEADS) (ℕ_discrete w.phase DATA)
  where
    go : Dec (w.phase ≡ OPENING) → Dec (w.phase ≡ HEADS) → Dec (w.phase ≡ DATA) → Phase w
    go (yes e) b c = opens e
    go (no a) (yes e) c = heading e
    go (no a) (no b) (yes e) = in_data e
    go (no a) (no b) (no c) = over a b c

module _ (w : Walk) (ss : List Server) (ys : List ℕ) where
  pub rest-opens : w.phase ≡ OPENING → rest w ss ys ≡ opened ss (seen w ++ ys)
  unfolding rest
  rest-opens e = rw e

  pub rest-heads : w.phase ≡ HEADS → rest w ss ys ≡ records w.little w.number ss (seen w ++ ys)
  unfolding rest
  rest-heads e = rw e

  pub rest-data : w.phase ≡ DATA → rest w ss ys ≡ data_rest w ss ys
  unfolding rest
  rest-data e = rw e

  pub rest_over : (w.phase ≡ OPENING → ⊥) → (w.phase ≡ HEADS → ⊥) → (w.phase ≡ DATA → ⊥) → rest w ss ys ≡ stopped bad_header
  unfolding rest
  rest_over a b c = rw (ne_eqb w.phase OPENING a, ne_eqb w.phase HEADS b, ne_eqb w.phase DATA c)

-- ---- bytes are kept

module _ (w : Walk) (xs : List ℕ) (h : Holds w) where
  abbrev v : Walk
  v = filled w xs

  k-le : takes w xs ≤ length xs
  unfolding takes
  k-le = omega arith

  keeps-le : keeps w xs ≤ takes w xs
  unfolding keeps
  keeps-le = omega arith

  keeps-fit : w.have + keeps w xs ≤ WINDOW
  unfolding keeps
  keeps-fit = omega (arith, h.have)

  pub seen-filled : seen (filled w xs) ≡ seen w ++ take (keeps w xs) xs
  unfolding filled
  seen-filled = take-paste w.kept w.have xs (keeps w xs) (omega (arith, h.have, h.kept)) (omega (arith, k-le, keeps-le))

  -- where all of it has room
  keeps-all : w.have + w.left ≤ WINDOW → keeps w xs ≡ takes w xs
  unfolding keeps takes
  keeps-all e = omega (arith, e)

  seen_all : w.have + w.left ≤ WINDOW → (ys : List ℕ) → seen w ++ (xs ++ ys) ≡ seen (filled w xs) ++ (drop (takes w xs) xs ++ ys)
  unfolding takes
  seen_all e ys =
      ap (λ (l : List ℕ). seen w ++ l) (sym (portion-seam w.left xs ys))
      ∙ sym (append_assoc (seen w) (take (takes w xs) xs) (drop (takes w xs) xs ++ ys))
      ∙ ap (λ (l : List ℕ). l ++ (drop (takes w xs) xs ++ ys)) (ap (λ (n : ℕ). seen w ++ take n xs) (sym (keeps-all e)) ∙ sym seen-filled)

  pub filled-holds : Holds (filled w xs)
  unfolding filled takes keeps
  filled-holds =
      record {
        kept = length-paste w.kept w.have xs (keeps w xs) (omega (arith, keeps-fit, h.kept)) (omega (arith, k-le, keeps-le)) ∙ h.kept;
        have = keeps-fit;
        opening = λ e. (omega (arith, (h.opening e).0), (h.opening e).1);
        heads = λ e. omega (arith, h.heads e);
      }

  window-filled : (ys : List ℕ) → take WINDOW (seen w ++ take w.left (xs ++ ys)) ≡ take WINDOW (seen (filled w xs) ++ take (w.left - takes w xs) (drop (takes w xs) xs ++ ys))
  unfolding takes keeps
  window-filled ys =
      let l : length (seen w) ≡ w.have = length-take-le w.have w.kept (omega (arith, h.have, h.kept)) in
      portion-window w.left xs ys WINDOW (seen w) (omega (arith, l, h.have))
      ∙ ap (λ (n : ℕ). take WINDOW ((seen w ++ take (min (takes w xs) (WINDOW - n)) xs) ++ take (w.left - takes w xs) (drop (takes w xs) xs ++ ys))) l
      ∙ ap (λ (z : List ℕ). take WINDOW (z ++ take (w.left - takes w xs) (drop (takes w xs) xs ++ ys))) (sym seen-filled)

  data-filled : (ss : List Server) (ys : List ℕ) → data_rest w ss (xs ++ ys) ≡ data_rest (filled w xs) ss (drop (takes w xs) xs ++ ys)
  unfolding filled takes
  data-filled ss ys = λ i. data_by w ss (portion-short w.left xs ys i) (window-filled ys i) (portion-drop w.left xs ys i)

  pub filled-rest : (ss : List Server) (ys : List ℕ) → rest w ss (xs ++ ys) ≡ rest (filled w xs) ss (drop (takes w xs) xs ++ ys)
  unfolding filled
  filled-rest ss ys = go (phase_of w)
    where
      zs : List ℕ
      zs = drop (takes w xs) xs ++ ys

      go : Phase w → rest w ss (xs ++ ys) ≡ rest (filled w xs) ss zs
      go (opens e) = rest-opens w ss (xs ++ ys) e ∙ ap (opened ss) (seen_all (omega (arith, (h.opening e).0)) ys) ∙ sym (rest-opens (filled w xs) ss zs e)
      go (heading e) = rest-heads w ss (xs ++ ys) e ∙ ap (records w.little w.number ss) (seen_all (omega (arith, h.heads e)) ys) ∙ sym (rest-heads (filled w xs) ss zs e)
      go (in_data e) = rest-data w ss (xs ++ ys) e ∙ data-filled ss ys ∙ sym (rest-data (filled w xs) ss zs e)
      go (over a b c) = rest_over w ss (xs ++ ys) a b c ∙ sym (rest_over (filled w xs) ss zs a b c)
