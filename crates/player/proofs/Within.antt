-- The window isn't left: filling keeps no more than it has room for, and a turn begins at its front or leaves what is kept.
use Rattle.std.proofs.Common.{◌≡◌, ℕ, ◌<◌, ◌≤◌, Bool, true, false, List, take, nat_eq, nat_lt, ◌⊎◌, inl, inr, arith, eq-eqb, ne_eqb, le-leb}
use Rattle.std.proofs.lemmas.Bool.{lt-leb}
use Rattle.rules.specs.Choice.{◌if◌else◌}
use Rattle.capture.specs.Pcap.{HEADER, HEAD, header}
use Rattle.capture.specs.Text.{bad_header, cut_record}
use Rattle.player.specs.declared.Walk.{Walk}
use Rattle.player.specs.Replay.{ended, stopped}
use Rattle.player.specs.Walking.{WINDOW, OPENING, HEADS, OVER, keeps, filled, reads, after_header, after_head, turned, ending}

filled_within : (w : Walk) (xs : List ℕ) → w.have ≤ WINDOW → (filled w xs).have ≤ WINDOW
unfolding filled keeps
filled_within w xs h = omega arith

header_within : (w : Walk) → (after_header w).have ≤ WINDOW
unfolding after_header
header_within w = go (header (take HEADER w.kept)).good
  where
    go : (b : Bool) → (reads w HEADS (header (take HEADER w.kept)).little w.number 0 HEAD if b else reads w OVER false w.number 0 0).have ≤ WINDOW
    go true = omega arith
    go false = omega arith

head_within : (w : Walk) → (after_head w).have ≤ WINDOW
unfolding after_head
head_within w = omega arith

turned_within : (w : Walk) → w.have ≤ WINDOW → (turned w).have ≤ WINDOW
unfolding turned
turned_within w h = go (nat_lt 0 w.left) (nat_eq w.phase OPENING) (nat_eq w.phase HEADS)
  where
    go : (a b c : Bool) → (w if a else after_header w if b else after_head w if c else w).have ≤ WINDOW
    go true b c = h
    go false true c = header_within w
    go false false true = head_within w
    go false false false = h

pub bitten_within : (w : Walk) (xs : List ℕ) → w.have ≤ WINDOW → (turned (filled w xs)).have ≤ WINDOW
bitten_within w xs h = turned_within (filled w xs) (filled_within w xs h)

-- of a walk that reads something and is not to go on, nothing is left to come
pub stopped_here : {p l : ℕ} → (p < 3 × l ≤ 0) ⊎ 3 ≤ p → p < 3 → l ≤ 0
stopped_here e h = elim e [ inl a ↦ a.1 | inr b ↦ absurd (omega (arith, h, b)) ]

-- ---- the line that ends a walk, by cases

pub ends_bad : (w : Walk) → (w.phase ≡ 0) ⊎ ((w.phase ≡ 0 → ⊥) × 3 ≤ w.phase) → ending w ≡ stopped bad_header
unfolding ending
ends_bad w e = elim e [ inl a ↦ rw (eq-eqb w.phase OPENING a) | inr b ↦ rw (ne_eqb w.phase OPENING b.0, le-leb OVER w.phase b.1) ]

pub ends_well : (w : Walk) → w.phase ≡ 1 → w.have ≡ 0 → ending w ≡ ended
unfolding ending
ends_well w p h = rw (p, h)

pub ends_cut : (w : Walk) → (w.phase ≡ 0 → ⊥) → w.phase < 3 → ((w.phase ≡ 1) × (w.have ≡ 0 → ⊥)) ⊎ (w.phase ≡ 1 → ⊥) → ending w ≡ stopped cut_record
unfolding ending
ends_cut w a b e =
    elim e [
      | inl c ↦ rw (ne_eqb w.phase OPENING a, lt-leb OVER w.phase b, eq-eqb w.phase HEADS c.0, ne_eqb w.have 0 c.1)
      | inr d ↦ rw (ne_eqb w.phase OPENING a, lt-leb OVER w.phase b, ne_eqb w.phase HEADS d)
    ]
