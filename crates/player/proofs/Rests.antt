-- What is true of a walk between two bites, and that a bite ends in a record that is whole or in such a walk. Assumes nothing.
use Rattle.std.proofs.Common.{◌≡◌, ℕ, ◌<◌, ◌≤◌, Bool, true, false, ◌&&◌, eqb, take, refl, arith, eq-eqb, ne_eqb}
use native.Mathlib.Decide.{ℕ_discrete, dec_le}
use Rattle.rules.specs.Choice.{◌if◌else◌}
use Rattle.capture.specs.Pcap.{HEADER, HEAD, header, head}
use Rattle.player.specs.declared.Walk.{Walk}
use Rattle.player.specs.Walking.{HEADS, DATA, OVER, reads, after_header, after_head, turned, whole, after_data}
use Rattle.player.proofs.Resting.{Holds, Phase, opens, heading, in_data, over, phase_of}
use Rattle.player.proofs.Turning.{turned_more, turned-header, turned-head, turned_none}

-- and where something is read, bytes of it are still to come
pub record Rests (w : Walk) : Type 0 where
  pub holds : Holds w
  pub comes : w.phase < OVER → 1 ≤ w.left

-- ---- what the walk turns to

pub reads_heads : (w : Walk) (little : Bool) (n s : ℕ) → Holds w → Rests (reads w HEADS little n s HEAD)
reads_heads w little n s h = record { holds = record { kept = h.kept; have = omega arith; opening = λ e. absurd (omega (arith, e)); heads = λ e. refl }; comes = λ k. omega arith }

reads_data : (w : Walk) (little : Bool) (n s c : ℕ) → Holds w → Holds (reads w DATA little n s c)
reads_data w little n s c h = record { kept = h.kept; have = omega arith; opening = λ e. absurd (omega (arith, e)); heads = λ e. absurd (omega (arith, e)) }

reads_over : (w : Walk) (n : ℕ) → Holds w → Rests (reads w OVER false n 0 0)
reads_over w n h = record { holds = record { kept = h.kept; have = omega arith; opening = λ e. absurd (omega (arith, e)); heads = λ e. absurd (omega (arith, e)) }; comes = λ k. absurd (omega (arith, k)) }

header-rests : (w : Walk) → Holds w → Rests (after_header w)
unfolding after_header
header-rests w h = go (header (take HEADER w.kept)).good
  where
    go : (b : Bool) → Rests (reads w HEADS (header (take HEADER w.kept)).little w.number 0 HEAD if b else reads w OVER false w.number 0 0)
    go true = reads_heads w _ _ _ h
    go false = reads_over w _ h

-- where it isn't a whole record
pub data Turned (w : Walk) : Type 0 where
  a-record : Holds w → w.phase ≡ DATA → w.left ≡ 0 → Turned w
  a-rest : Rests w → (whole w ≡ false) → Turned w

not_whole : (w : Walk) → (w.phase ≡ DATA → w.left ≡ 0 → ⊥) → whole w ≡ false
unfolding whole
not_whole w f = go (ℕ_discrete w.phase DATA) (ℕ_discrete w.left 0)
  where
    go : Dec (w.phase ≡ DATA) → Dec (w.left ≡ 0) → eqb w.phase DATA && eqb w.left 0 ≡ false
    go (no a) d = rw (ne_eqb w.phase DATA a)
    go (yes p) (no b) = rw (eq-eqb w.phase DATA p, ne_eqb w.left 0 b)
    go (yes p) (yes e) = absurd (f p e)

rests-turned : (w : Walk) → Rests w → Turned w
rests-turned w r = a-rest r (not_whole w (λ p e. absurd (omega (arith, r.comes (omega (arith, p)), e))))

holds-turned : (w : Walk) → Holds w → w.phase ≡ DATA → Turned w
holds-turned w h p = go (dec_le 1 w.left)
  where
    go : Dec (1 ≤ w.left) → Turned w
    go (yes k) = rests-turned w (record { holds = h; comes = λ _. k })
    go (no k) = a-record h p (omega (arith, k))

head-turned : (w : Walk) → Holds w → Turned (after_head w)
unfolding after_head
head-turned w h = holds-turned (reads w DATA w.little w.number (head w.little (take HEAD w.kept)).seconds (head w.little (take HEAD w.kept)).captured) (reads_data w _ _ _ _ h) refl

past : (n : ℕ) → (n ≡ 0 → ⊥) → (n ≡ 1 → ⊥) → (n ≡ 2 → ⊥) → n < 3 → ⊥
past n a b c k = omega (arith, a, b, c, k)

pub turned_is : (w : Walk) → Holds w → Turned (turned w)
turned_is w h = go (dec_le 1 w.left)
  where
    by-phase : w.left ≡ 0 → Phase w → Turned (turned w)
    by-phase e (opens p) = rw (turned-header w e p) (rests-turned (after_header w) (header-rests w h))
    by-phase e (heading p) = rw (turned-head w e p) (head-turned w h)
    by-phase e (in_data p) = rw (turned_none w e (λ q. absurd (omega (arith, p, q))) (λ q. absurd (omega (arith, p, q)))) (a-record h p e)
    by-phase e (over a b c) = rw (turned_none w e a b) (rests-turned w (record { holds = h; comes = λ k. absurd (past w.phase a b c k) }))

    go : Dec (1 ≤ w.left) → Turned (turned w)
    go (yes k) = rw (turned_more w k) (rests-turned w (record { holds = h; comes = λ _. k }))
    go (no k) = by-phase (omega (arith, k)) (phase_of w)

pub data_rests : (w : Walk) → Holds w → Rests (after_data w)
unfolding after_data
data_rests w h = reads_heads w _ _ _ h
