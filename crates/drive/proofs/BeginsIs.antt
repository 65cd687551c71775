-- What Start, Recover and Again give where they are not refused: T, coordinator, pieces, ballot and phase, no answers counted, no set; and the ballot is the smallest that may be. Where they are refused, the lent drive.
-- Assumes nothing.
use mathlib.Core.Path.{◌≡◌, refl, sym, ap}
use mathlib.Core.Bool.{Bool, true, false, not, cond, ◌||◌}
use Prim.Native.Nat.{ℕ, ◌≤◌}
use native.Mathlib.Omega.{arith}
use lib.Dec.{eqb}
use lib.ListN.{get_or-replicate}
use borrow.Author.Tests.{eqb-true, eq-eqb, ne_eqb}
use Rattle.masks.proofs.Bools.{or_no_l, not_no}
use Rattle.rules.specs.declared.Pieces.{Pieces}
use Rattle.rules.specs.Cluster.{bad_number, bad_coordinator}
use Rattle.rules.specs.Ballots.{next_above, no_next}
use Rattle.rules.specs.Pieces.{too_many, pieces_kept}
use Rattle.rules.proofs.NextIsSmallest.{next-is, not-past}
use Rattle.rules.proofs.RuleOne.{coordinator-good}
use Rattle.rules.proofs.RuleNine.{Above}
use Rattle.drive.specs.declared.Answer.{Answer}
use Rattle.drive.specs.declared.Drive.{Drive}
use Rattle.drive.specs.declared.Moved.{Moved}
use Rattle.drive.specs.Held.{no_answer, began}
use Rattle.drive.specs.Form.{formed}
use Rattle.drive.specs.Hear.{refused, moved}
use Rattle.drive.specs.Host.{unless, start_refusal, start, recover_refusal, recover, above, again_refusal, again}
use Rattle.drive.proofs.AnswersAre.{Counted}
use Rattle.drive.proofs.Passed.{not_first}
use Rattle.drive.proofs.FormDown.{form-is}
use Rattle.drive.proofs.RefusalsAre.{Later}

-- a drive at the beginning of phase 0 or 1
pub record Begun (z : Drive) (t c b p promised : ℕ) (ps : Pieces) : Type 0 where
  pub number : z.t ≡ t
  pub coordinator : z.coordinator ≡ c
  pub ballot : z.ballot ≡ b
  pub phase : z.phase ≡ p
  pub seen : z.seen ≡ promised
  pub pieces : z.pieces ≡ ps
  pub answers : (s : ℕ) → s ≤ 11 → Counted z s → ⊥
  pub set : z.chosen.some ≡ 0

begins : (t c b p seen : ℕ) (ps : Pieces) → Begun (began t c b p ps seen) t c b p seen ps
begins t c b p seen ps = record { number = refl; coordinator = refl; ballot = refl; phase = refl; seen = refl; pieces = refl; answers = λ s l h. h (ap (λ (a : Answer). a.counted) (get_or-replicate 12 s no_answer no_answer (omega arith))); set = refl }

-- ---- refused, or not

module _ (d : Drive) (n : ℕ) (z : Drive) where
  pub unless-number : (unless d n z).refusal ≡ n
  unfolding unless
  unless-number = go (eqb n 0) refl
    where
      go : (b : Bool) → eqb n 0 ≡ b → (cond {A = Moved} b (moved z) (refused d n)).refusal ≡ n
      go true e = sym (eqb-true n 0 e)
      go false e = refl

  pub unless-stays : (n ≡ 0 → ⊥) → (unless d n z).drive ≡ d
  unfolding unless
  unless-stays h = ap (λ (b : Bool). (cond {A = Moved} b (moved z) (refused d n)).drive) (ne_eqb n 0 h)

  pub unless-moves : n ≡ 0 → (unless d n z).drive ≡ z
  unfolding unless
  unless-moves h = ap (λ (b : Bool). (cond {A = Moved} b (moved z) (refused d n)).drive) (eq-eqb n 0 h)

-- the next ballot, where there is one
pub record NextIs (c n b : ℕ) : Type 0 where
  pub is : Above c n b
  pub smallest : (a : ℕ) → Above c n a → b ≤ a

next : (c n : ℕ) → c ≤ 7 → no_next c n ≡ false → NextIs c n (next_above c n)
next c n l e =
    let x = next-is c n l in
    record { is = ((x.lawful, not-past c n e, x.own), x.above); smallest = λ a h. x.smallest a h.0.0 h.0.2 h.1 }

-- ---- Start gives ballot 0, phase 1

module _ (d : Drive) (c t : ℕ) (ps : Pieces) where
  pub start-begins : start_refusal c t ps ≡ 0 → Begun (start d c t ps).drive t c 0 1 0 ps
  unfolding start
  start-begins e = rw (unless-moves d (start_refusal c t ps) (began t c 0 1 ps 0) e) (begins t c 0 1 0 ps)

  -- ---- Recover takes a floor and gives the next ballot above it, phase 0

  pub recover-begins : (floor : ℕ) → recover_refusal c t ps floor ≡ 0 → (b : ℕ) × NextIs c floor b × Begun (recover d c t ps floor).drive t c b 0 0 ps
  unfolding recover recover_refusal
  recover-begins floor e =
      let p12 = not_first (too_many ps) 12 _ (λ z. omega arith) e in
      let p1 = not_first (bad_coordinator c || bad_number t) 1 _ (λ z. omega arith) p12.1 in
      let p2 = not_first (not (pieces_kept ps)) 2 _ (λ z. omega arith) p1.1 in
      let p9 = not_first (no_next c floor) 9 0 (λ z. omega arith) p2.1 in
      let l = (coordinator-good c).0 (or_no_l (bad_coordinator c) (bad_number t) p1.0) in (
        next_above c floor,
        next c floor l p9.0,
        rw (unless-moves d (recover_refusal c t ps floor) (began t c (next_above c floor) 0 ps 0) e) (begins t c (next_above c floor) 0 0 ps),
      )

-- ---- Again takes the next ballot above its own and every promise that it saw, phase 0

module _ (d : Drive) where
  pub again-begins : again_refusal d ≡ 0 → (b : ℕ) × Later d b × ((a : ℕ) → Later d a → b ≤ a) × Begun (again d).drive d.t d.coordinator b 0 d.seen d.pieces
  unfolding again again_refusal
  again-begins e =
      let p13 = not_first (not (formed d)) 13 _ (λ z. omega arith) e in
      let p8 = not_first (eqb d.phase 3) 8 _ (λ z. omega arith) p13.1 in
      let p9 = not_first (no_next d.coordinator (above d)) 9 0 (λ z. omega arith) p8.1 in
      let b = next_above d.coordinator (above d) in
      let x = next d.coordinator (above d) ((form-is d).0 (not_no (formed d) p13.0)).coordinator p9.0 in (
        b,
        (x.is.0, omega (arith, x.is.1), omega (arith, x.is.1)),
        λ a h. x.smallest a (h.0, omega (arith, h.1, h.2)),
        rw (unless-moves d (again_refusal d) (began d.t d.coordinator b 0 d.pieces d.seen) e) (begins d.t d.coordinator b 0 d.seen d.pieces),
      )
