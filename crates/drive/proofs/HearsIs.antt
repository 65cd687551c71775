-- What a drive does with each reply that it takes, and with "move on", in document 01's words: for each reply a condition and what then becomes of the drive; the conditions leave nothing over.
-- Assumes nothing.
use mathlib.Core.Path.{◌≡◌, refl, sym, ap, ◌∙◌}
use mathlib.Core.List.{[], ◌∷◌}
use mathlib.Core.Bool.{false}
use Prim.Native.Nat.{ℕ, max}
use native.Mathlib.Omega.{arith}
use lib.Dec.{eqb}
use lib.ListN.{set}
use borrow.Author.Tests.{eqb-true, eq-eqb, ne_eqb}
use Rattle.masks.proofs.Bools.{cond_true, cond_false, not_true_false, true_and_false}
use Rattle.wire.specs.declared.Message.{Message}
use Rattle.wire.specs.Codes.{oks}
use Rattle.wire.proofs.Columns.{ok-codes}
use Rattle.wire.proofs.FaultsAre.{Of}
use Rattle.drive.specs.declared.Drive.{Drive}
use Rattle.drive.specs.Held.{no_answers}
use Rattle.drive.specs.Decide.{decided, decide}
use Rattle.drive.specs.Hear.{refusal, answer_of, settle, count, heard, hear}
use Rattle.drive.specs.Host.{move_on_refusal, move_on}
use Rattle.drive.proofs.AnswersAre.{AllAnswered, TwoInEach, decided-is}
use Rattle.drive.proofs.BeginsIs.{unless-stays, unless-moves}

-- ---- what an OK says

module _ (m : Message) where
  pub says-prepare_ok : m.code ≡ 19 → answer_of m ≡ record { counted = 1; arrival = m.arrival; accepted = m.accepted }
  unfolding answer_of
  says-prepare_ok c = cond_true (eqb m.code 19) _ _ (eq-eqb m.code 19 c)

  pub says-pre_accept_ok : m.code ≡ 16 → ((answer_of m).counted ≡ 1) × ((answer_of m).arrival ≡ record { some = 1; word = m.word }) × ((answer_of m).accepted.some ≡ 0)
  unfolding answer_of
  says-pre_accept_ok c = rw (ne_eqb m.code 19 (λ z. omega arith), eq-eqb m.code 16 c) (refl, refl, refl)

  pub says-accept_ok : m.code ≡ 17 → ((answer_of m).counted ≡ 1) × ((answer_of m).arrival.some ≡ 0) × ((answer_of m).accepted.some ≡ 0)
  unfolding answer_of
  says-accept_ok c = rw (ne_eqb m.code 19 (λ z. omega arith), ne_eqb m.code 16 (λ z. omega arith)) (refl, refl, refl)

module _ (d : Drive) (m : Message) where
  -- refused, and the drive stays
  pub hear-refused : (refusal d m ≡ 0 → ⊥) → hear d m ≡ record { refusal = refusal d m; drive = d }
  unfolding hear
  hear-refused n = cond_false (eqb (refusal d m) 0) _ _ (ne_eqb (refusal d m) 0 n)

  -- the drive with one answer more
  abbrev pub Told : Drive
  Told = record { t = d.t; coordinator = d.coordinator; ballot = d.ballot; phase = d.phase; pieces = d.pieces; answers = set d.answers m.server (answer_of m); chosen = d.chosen; seen = d.seen }

  -- its answers decide
  abbrev pub Enough : Type 0
  Enough = (d.phase ≡ 2 → TwoInEach Told) × ((d.phase ≡ 2 → ⊥) → AllAnswered Told)

  module _ (taken : refusal d m ≡ 0) where
    hears : hear d m ≡ record { refusal = 0; drive = heard d m }
    unfolding hear
    hears = cond_true (eqb (refusal d m) 0) _ _ (eq-eqb (refusal d m) 0 taken)

    -- "Done, before phase 3: phase 3 with its set"
    pub hears-done : m.code ≡ 20
        → hear d m ≡ record { refusal = 0; drive = record { t = d.t; coordinator = d.coordinator; ballot = d.ballot; phase = 3; pieces = d.pieces; answers = no_answers; chosen = record { some = 1; set = m.set }; seen = d.seen } }
    unfolding heard
    hears-done c = hears ∙ ap (λ (z : Drive). record { refusal = 0; drive = z }) (cond_true (eqb m.code 20) _ _ (eq-eqb m.code 20 c))

    -- "Behind only records the promise"
    pub hears-behind : m.code ≡ 21
        → hear d m ≡ record { refusal = 0; drive = record { t = d.t; coordinator = d.coordinator; ballot = d.ballot; phase = d.phase; pieces = d.pieces; answers = d.answers; chosen = d.chosen; seen = max d.seen m.promise } }
    unfolding heard
    hears-behind c = hears ∙ ap (λ (z : Drive). record { refusal = 0; drive = z }) (cond_false (eqb m.code 20) _ _ (ne_eqb m.code 20 (λ z. omega arith)) ∙ cond_true (eqb m.code 21) _ _ (eq-eqb m.code 21 c))

    -- "A server's OK for this T, ballot and phase counts once", and decides if it is the last one needed
    module _ (ok : Of m (16 ∷ 17 ∷ 19 ∷ [])) where
      away : (k : ℕ) → oks k ≡ false → eqb m.code k ≡ false
      away k z = not_true_false (eqb m.code k) (λ y. true_and_false (ap oks (sym (eqb-true m.code k y)) ∙ ok-codes m.code ∙ ok) z)

      counts : heard d m ≡ settle Told (decided Told)
      unfolding heard count
      counts = cond_false (eqb m.code 20) _ _ (away 20 refl) ∙ cond_false (eqb m.code 21) _ _ (away 21 refl)

      pub hears-decides : Enough → hear d m ≡ record { refusal = 0; drive = decide Told }
      unfolding settle
      hears-decides e = hears ∙ ap (λ (z : Drive). record { refusal = 0; drive = z }) (counts ∙ cond_true (decided Told) _ _ ((decided-is Told).1 e))

      pub hears-waits : (Enough → ⊥) → hear d m ≡ record { refusal = 0; drive = Told }
      unfolding settle
      hears-waits n = hears ∙ ap (λ (z : Drive). record { refusal = 0; drive = z }) (counts ∙ cond_false (decided Told) _ _ (not_true_false (decided Told) (λ e. n ((decided-is Told).0 e))))

-- ---- "move on"

module _ (d : Drive) where
  pub move-on-decides : move_on_refusal d ≡ 0 → (move_on d).drive ≡ decide d
  unfolding move_on
  move-on-decides e = unless-moves d (move_on_refusal d) (decide d) e

  pub move-on-refused : (move_on_refusal d ≡ 0 → ⊥) → (move_on d).drive ≡ d
  unfolding move_on
  move-on-refused n = unless-stays d (move_on_refusal d) (decide d) n
