-- What each phase decides, in document 01's words and both ways: the conditions of each decision shut out one another and leave nothing over. Assumes nothing.
use mathlib.Core.Path.{◌≡◌, ◌∙◌}
use mathlib.Core.Logic.{◌↔◌}
use mathlib.Core.Bool.{true, false, ◌&&◌}
use Prim.Native.Nat.{ℕ, ◌≤◌, ◌<◌}
use native.Mathlib.Decide.{dec_lt}
use native.Mathlib.Omega.{arith}
use lib.Dec.{eqb, ltb}
use borrow.Author.Tests.{eq-eqb, ne_eqb, lt-ltb, le-ltb}
use Rattle.masks.proofs.Bools.{cond_true, cond_false, not_true_false}
use Rattle.drive.specs.declared.Drive.{Drive}
use Rattle.drive.specs.Held.{answer_at, to_phase, to_phase1}
use Rattle.drive.specs.Decide.{all_answered, equal_words, unions, highest, decide0, decide1, decide2, decide}
use Rattle.drive.proofs.Tests.{and_is, eq_is}
use Rattle.drive.proofs.AnswersAre.{AllAnswered, all-answered}
use Rattle.drive.proofs.WordsAre.{HasAccepted, has-accepted, EqualWords, equal_words_lem}
use Rattle.drive.proofs.HighestAccepted.{highest-best, highest-accepted}

module _ (d : Drive) where
  -- ---- phase 0

  -- s holds the highest accepted ballot, "of equals, the lowest server's"
  pub record Highest (s : ℕ) : Type 0 where
    pub server : s ≤ 11
    pub holds : HasAccepted d s
    pub most : (u : ℕ) → u ≤ 11 → HasAccepted d u → (answer_at d u).accepted.ballot ≤ (answer_at d s).accepted.ballot
    pub lowest : (u : ℕ) → u < s → HasAccepted d u → (answer_at d u).accepted.ballot < (answer_at d s).accepted.ballot

  abbrev Nobody : Type 0
  Nobody = (s : ℕ) → s ≤ 11 → HasAccepted d s → ⊥

  module _ (phase : d.phase ≡ 0) where
    in-0 : decide d ≡ decide0 d (highest d) (equal_words d)
    unfolding decide
    in-0 = cond_true (eqb d.phase 0) _ _ (eq-eqb d.phase 0 phase)

    -- "if any answer held an accepted set, take that of the highest accepted ballot to phase 2"
    pub takes-highest : (s : ℕ) → s ≤ 11 → HasAccepted d s → (h : ℕ) × Highest h × (decide d ≡ to_phase 2 d (answer_at d h).accepted.set)
    unfolding decide0
    takes-highest s l a =
        let b = highest-best d s (omega arith) ((has-accepted d s).1 a) in (
          highest d,
          record { server = omega (arith, b.below); holds = (has-accepted d (highest d)).0 b.holds; most = λ u m q. b.most u (omega arith) ((has-accepted d u).1 q); lowest = λ u m q. b.lowest u m ((has-accepted d u).1 q) },
          in-0 ∙ cond_true (ltb (highest d) 12) _ _ (lt-ltb (highest d) 12 b.below),
        )

    none-highest : Nobody → ltb (highest d) 12 ≡ false
    none-highest n = go (dec_lt (highest d) 12)
      where
        go : Dec (highest d < 12) → ltb (highest d) 12 ≡ false
        go (yes l) = absurd (n (highest d) (omega arith) ((has-accepted d (highest d)).0 (highest-accepted d l)))
        go (no g) = le-ltb (highest d) 12 (omega arith)

    -- "Else, if every answer has an arrival word and the words are equal within each shard, take them to phase 2"
    pub takes-words : Nobody → EqualWords d → decide d ≡ to_phase 2 d (unions d)
    unfolding decide0
    takes-words n e = in-0 ∙ cond_false (ltb (highest d) 12) _ _ (none-highest n) ∙ cond_true (equal_words d) _ _ ((equal_words_lem d).1 e)

    -- "Else phase 1, same ballot"
    pub goes_on : Nobody → (EqualWords d → ⊥) → decide d ≡ to_phase1 d
    unfolding decide0
    goes_on n e = in-0 ∙ cond_false (ltb (highest d) 12) _ _ (none-highest n) ∙ cond_false (equal_words d) _ _ (not_true_false (equal_words d) (λ y. e ((equal_words_lem d).0 y)))

  -- ---- phase 1

  -- "at ballot 0, with all answered and equal words within each shard"
  pub record Fast : Type 0 where
    pub first : d.ballot ≡ 0
    pub all : AllAnswered d
    pub equal : EqualWords d

  fast-is : ((eqb d.ballot 0 && all_answered d && equal_words d) ≡ true) ↔ Fast
  fast-is =
      let h = and_is _ _ _ _ (and_is _ _ _ _ (eq_is d.ballot 0) (all-answered d)) (equal_words_lem d) in
      (λ e. let f = h.0 e in record { first = f.0.0; all = f.0.1; equal = f.1 }, λ f. h.1 ((f.first, f.all), f.equal))

  module _ (phase : d.phase ≡ 1) where
    in-1 : decide d ≡ decide1 d (eqb d.ballot 0) (all_answered d) (equal_words d)
    unfolding decide
    in-1 = cond_false (eqb d.phase 0) _ _ (ne_eqb d.phase 0 (λ e. omega arith)) ∙ cond_true (eqb d.phase 1) _ _ (eq-eqb d.phase 1 phase)

    -- "phase 3. Else phase 2. The set is the union per shard of the counted words"
    pub goes-fast : Fast → decide d ≡ to_phase 3 d (unions d)
    unfolding decide1
    goes-fast f = in-1 ∙ cond_true (eqb d.ballot 0 && all_answered d && equal_words d) _ _ (fast-is.1 f)

    pub goes-slow : (Fast → ⊥) → decide d ≡ to_phase 2 d (unions d)
    unfolding decide1
    goes-slow n = in-1 ∙ cond_false (eqb d.ballot 0 && all_answered d && equal_words d) _ _ (not_true_false _ (λ e. n (fast-is.0 e)))

  -- ---- phase 2: "phase 3"

  pub goes-commit : d.phase ≡ 2 → decide d ≡ to_phase 3 d d.chosen.set
  unfolding decide decide2
  goes-commit p = cond_false (eqb d.phase 0) _ _ (ne_eqb d.phase 0 (λ e. omega arith)) ∙ cond_false (eqb d.phase 1) _ _ (ne_eqb d.phase 1 (λ e. omega arith))
