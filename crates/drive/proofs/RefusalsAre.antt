-- What a drive refuses, in document 01's order, words and numbers, both ways: each number exactly when its reason holds and none before it does. Of a reply, of Start, Recover and Again, and of "move on".
-- Assumes nothing.
use mathlib.Core.Path.{◌≡◌, refl, sym, ap, ◌∙◌}
use mathlib.Core.Logic.{◌↔◌, ◌⊎◌, inl, inr, ⊎_elim}
use mathlib.Core.List.{List, [], ◌∷◌}
use mathlib.Core.Bool.{Bool, true, false, not, ◌&&◌, ◌||◌, false≢true}
use Prim.Native.Nat.{ℕ, ◌/◌, ◌%◌, ◌≤◌, ◌<◌}
use native.Mathlib.Decide.{ℕ_discrete, dec_lt}
use native.Mathlib.Omega.{arith}
use lib.Dec.{eqb}
use borrow.Author.Tests.{eqb-true, eqb-false, eq-eqb, ne_eqb}
use Rattle.masks.specs.Bits.{In}
use Rattle.masks.proofs.Bools.{or_yes, or_yes-l, or_yes_r, or_no, or_no_l, or_no_r, not_yes, not_no, not_true_false, true_and_false}
use Rattle.rules.specs.declared.Pieces.{Pieces}
use Rattle.rules.specs.Cluster.{bad_number, bad_coordinator}
use Rattle.rules.specs.Ballots.{origin, no_next}
use Rattle.rules.specs.Pieces.{too_many, pieces_kept, same_pieces, shards_of}
use Rattle.rules.proofs.InTurn.{◌when◌otherwise◌, nothing, in_turn, in_turn-after, at_last, broken, denied}
use Rattle.rules.proofs.RuleOne.{number-good, coordinator-good, Recovers}
use Rattle.rules.proofs.RuleNine.{Above, no_next_lem}
use Rattle.rules.proofs.RuleTwo.{LawfulPieces, piece-rules, too_many_lem}
use Rattle.rules.proofs.SameRule.{EqualPieces, same_pieces_rule}
use Rattle.wire.specs.declared.Message.{Message}
use Rattle.wire.specs.Codes.{shape_of, drive_takes, oks}
use Rattle.wire.specs.Faults.{over_count, bad_numbers, bad_pieces, bad_sets}
use Rattle.wire.proofs.Columns.{one_of, ballot_codes, server_codes, piece_codes, ballot-codes, server-codes, piece-codes, drive-takes, ok-codes}
use Rattle.wire.proofs.FaultsAre.{Of, over-count, NumbersKept, numbers-kept, pieces_kept_lem, SetsKept, sets-kept}
use Rattle.drive.specs.declared.Drive.{Drive}
use Rattle.drive.specs.Held.{counted, touched, addressed}
use Rattle.drive.specs.Decide.{two_in_each}
use Rattle.drive.specs.Form.{formed}
use Rattle.drive.specs.Hear.{not_taken, other_phase, misplaced, other_pieces, refusal}
use Rattle.drive.specs.Host.{start_refusal, recover_refusal, above, again_refusal, move_on_refusal}
use Rattle.drive.proofs.Tests.{and_is, kept_not, in_is, eq_is}
use Rattle.drive.proofs.AnswersAre.{Counted, counted_is, Thin, thin_is}
use Rattle.drive.proofs.FormDown.{InForm, form-is}

-- ---- a reply

-- 12: "a code that side doesn't take (.. a drive 16, 17, 19, 20, 21)", or "count above 8"
abbrev pub NotTaken : Message → Type 0
NotTaken m = (one_of m.code (16 ∷ 17 ∷ 19 ∷ 20 ∷ 21 ∷ []) ≡ false) ⊎ (Of m piece_codes × (8 < m.pieces.count))

not_taken_lem : (m : Message) → (not_taken m ≡ true) ↔ NotTaken m
unfolding not_taken
not_taken_lem m = (
  λ e. ⊎_elim (λ f. inl (sym (drive-takes m.code) ∙ not_yes (drive_takes m.code) f)) (λ f. inr ((over-count m).0 f)) (or_yes (not (drive_takes m.code)) (over_count m) e),
  λ h. ⊎_elim (λ f. or_yes-l (not (drive_takes m.code)) (over_count m) (ap not (drive-takes m.code ∙ f))) (λ f. or_yes_r (not (drive_takes m.code)) (over_count m) ((over-count m).1 f)) h,
)

-- what 8 asks for: "a reply for another T, ballot or phase, or from a server counted or untouched; any event in phase 3"; "Behind allows a server already counted"
pub record InPlace (d : Drive) (m : Message) : Type 0 where
  pub prepare_ok : m.code ≡ 19 → d.phase ≡ 0
  pub pre_accept_ok : m.code ≡ 16 → d.phase ≡ 1
  pub accept_ok : m.code ≡ 17 → d.phase ≡ 2
  pub before : d.phase ≡ 3 → ⊥
  pub number : m.t ≡ d.t
  pub ballot : Of m ballot_codes → m.ballot ≡ d.ballot
  pub server : Of m server_codes → In (shards_of d.pieces) (m.server / 3)
  pub once : Of m (16 ∷ 17 ∷ 19 ∷ []) → Counted d m.server → ⊥

-- no reason to refuse: b is not said where a is
unless_is : (P Q : Type 0) (a b : Bool) → (a ≡ true) ↔ P → (b ≡ false) ↔ Q → ((a && b) ≡ false) ↔ (P → Q)
unless_is P Q true b p q = (λ e h. q.0 e, λ f. q.1 (f (p.0 refl)))
unless_is P Q false b p q = (λ e h. absurd (false≢true (p.1 h)), λ f. refl)

module _ (d : Drive) (m : Message) where
  -- the phase that a reply belongs to
  abbrev Phase : Type 0
  Phase = (m.code ≡ 19 → d.phase ≡ 0) × (m.code ≡ 16 → d.phase ≡ 1) × (m.code ≡ 17 → d.phase ≡ 2) × (d.phase ≡ 3 → ⊥)

  phase-is : (other_phase d.phase m ≡ false) ↔ Phase
  unfolding other_phase
  phase-is = (λ e. told e (ℕ_discrete m.code 19) (ℕ_discrete m.code 16) (ℕ_discrete m.code 17), λ h. tells h (ℕ_discrete m.code 19) (ℕ_discrete m.code 16) (ℕ_discrete m.code 17))
    where
      is-phase : (n : ℕ) → not (eqb d.phase n) ≡ false → d.phase ≡ n
      is-phase n e = eqb-true d.phase n (not_no (eqb d.phase n) e)

      told : other_phase d.phase m ≡ false → Dec (m.code ≡ 19) → Dec (m.code ≡ 16) → Dec (m.code ≡ 17) → Phase
      told e (yes p) q r = let z = is-phase 0 (rw (eq-eqb m.code 19 p) at e) in (λ _. z, λ x. absurd (omega arith), λ x. absurd (omega arith), λ x. omega arith)
      told e (no a) (yes q) r = let z = is-phase 1 (rw (ne_eqb m.code 19 a, eq-eqb m.code 16 q) at e) in (λ x. absurd (a x), λ _. z, λ x. absurd (omega arith), λ x. omega arith)
      told e (no a) (no b) (yes r) = let z = is-phase 2 (rw (ne_eqb m.code 19 a, ne_eqb m.code 16 b, eq-eqb m.code 17 r) at e) in (λ x. absurd (a x), λ x. absurd (b x), λ _. z, λ x. omega arith)
      told e (no a) (no b) (no c) = (λ x. absurd (a x), λ x. absurd (b x), λ x. absurd (c x), eqb-false d.phase 3 (rw (ne_eqb m.code 19 a, ne_eqb m.code 16 b, ne_eqb m.code 17 c) at e))

      tells : Phase → Dec (m.code ≡ 19) → Dec (m.code ≡ 16) → Dec (m.code ≡ 17) → other_phase d.phase m ≡ false
      tells h (yes p) q r = rw (eq-eqb m.code 19 p) (ap not (eq-eqb d.phase 0 (h.0 p)))
      tells h (no a) (yes q) r = rw (ne_eqb m.code 19 a, eq-eqb m.code 16 q) (ap not (eq-eqb d.phase 1 (h.1 q)))
      tells h (no a) (no b) (yes r) = rw (ne_eqb m.code 19 a, ne_eqb m.code 16 b, eq-eqb m.code 17 r) (ap not (eq-eqb d.phase 2 (h.2 r)))
      tells h (no a) (no b) (no c) = rw (ne_eqb m.code 19 a, ne_eqb m.code 16 b, ne_eqb m.code 17 c) (ne_eqb d.phase 3 h.3)

  abbrev other_number : Bool
  other_number = not (eqb m.t d.t)

  abbrev other_ballot : Bool
  other_ballot = (shape_of m.code).ballot && not (eqb m.ballot d.ballot)

  abbrev other_shard : Bool
  other_shard = (shape_of m.code).server && not (addressed (touched d) m.server)

  abbrev twice : Bool
  twice = oks m.code && counted d m.server

  -- a column of the table
  has-field : (a : Bool) (l : List ℕ) → a ≡ one_of m.code l → (a ≡ true) ↔ Of m l
  has-field a l e = (λ h. sym e ∙ h, λ h. e ∙ h)

  not-not-is : (K : Type 0) (b : Bool) → (b ≡ true) ↔ K → (not b ≡ false) ↔ K
  not-not-is K b h = (λ e. h.0 (not_no b e), λ k. ap not (h.1 k))

  ballot-is : (other_ballot ≡ false) ↔ (Of m ballot_codes → m.ballot ≡ d.ballot)
  ballot-is = unless_is _ _ _ _ (has-field (shape_of m.code).ballot ballot_codes (ballot-codes m.code)) (not-not-is (m.ballot ≡ d.ballot) (eqb m.ballot d.ballot) (eq_is m.ballot d.ballot))

  shard-is : (other_shard ≡ false) ↔ (Of m server_codes → In (shards_of d.pieces) (m.server / 3))
  shard-is = unless_is _ _ _ _ (has-field (shape_of m.code).server server_codes (server-codes m.code)) (not-not-is (In (shards_of d.pieces) (m.server / 3)) (addressed (touched d) m.server) (in_is (touched d) (m.server / 3)))

  once_is : (twice ≡ false) ↔ (Of m (16 ∷ 17 ∷ 19 ∷ []) → Counted d m.server → ⊥)
  once_is =
      unless_is _ _ _ _ (has-field (oks m.code) (16 ∷ 17 ∷ 19 ∷ []) (ok-codes m.code))
      (λ e c. true_and_false ((counted_is d m.server).1 c) e, λ n. not_true_false (counted d m.server) (λ e. n ((counted_is d m.server).0 e)))

  place_is : (misplaced d m ≡ false) ↔ InPlace d m
  unfolding misplaced
  place_is = (parts, whole)
    where
      parts : misplaced d m ≡ false → InPlace d m
      parts e =
          let e3 = or_no_l (other_phase d.phase m || other_number || other_ballot || other_shard) twice e in
          let e2 = or_no_l (other_phase d.phase m || other_number || other_ballot) other_shard e3 in
          let e1 = or_no_l (other_phase d.phase m || other_number) other_ballot e2 in
          let p = phase-is.0 (or_no_l (other_phase d.phase m) other_number e1) in
          record {
            prepare_ok = p.0;
            pre_accept_ok = p.1;
            accept_ok = p.2;
            before = p.3;
            number = eqb-true m.t d.t (not_no (eqb m.t d.t) (or_no_r (other_phase d.phase m) other_number e1));
            ballot = ballot-is.0 (or_no_r (other_phase d.phase m || other_number) other_ballot e2);
            server = shard-is.0 (or_no_r (other_phase d.phase m || other_number || other_ballot) other_shard e3);
            once = once_is.0 (or_no_r (other_phase d.phase m || other_number || other_ballot || other_shard) twice e);
          }

      whole : InPlace d m → misplaced d m ≡ false
      whole h =
          or_no _ _
          (or_no _ _ (or_no _ _ (or_no _ _ (phase-is.1 (h.prepare_ok, h.pre_accept_ok, h.accept_ok, h.before)) (ap not (eq-eqb m.t d.t h.number))) (ballot-is.1 h.ballot)) (shard-is.1 h.server))
          (once_is.1 h.once)

  -- 5: "pieces differ from those held"
  abbrev pub OtherPieces : Type 0
  OtherPieces = Of m piece_codes × (EqualPieces d.pieces m.pieces → ⊥)

  other_pieces_lem : (other_pieces d m ≡ true) ↔ OtherPieces
  unfolding other_pieces
  other_pieces_lem = and_is _ _ _ _ (has-field (shape_of m.code).pieces piece_codes (piece-codes m.code)) (denied (EqualPieces d.pieces m.pieces) (same_pieces d.pieces m.pieces) (same_pieces_rule d.pieces m.pieces))

  -- "drive 13, 12, 1, 2, 8, 5, 3"
  pub hear-refuses : (n : ℕ) → (refusal d m ≡ n) ↔
      (13 when (InForm d → ⊥)
      otherwise 12 when NotTaken m
      otherwise 1 when (NumbersKept m → ⊥)
      otherwise 2 when ((Of m piece_codes → LawfulPieces m.pieces) → ⊥)
      otherwise 8 when (InPlace d m → ⊥)
      otherwise 5 when OtherPieces
      otherwise 3 when (SetsKept (shards_of d.pieces) m → ⊥)
      otherwise nothing) n
  unfolding refusal
  hear-refuses =
      in_turn _ _ (not (formed d)) 13 _ (denied (InForm d) (formed d) (form-is d))
      (in_turn _ _ (not_taken m) 12 _ (not_taken_lem m)
      (in_turn _ _ (bad_numbers m) 1 _ (broken (NumbersKept m) (bad_numbers m) (numbers-kept m))
      (in_turn _ _ (bad_pieces m) 2 _ (broken (Of m piece_codes → LawfulPieces m.pieces) (bad_pieces m) (pieces_kept_lem m))
      (in_turn _ _ (misplaced d m) 8 _ (broken (InPlace d m) (misplaced d m) place_is)
      (in_turn _ _ (other_pieces d m) 5 _ other_pieces_lem
      (in_turn _ _ (bad_sets (touched d) m) 3 _ (broken (SetsKept (touched d) m) (bad_sets (touched d) m) (sets-kept (touched d) m)) at_last))))))

-- ---- the host's words

module _ (c t : ℕ) (ps : Pieces) where
  named : ((bad_coordinator c || bad_number t) ≡ false) ↔ ((c ≤ 7) × (t ≤ 63))
  named = (
    λ e. ((coordinator-good c).0 (or_no_l (bad_coordinator c) (bad_number t) e), (number-good t).0 (or_no_r (bad_coordinator c) (bad_number t) e)),
    λ h. or_no _ _ ((coordinator-good c).1 h.0) ((number-good t).1 h.1),
  )

  -- Start: 12, 1 ("Start by another than the origin", T mod 8), 2
  pub start-refuses : (n : ℕ) → (start_refusal c t ps ≡ n) ↔
      (12 when (8 < ps.count)
      otherwise 1 when ((c ≤ 7) × (t ≤ 63) × (c ≡ t % 8) → ⊥)
      otherwise 2 when (LawfulPieces ps → ⊥)
      otherwise nothing) n
  unfolding start_refusal
  start-refuses =
      in_turn _ _ (too_many ps) 12 _ (too_many_lem ps)
      (in_turn _ _ (bad_coordinator c || bad_number t || not (eqb c (origin t))) 1 _ (broken ((c ≤ 7) × (t ≤ 63) × (c ≡ t % 8)) _ owned)
      (in_turn _ _ (not (pieces_kept ps)) 2 _ (denied (LawfulPieces ps) (pieces_kept ps) (piece-rules ps)) at_last))
    where
      owned : ((bad_coordinator c || bad_number t || not (eqb c (origin t))) ≡ false) ↔ ((c ≤ 7) × (t ≤ 63) × (c ≡ t % 8))
      owned = (
        λ e.
            let h = named.0 (or_no_l (bad_coordinator c || bad_number t) (not (eqb c (origin t))) e) in
            (h.0, h.1, omega (arith, eqb-true c (origin t) (not_no (eqb c (origin t)) (or_no_r (bad_coordinator c || bad_number t) (not (eqb c (origin t))) e)))),
        λ h. or_no _ _ (named.1 (h.0, h.1)) (ap not (eq-eqb c (origin t) (omega (arith, h.2)))),
      )

  -- Recover: 12, 1, 2, 9
  pub recover-refuses : (floor n : ℕ) → (recover_refusal c t ps floor ≡ n) ↔
      (12 when (8 < ps.count)
      otherwise 1 when ((c ≤ 7) × (t ≤ 63) → ⊥)
      otherwise 2 when (LawfulPieces ps → ⊥)
      otherwise 9 when ((b : ℕ) → Above c floor b → ⊥)
      otherwise nothing) n
  unfolding recover_refusal
  recover-refuses floor =
      in_turn _ _ (too_many ps) 12 _ (too_many_lem ps)
      (in_turn-after _ _ (bad_coordinator c || bad_number t) 1 _ (broken ((c ≤ 7) × (t ≤ 63)) (bad_coordinator c || bad_number t) named)
      (λ k. in_turn _ _ (not (pieces_kept ps)) 2 _ (denied (LawfulPieces ps) (pieces_kept ps) (piece-rules ps))
      (in_turn _ _ (no_next c floor) 9 _ (no_next_lem c floor (small k)) at_last)))
    where
      small : (((c ≤ 7) × (t ≤ 63) → ⊥) → ⊥) → c ≤ 7
      small k = go (dec_lt 7 c)
        where
          go : Dec (7 < c) → c ≤ 7
          go (yes l) = absurd (k (λ h. omega arith))
          go (no g) = omega arith

module _ (d : Drive) where
  -- a ballot of the coordinator above its own and every promise that it saw
  abbrev pub Later : ℕ → Type 0
  Later b = Recovers d.coordinator b × (d.ballot < b) × (d.seen < b)

  -- Again: 13, 8, 9
  pub again-refuses : (n : ℕ) → (again_refusal d ≡ n) ↔
      (13 when (InForm d → ⊥)
      otherwise 8 when (d.phase ≡ 3)
      otherwise 9 when ((b : ℕ) → Later b → ⊥)
      otherwise nothing) n
  unfolding again_refusal
  again-refuses =
      in_turn-after _ _ (not (formed d)) 13 _ (denied (InForm d) (formed d) (form-is d))
      (λ k. in_turn _ _ (eqb d.phase 3) 8 _ (eq_is d.phase 3)
      (in_turn _ _ (no_next d.coordinator (above d)) 9 _ (later (small k)) at_last))
    where
      small : ((InForm d → ⊥) → ⊥) → d.coordinator ≤ 7
      small k = go (dec_lt 7 d.coordinator)
        where
          go : Dec (7 < d.coordinator) → d.coordinator ≤ 7
          go (yes l) = absurd (k (λ f. omega (arith, f.coordinator)))
          go (no g) = omega arith

      later : d.coordinator ≤ 7 → (no_next d.coordinator (above d) ≡ true) ↔ ((b : ℕ) → Later b → ⊥)
      later l =
          let h = no_next_lem d.coordinator (above d) l in
          (λ e b x. h.0 e b (x.0, omega (arith, x.1, x.2)), λ f. h.1 (λ b x. f b (x.0, omega (arith, x.1), omega (arith, x.1))))

  -- "move on": 13, 8, 7
  pub move-on-refuses : (n : ℕ) → (move_on_refusal d ≡ n) ↔
      (13 when (InForm d → ⊥)
      otherwise 8 when (d.phase ≡ 3)
      otherwise 7 when Thin d
      otherwise nothing) n
  unfolding move_on_refusal
  move-on-refuses =
      in_turn _ _ (not (formed d)) 13 _ (denied (InForm d) (formed d) (form-is d))
      (in_turn _ _ (eqb d.phase 3) 8 _ (eq_is d.phase 3)
      (in_turn _ _ (not (two_in_each d)) 7 _ (kept_not (Thin d) (two_in_each d) (thin_is d)) at_last))
