-- What encoding refuses, in plain numbers and both ways: 12 exactly for a code that is none of the fourteen or a count above 8 that its message has; else 14 exactly for a buffer shorter than the message; else nothing.
-- How long each message is. Assumes that the arrays have their eight places, as every message has that code holds.
use mathlib.Core.Path.{◌≡◌, refl, sym, ap, ◌∙◌}
use mathlib.Core.Bool.{Bool, true, false, not, ◌&&◌, ◌||◌}
use mathlib.Core.List.{List, [], ◌∷◌, ◌++◌}
use mathlib.Core.Logic.{◌↔◌, ⊎_elim}
use Prim.Native.Nat.{ℕ, ◌+◌, ◌*◌, ◌≤◌, ◌<◌}
use native.Mathlib.Decide.{ℕ_discrete}
use native.Mathlib.Omega.{arith}
use lib.Dec.{eqb, ltb}
use lib.ListN.{length, drop, length-append}
use borrow.Author.Tests.{ltb-true, ltb-false, lt-ltb, le-ltb, eq-eqb, ne_eqb}
use Rattle.masks.proofs.Bools.{and_yes-l, and_yes_r, and_yes, or_yes, or_yes-l, or_yes_r, not_yes, not_true_false, true_and_false}
use Rattle.xdr.specs.Word.{be}
use Rattle.xdr.specs.Over.{over}
use Rattle.xdr.specs.Form.{u32, u64, when}
use Rattle.rules.specs.Choice.{◌if◌else◌}
use Rattle.rules.specs.Flags.{there}
use Rattle.rules.specs.Sets.{no_set}
use Rattle.wire.specs.declared.Message.{Message}
use Rattle.wire.specs.Codes.{shape_of}
use Rattle.wire.specs.Parts.{pieces, values, set4, maybe_word, maybe_vote}
use Rattle.wire.specs.Bytes.{body, body_of, bytes, known, unwritable, encode_refusal}
use Rattle.wire.specs.Encoding.{encode, written, refused}
use Rattle.wire.specs.Holding.{Sized}
use Rattle.wire.proofs.Lengths.{set-length, pieces-length, values_length, maybe-word-length, maybe-vote-length}
use Rattle.wire.proofs.Longest.{body-length, put-length, Writable, writable_is}
use Rattle.wire.proofs.Columns.{one_of, fourteen, Every, each, piece_codes, value_codes, known-codes, piece-codes, value-codes}

-- the bytes of a message of code k with the fields of m: four for the code and for each number, 4 + 16 for each piece, 32 for a set, 8 for a word,
-- 4 for an optional item that is missing and 4 more than the item for one that is there, 4 + 8 for each result
unfoldable pub size_by : ℕ → Message → ℕ
size_by k m =
    16 + 16 * m.pieces.count if one_of k (0 ∷ 3 ∷ [])
    else 48 + 16 * m.pieces.count if eqb k 1
    else 44 + 16 * m.pieces.count if one_of k (2 ∷ 20 ∷ [])
    else 8 if one_of k (4 ∷ 5 ∷ [])
    else 24 if eqb k 16
    else 16 if one_of k (17 ∷ 18 ∷ [])
    else 12 if eqb k 22
    else 16 + (12 if there m.arrival.some else 4) + (40 if there m.accepted.some else 4) if eqb k 19
    else 20 if eqb k 21
    else 16 + 8 * m.values.count

abbrev pub size_of : Message → ℕ
size_of m = size_by m.code m

-- ---- how long a message is

module _ (m : Message) where
  word_size : length (maybe_word.put m.arrival) ≡ 12 if there m.arrival.some else 4
  unfolding be
  word_size = maybe-word-length m.arrival ∙ go (there m.arrival.some)
    where
      go : (b : Bool) → 4 + length ((when 0 u64 b).put m.arrival.word) ≡ 12 if b else 4
      go true = refl
      go false = refl

  vote-size : length (maybe_vote.put m.accepted) ≡ 40 if there m.accepted.some else 4
  unfolding be
  vote-size = maybe-vote-length m.accepted ∙ go (there m.accepted.some)
    where
      go : (b : Bool) → 4 + (length ((when 0 u32 b).put m.accepted.ballot) + length ((when no_set set4 b).put m.accepted.set)) ≡ 40 if b else 4
      go true = ap (λ (n : ℕ). 4 + (4 + n)) (set-length m.accepted.set)
      go false = refl

  Sizes : ℕ → Type 0
  Sizes k = ((shape_of k).pieces ≡ true → m.pieces.count ≤ 8) → ((shape_of k).values ≡ true → m.values.count ≤ 8) → 4 + length ((body (shape_of k)).put (body_of m)) ≡ size_by k m

  module _ (z : Sized m) where
    piece_bytes : m.pieces.count ≤ 8 → length (pieces.put m.pieces) ≡ 4 + 16 * m.pieces.count
    piece_bytes h = omega (arith, pieces-length m.pieces (omega (arith, h, z.pieces)))

    value-bytes : m.values.count ≤ 8 → length (values.put m.values) ≡ 4 + 8 * m.values.count
    value-bytes h = omega (arith, values_length m.values (omega (arith, h, z.values)))

    sizes : Every Sizes fourteen
    unfolding Sizes shape_of size_by be
    sizes =
        let v = m.set in (
          λ p _. omega (arith, body-length (shape_of 0) (body_of m), piece_bytes (p refl)),
          (
            λ p _. omega (arith, body-length (shape_of 1) (body_of m), piece_bytes (p refl), set-length v),
            (
              λ p _. omega (arith, body-length (shape_of 2) (body_of m), piece_bytes (p refl), set-length v),
              (
                λ p _. omega (arith, body-length (shape_of 3) (body_of m), piece_bytes (p refl)),
                (
                  λ _ _. omega (arith, body-length (shape_of 4) (body_of m)),
                  (
                    λ _ _. omega (arith, body-length (shape_of 5) (body_of m)),
                    (
                      λ _ _. omega (arith, body-length (shape_of 16) (body_of m)),
                      (
                        λ _ _. omega (arith, body-length (shape_of 17) (body_of m)),
                        (
                          λ _ _. omega (arith, body-length (shape_of 18) (body_of m)),
                          (
                            λ _ _. omega (arith, body-length (shape_of 19) (body_of m), length-append (maybe_word.put m.arrival) (maybe_vote.put m.accepted), word_size, vote-size),
                            (
                              λ p _. omega (arith, body-length (shape_of 20) (body_of m), piece_bytes (p refl), set-length v),
                              (
                                λ _ _. omega (arith, body-length (shape_of 21) (body_of m)),
                                (
                                  λ _ _. omega (arith, body-length (shape_of 22) (body_of m)),
                                  (
                                    λ _ q. omega (arith, body-length (shape_of 23) (body_of m), value-bytes (q refl)),
                                    tt,
                                  ),
                                ),
                              ),
                            ),
                          ),
                        ),
                      ),
                    ),
                  ),
                ),
              ),
            ),
          ),
        )

    pub put-size : Writable m → length (bytes.put m) ≡ size_of m
    unfolding Sizes
    put-size w = put-length m ∙ each Sizes fourteen sizes m.code (sym (known-codes m.code) ∙ w.known) w.pieces w.values

-- ---- the refusals

-- an unknown code; pieces above 8, where the message has pieces; results above 8, where it has results
pub data Unwritable (m : Message) : Type 0 where
  no_code : one_of m.code fourteen ≡ false → Unwritable m
  many_pieces : one_of m.code piece_codes ≡ true → 8 < m.pieces.count → Unwritable m
  many_results : one_of m.code value_codes ≡ true → 8 < m.values.count → Unwritable m

module _ (m : Message) where
  abbrev none_known : Bool
  none_known = not (known m.code)

  abbrev over_pieces : Bool
  over_pieces = (shape_of m.code).pieces && ltb 8 m.pieces.count

  abbrev over_values : Bool
  over_values = (shape_of m.code).values && ltb 8 m.values.count

  pub unwritable-is : (unwritable m ≡ true) ↔ Unwritable m
  unfolding unwritable
  unwritable-is = (λ e. ⊎_elim (λ f. ⊎_elim none some (or_yes none_known over_pieces f)) many (or_yes (none_known || over_pieces) over_values e), back)
    where
      none : none_known ≡ true → Unwritable m
      none e = no_code (sym (known-codes m.code) ∙ not_yes (known m.code) e)

      some : over_pieces ≡ true → Unwritable m
      some e =
          many_pieces (sym (piece-codes m.code) ∙ and_yes-l (shape_of m.code).pieces (ltb 8 m.pieces.count) e)
          (ltb-true 8 m.pieces.count (and_yes_r (shape_of m.code).pieces (ltb 8 m.pieces.count) e))

      many : over_values ≡ true → Unwritable m
      many e =
          many_results (sym (value-codes m.code) ∙ and_yes-l (shape_of m.code).values (ltb 8 m.values.count) e)
          (ltb-true 8 m.values.count (and_yes_r (shape_of m.code).values (ltb 8 m.values.count) e))

      back : Unwritable m → (none_known || over_pieces || over_values) ≡ true
      back (no_code e) = or_yes-l (none_known || over_pieces) over_values (or_yes-l none_known over_pieces (ap not (known-codes m.code ∙ e)))
      back (many_pieces e l) = or_yes-l (none_known || over_pieces) over_values (or_yes_r none_known over_pieces (and_yes _ _ (piece-codes m.code ∙ e) (lt-ltb 8 m.pieces.count l)))
      back (many_results e l) = or_yes_r (none_known || over_pieces) over_values (and_yes _ _ (value-codes m.code ∙ e) (lt-ltb 8 m.values.count l))

  writes : (Unwritable m → ⊥) → unwritable m ≡ false
  writes h = not_true_false (unwritable m) (λ e. h (unwritable-is.0 e))

  module _ (n : ℕ) where
    -- what is refused, by the two tests
    abbrev order : Bool → Bool → ℕ
    order u short = 12 if u else 14 if short else 0

    refusal_is : encode_refusal m n ≡ order (unwritable m) (ltb n (length (bytes.put m)))
    unfolding encode_refusal
    refusal_is = refl

    twelve : (u short : Bool) → order u short ≡ 12 → u ≡ true
    twelve true short e = refl
    twelve false true e = absurd (omega arith)
    twelve false false e = absurd (omega arith)

    fourteen-is : (u short : Bool) → order u short ≡ 14 → (u ≡ false) × (short ≡ true)
    fourteen-is true short e = absurd (omega arith)
    fourteen-is false true e = (refl, refl)
    fourteen-is false false e = absurd (omega arith)

    nothing : (u short : Bool) → order u short ≡ 0 → (u ≡ false) × (short ≡ false)
    nothing true short e = absurd (omega arith)
    nothing false true e = absurd (omega arith)
    nothing false false e = (refl, refl)

    pub refuses-12 : (encode_refusal m n ≡ 12) ↔ Unwritable m
    refuses-12 = (
      λ e. unwritable-is.0 (twelve (unwritable m) (ltb n (length (bytes.put m))) (sym refusal_is ∙ e)),
      λ h. refusal_is ∙ ap (λ (u : Bool). order u (ltb n (length (bytes.put m)))) (unwritable-is.1 h),
    )

    module _ (z : Sized m) where
      size : unwritable m ≡ false → length (bytes.put m) ≡ size_of m
      size e = put-size m z (writable_is m e)

      pub refuses-14 : (encode_refusal m n ≡ 14) ↔ ((Unwritable m → ⊥) × (n < size_of m))
      refuses-14 = (there14, back14)
        where
          there14 : encode_refusal m n ≡ 14 → (Unwritable m → ⊥) × (n < size_of m)
          there14 e =
              let r = fourteen-is (unwritable m) (ltb n (length (bytes.put m))) (sym refusal_is ∙ e) in
              (λ u. true_and_false (unwritable-is.1 u) r.0, omega (arith, ltb-true n (length (bytes.put m)) r.1, size r.0))

          back14 : (Unwritable m → ⊥) × (n < size_of m) → encode_refusal m n ≡ 14
          back14 h =
              let w = writes h.0 in
              refusal_is ∙ ap (λ (u : Bool). order u (ltb n (length (bytes.put m)))) w ∙ ap (order false) (lt-ltb n (length (bytes.put m)) (omega (arith, h.1, size w)))

      pub refuses-none : (encode_refusal m n ≡ 0) ↔ ((Unwritable m → ⊥) × (size_of m ≤ n))
      refuses-none = (there0, back0)
        where
          there0 : encode_refusal m n ≡ 0 → (Unwritable m → ⊥) × (size_of m ≤ n)
          there0 e =
              let r = nothing (unwritable m) (ltb n (length (bytes.put m))) (sym refusal_is ∙ e) in
              (λ u. true_and_false (unwritable-is.1 u) r.0, omega (arith, ltb-false n (length (bytes.put m)) r.1, size r.0))

          back0 : (Unwritable m → ⊥) × (size_of m ≤ n) → encode_refusal m n ≡ 0
          back0 h =
              let w = writes h.0 in
              refusal_is ∙ ap (λ (u : Bool). order u (ltb n (length (bytes.put m)))) w ∙ ap (order false) (le-ltb n (length (bytes.put m)) (omega (arith, h.1, size w)))

-- ---- and what then stands in the lent buffer: on a refusal what stood there; else the message's bytes, and behind them what stood there

module _ (m : Message) (z : List ℕ) where
  pub encode-refusal : (encode m z).refusal ≡ encode_refusal m (length z)
  unfolding encode
  encode-refusal = go (ℕ_discrete (encode_refusal m (length z)) 0)
    where
      go : Dec (encode_refusal m (length z) ≡ 0) → (written (bytes.put m) z if eqb (encode_refusal m (length z)) 0 else refused (encode_refusal m (length z)) z).refusal ≡ encode_refusal m (length z)
      go (yes e) = rw (eq-eqb (encode_refusal m (length z)) 0 e) (sym e)
      go (no n) = rw (ne_eqb (encode_refusal m (length z)) 0 n)

  pub refused-leaves : ((encode m z).refusal ≡ 0 → ⊥) → ((encode m z).size ≡ 0) × ((encode m z).buffer ≡ z)
  unfolding encode
  refused-leaves n =
      let f = ne_eqb (encode_refusal m (length z)) 0 (λ e. n (encode-refusal ∙ e)) in
      rw f (refl, refl)

  pub written-front : Sized m → (encode m z).refusal ≡ 0 → ((encode m z).size ≡ size_of m) × ((encode m z).buffer ≡ bytes.put m ++ drop (size_of m) z)
  unfolding encode over
  written-front s e =
      let r = sym encode-refusal ∙ e in
      let n = put-size m s (writable_is m (writes m ((refuses-none m (length z) s).0 r).0)) in
      rw (eq-eqb (encode_refusal m (length z)) 0 r, n) (refl, refl)
