-- The messages by what they have beside the code and T: nothing, pieces, or a server. It is the table of codes read by kinds; `Rattle.encoding.proofs.ByKind` proves it.
use Rattle.std.specs.Prelude.{Bool, true, false, not, ◌&&◌, ◌||◌, List, [], ◌∷◌, ℕ, eqb, leb, take}
use Rattle.xdr.specs.Word.{be}
use Rattle.xdr.specs.Form.{u64, when, flat}
use Rattle.rules.specs.Choice.{◌if◌else◌}
use Rattle.rules.specs.Sets.{no_set}
use Rattle.rules.specs.Maybe.{no_word, no_vote}
use Rattle.rules.specs.Values.{no_values}
use Rattle.rules.specs.declared.Piece.{Piece}
use Rattle.rules.specs.declared.Set.{Set}
use Rattle.rules.specs.declared.MaybeWord.{MaybeWord}
use Rattle.rules.specs.declared.MaybeVote.{MaybeVote}
use Rattle.rules.specs.declared.Values.{Values}
use Rattle.wire.specs.declared.Shape.{Shape}
use Rattle.wire.specs.Codes.{Accept, Prepare, Inquire, Fetch, PreAcceptOK, AcceptOK, CommitOK, PrepareOK, Done, Behind, Results, commits, has, unknown}
use Rattle.wire.specs.Parts.{piece, set4, prepared, values}
use Rattle.wire.specs.Bytes.{code}
use Rattle.encoding.specs.Sections.{front}

abbrev pub bare : ℕ → Bool
bare k = eqb k Inquire || eqb k Fetch

-- pieces, and a ballot before them, a set after them or both
abbrev pub asked : ℕ → Bool
asked k = leb k Prepare || eqb k Done

-- a server: Done, whose code is among these, has pieces
abbrev pub answered : ℕ → Bool
answered k = leb PreAcceptOK k && leb k Results

abbrev pub bare_shape : Shape
bare_shape = has false false false false false false false false false

abbrev pub asked_shape : ℕ → Shape
asked_shape k = has false (not (commits k)) false false true (eqb k Accept || commits k) false false false

abbrev pub answered_shape : ℕ → Shape
answered_shape k = has true ((leb k AcceptOK || eqb k PrepareOK) || eqb k Behind) (eqb k Behind) (eqb k CommitOK) false false (eqb k PreAcceptOK) (eqb k PrepareOK) (eqb k Results)

unfoldable pub kind_shape : ℕ → Shape
kind_shape k =
    bare_shape if bare k
    else asked_shape k if asked k
    else answered_shape k if answered k
    else unknown

-- ---- their sections

abbrev pub bare_sections : (k t : ℕ) → List (List ℕ)
bare_sections k t = code.put k ∷ be 4 t ∷ []

abbrev pub asked_sections : Shape → (k t b : ℕ) → List Piece → ℕ → Set → List (List ℕ)
asked_sections h k t b l n v = code.put k ∷ (front h).put ((((t, 0), b), 0), 0) ∷ be 4 n ∷ flat piece (take n l) ∷ (when no_set set4 h.set).put v ∷ []

abbrev pub answered_sections : Shape → (k t s b p n w : ℕ) → MaybeWord → MaybeVote → Values → List (List ℕ)
answered_sections h k t s b p n w a v r =
    code.put k
    ∷ (front h).put ((((t, s), b), p), n)
    ∷ (when 0 u64 h.word).put w
    ∷ (when (no_word, no_vote) prepared h.prepared).put (a, v)
    ∷ (when no_values values h.values).put r
    ∷ []
