-- What readers in a row show of the part that they read together. Assumes nothing.
use mathlib.Core.Path.{◌≡◌, refl, ap, ◌∙◌}
use Rattle.std.specs.Int.{from_bool}
use mathlib.Core.Bool.{Bool, true, false}
use mathlib.Core.List.{List}
use Prim.Native.Nat.{ℕ}
use lib.IntN.{ℤ}
use Rattle.xdr.specs.Form.{u32, u64, int, flag as bool, count, ◌then◌, when}
use Rattle.xdr.specs.Array.{Filled, filled-rows}
use Rattle.rules.specs.declared.Piece.{Piece}
use Rattle.rules.specs.Pieces.{no_piece}
use Rattle.xdr.specs.Reading.{Reads, reads_then, reads_by}
use Rattle.xdr.specs.declared.Cursor.{Cursor}
use Rattle.rules.specs.declared.Set.{Set}
use Rattle.rules.specs.Flags.{flag}
use Rattle.rules.specs.Sets.{no_set}
use Rattle.wire.specs.Parts.{pieces, piece, set4, value, maybe_word, maybe_vote}

-- a flag as a number
pub told : (b : Bool) → from_bool b ≡ flag b
told true = refl
told false = refl

module _ (s : List ℕ) (c : Cursor) where
  pub pieces-read : {n : ℕ} {k : Cursor} {l : List Piece} {cur : Cursor} → Reads count s c n k → Filled piece no_piece s k n l cur → Reads pieces s c (record { list = l; count = n }) cur
  unfolding pieces
  pieces-read p f =
      let r = filled-rows piece no_piece s c p f in
      record { value = ap (λ (q : ℕ × List Piece). record { list = q.1; count = q.0 }) r.value; next = r.next }

  pub value_read : {z : ℤ} {k : Cursor} {b : Bool} {l : Cursor} {m : ℕ} → Reads int s c z k → Reads bool s k b l → m ≡ flag b → Reads value s c (record { value = z; kept = m }) l
  unfolding value
  value_read {z = z} p q e =
      let r = reads_then p q in
      record {
        value = (λ i. record { value = z; kept = e i }) ∙ ap (λ (x : ℤ × Bool). record { value = x.0; kept = flag x.1 }) r.value;
        next = r.next;
      }

  pub maybe-word-read : {b : Bool} {k : Cursor} {w : ℕ} {l : Cursor} {m : ℕ} → Reads bool s c b k → Reads (when 0 u64 b) s k w l → m ≡ flag b
      → Reads maybe_word s c (record { some = m; word = w }) l
  unfolding maybe_word
  maybe-word-read {w = w} p q e =
      let r = reads_by (when 0 u64) p q in
      record {
        value = (λ i. record { some = e i; word = w }) ∙ ap (λ (x : Bool × ℕ). record { some = flag x.0; word = x.1 }) r.value;
        next = r.next;
      }

  -- a ballot and a set are both there or neither is
  both_read : (b : Bool) {k : Cursor} {t : ℕ} {l : Cursor} {v : Set} {j : Cursor} → Reads (when 0 u32 b) s k t l → Reads (when no_set set4 b) s l v j
      → Reads (when (0, no_set) (u32 then set4) b) s k (t, v) j
  both_read true p q =
      let r = reads_then p q in
      record { value = r.value; next = r.next }
  both_read false p q = record { value = λ i. (p.value i, q.value i); next = q.next ∙ p.next }

  pub maybe-vote-read : {b : Bool} {k : Cursor} {t : ℕ} {l : Cursor} {v : Set} {j : Cursor} {m : ℕ} → Reads bool s c b k → Reads (when 0 u32 b) s k t l → Reads (when no_set set4 b) s l v j
      → m ≡ flag b → Reads maybe_vote s c (record { some = m; ballot = t; set = v }) j
  unfolding maybe_vote
  maybe-vote-read {b} {t = t} {v = v} p q u e =
      let r = reads_by (when (0, no_set) (u32 then set4)) p (both_read b q u) in
      record {
        value = (λ i. record { some = e i; ballot = t; set = v }) ∙ ap (λ (x : Bool × (ℕ × Set)). record { some = flag x.0; ballot = x.1.0; set = x.1.1 }) r.value;
        next = r.next;
      }
