-- Items in a row, one more of them. Assumes nothing.
use Rattle.std.proofs.Common.{◌≡◌, sym, ap, ◌∙◌, List, ◌++◌, ℕ, ◌+◌, ◌≤◌, ◌<◌, length, take, drop, get_or, set, arith, length-append, take-append-drop}
use Rattle.xdr.specs.Form.{Form, flat, many-get}
use Rattle.xdr.specs.Array.{flat_append, flat-more, many_more}
use Rattle.xdr.specs.Over.{Put, put-put, room_right}
use Rattle.xdr.specs.declared.Cursor.{Cursor}
use Rattle.std.proofs.lemmas.List.{take_more_set}

module _ {A : Type 0} (F : Form A) where
  flat_part : (xs : List A) (i : ℕ) → length (flat F (take i xs)) ≤ length (flat F xs)
  flat_part xs i =
      let e : length (flat F xs) ≡ length (flat F (take i xs) ++ flat F (drop i xs)) = ap length (ap (flat F) (sym (take-append-drop i xs)) ∙ flat_append F (take i xs) (drop i xs)) in
      omega (arith, e, length-append (flat F (take i xs)) (flat F (drop i xs)))

  module _ (xs : List A) (at : ℕ) (z : List ℕ) (room : at + length (flat F xs) ≤ length z) (i : ℕ) (d : A) (h : i < length xs) where
    -- the room for the next, and the next written
    pub item-room : {a : ℕ} {z₁ : List ℕ} → Put at (flat F (take i xs)) z a z₁ → length z₁ ≡ length z → a + length (F.put (get_or xs i d)) ≤ length z₁
    item-room p e = room_right at (flat F (take i xs)) (F.put (get_or xs i d)) z (rw (← flat-more F xs i d h) (omega (arith, flat_part xs (i + 1)))) p e

    pub item-put : {a : ℕ} {z₁ : List ℕ} {r : ℕ} {z₂ : List ℕ} → Put at (flat F (take i xs)) z a z₁ → Put a (F.put (get_or xs i d)) z₁ r z₂ → Put at (flat F (take (i + 1) xs)) z r z₂
    item-put p q = rw (flat-more F xs i d h) (put-put at (flat F (take i xs)) (F.put (get_or xs i d)) z (omega (arith, flat_part xs i)) p q)

  module _ (s : List ℕ) (c : Cursor) where
    -- the first i of a list were read, and the cursor after them
    abbrev pub Got : ℕ → List A → Cursor → Type 0
    Got i xs next = (take i xs ≡ (many-get F i s c).v) × (next ≡ (many-get F i s c).next)

    pub got-more : (i : ℕ) (xs : List A) (next : Cursor) (a : A) (k : Cursor) → i < length xs → Got i xs next → a ≡ (F.get s next).v → k ≡ (F.get s next).next → Got (i + 1) (set xs i a) k
    got-more i xs next a k h g p q =
        (take_more_set xs i a h ∙ rw (many_more F i s c, g.0, p, g.1), q ∙ rw (many_more F i s c, g.1))
