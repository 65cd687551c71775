-- Decoding what encoding wrote gives the same message, and every byte string that decodes is the one that encoding writes: so two that decode to the same message are equal.
-- Assumes nothing.
use mathlib.Core.Path.{◌≡◌, refl, sym, ap, ◌∙◌}
use mathlib.Core.Bool.{Bool, true, false, cond}
use mathlib.Core.List.{List, [], ◌++◌, append-nil}
use Prim.Native.Nat.{ℕ, ◌+◌}
use native.Mathlib.Decide.{ℕ_discrete}
use native.Mathlib.Omega.{arith}
use lib.Dec.{eqb, leb, ltb}
use lib.ListN.{length, take, drop, drop_of_length-le}
use lib.Seq.{take_at}
use borrow.Author.Tests.{eq-eqb, ne_eqb, le-leb, leb-true}
use Rattle.xdr.specs.Word.{Bytes}
use Rattle.xdr.specs.Read.{judged, judged_true, judged_back}
use Rattle.xdr.specs.Frame.{moved}
use Rattle.xdr.specs.Over.{over}
use Rattle.xdr.specs.declared.Cursor.{Cursor}
use Rattle.rules.specs.Choice.{◌if◌else◌}
use Rattle.wire.specs.declared.Message.{Message}
use Rattle.wire.specs.declared.Decoded.{Decoded}
use Rattle.wire.specs.Messages.{blank}
use Rattle.wire.specs.Bytes.{bytes, at_front, ended, decoded_as, decode, unwritable, encode_refusal}
use Rattle.wire.specs.Encoding.{Encoding, encode, refused, written}
use Rattle.wire.specs.Holding.{Fits}
use Rattle.wire.specs.Normal.{normal}
use Rattle.wire.proofs.Longest.{writable_is}
use Rattle.wire.proofs.Normalized.{normal-bytes, normal-fine}

-- what is written of a value that the format is for reads back as it
fine-read : (m : Message) → bytes.Ok m → decode (bytes.put m) ≡ record { refusal = 0; message = m }
unfolding decode decoded_as ended
fine-read m ok =
    let s = bytes.put m in
    let g = bytes.there s at_front m [] ok (record { clean = refl; bytes = sym (append-nil s) }) in
    let e : ended s (bytes.get s at_front).next ≡ moved at_front s =
    ap (λ (c : Cursor). judged (leb (length s) c.at) 11 c) (ap (λ x. x.next) g)
    ∙ ap (λ (b : Bool). judged b 11 (moved at_front s)) (le-leb (length s) (0 + length s) (omega arith))
    ∙ judged_true 11 (moved at_front s) in
    ap (decoded_as (bytes.get s at_front).v) e
    ∙ ap (λ x. record { refusal = 0; message = x.v }) g

-- what is written reads back as the same message
pub write_read : (m : Message) → Fits m → unwritable m ≡ false → decode (bytes.put m) ≡ record { refusal = 0; message = normal m }
write_read m f n =
    let w = writable_is m n in
    ap decode (sym (normal-bytes m f.sized w)) ∙ fine-read (normal m) (normal-fine m f w)

-- what is read is what would be written
pub read_write : (s : List ℕ) → Bytes s → (decode s).refusal ≡ 0 → bytes.put (decode s).message ≡ s
unfolding decode decoded_as ended
read_write s b h = go (ℕ_discrete end.fault 0)
  where
    end : Cursor
    end = ended s (bytes.get s at_front).next

    pick : Bool → Decoded
    pick t = cond t (record { refusal = 0; message = (bytes.get s at_front).v }) (record { refusal = end.fault; message = blank })

    go : Dec (end.fault ≡ 0) → bytes.put (decode s).message ≡ s
    go (no n) = absurd (n (ap (λ (t : Bool). (pick t).refusal) (sym (ne_eqb end.fault 0 n)) ∙ h))
    go (yes y) =
        let c = (bytes.get s at_front).next in
        let j = judged_back (leb (length s) c.at) 11 c (omega arith) y in
        let p = bytes.back s at_front b (ap (λ (k : Cursor). k.fault) (sym j.1) ∙ y) in
        let n : drop c.at s ≡ [] = drop_of_length-le s {i = c.at} (leb-true _ _ j.0) in
        ap (λ (t : Bool). bytes.put (pick t).message) (eq-eqb end.fault 0 y)
        ∙ sym (append-nil (bytes.put (bytes.get s at_front).v))
        ∙ ap (λ (l : List ℕ). bytes.put (bytes.get s at_front).v ++ l) (sym n)
        ∙ sym p.bytes

-- each message has one byte string
pub one_string : (s r : List ℕ) → Bytes s → Bytes r → (decode s).refusal ≡ 0 → (decode r).refusal ≡ 0 → (decode s).message ≡ (decode r).message → s ≡ r
one_string s r b c h k e = sym (read_write s b h) ∙ ap bytes.put e ∙ read_write r c k

-- ---- the same of a lent buffer

-- a message that is not refused stands at the front
abbrev picked : Message → List ℕ → Bool → Bool → Encoding
picked m z u b =
    let e : ℕ = 12 if u else 14 if b else 0 in
    written (bytes.put m) z if eqb e 0 else refused e z

accepted : (m : Message) (z : List ℕ) (u b : Bool) → (picked m z u b).refusal ≡ 0 → (u ≡ false) × (take (picked m z u b).size (picked m z u b).buffer ≡ bytes.put m)
unfolding over
accepted m z true b h = absurd (omega arith)
accepted m z false true h = absurd (omega arith)
accepted m z false false h = (refl, take_at (bytes.put m) (drop (length (bytes.put m)) z) (length (bytes.put m)) refl)

stands : (m : Message) (z : List ℕ) → (encode m z).refusal ≡ 0 → (unwritable m ≡ false) × (take (encode m z).size (encode m z).buffer ≡ bytes.put m)
unfolding encode encode_refusal
stands m z h = accepted m z (unwritable m) (ltb (length z) (length (bytes.put m))) h

pub encode-decode : (m : Message) → Fits m → (z : List ℕ) → (encode m z).refusal ≡ 0 → decode (take (encode m z).size (encode m z).buffer) ≡ record { refusal = 0; message = normal m }
encode-decode m f z h =
    let e = stands m z h in
    ap decode e.1 ∙ write_read m f e.0
