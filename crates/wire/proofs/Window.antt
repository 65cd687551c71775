-- Decoding looks at the first 177 bytes alone: the longest message, and whether a byte is left. Assumes nothing.
use mathlib.Core.Path.{◌≡◌, refl, sym, ap, ◌∙◌}
use mathlib.Core.Bool.{Bool}
use mathlib.Core.List.{List}
use Prim.Native.Nat.{ℕ, ◌+◌, ◌≤◌}
use native.Mathlib.Decide.{dec_le}
use native.Mathlib.Omega.{arith}
use lib.Dec.{eqb, leb}
use lib.IntN.{ℤ}
use lib.ListN.{length, take, length-take}
use lib.Seq.{take_all}
use mir.Syntax.{w32}
use mir.Val.{to_z}
use borrow.Author.Tests.{lt-leb}
use Rattle.xdr.specs.Read.{Got, judged}
use Rattle.xdr.specs.Form.{Form, int, flag as bool, bit, then_by, when}
use Rattle.xdr.proofs.Windows.{Windowed, wider, u32-window, u64-window, by_window, then_window, cost, when_window, only-window, as_window, rows_window}
use Rattle.rules.specs.declared.Piece.{Piece}
use Rattle.rules.specs.declared.Set.{Set}
use Rattle.rules.specs.declared.Value.{Value}
use Rattle.rules.specs.Flags.{flag}
use Rattle.rules.specs.Pieces.{no_piece, no_pieces}
use Rattle.rules.specs.Sets.{no_set}
use Rattle.rules.specs.Maybe.{no_word, no_vote}
use Rattle.rules.specs.Values.{no_value, no_values}
use Rattle.wire.specs.declared.Message.{Message}
use Rattle.wire.specs.declared.Shape.{Shape}
use Rattle.wire.specs.Codes.{shape_of}
use Rattle.wire.specs.Parts.{piece, pieces, set4, value, values, maybe_word, maybe_vote}
use Rattle.wire.specs.Bytes.{body, known, code, bytes, with_body, at_front, ended, decoded_as, decode}
use Rattle.wire.proofs.Longest.{most_small, cost_le}

int-window : Windowed int 4
unfolding int
int-window = as_window (to_z w32) int (λ s c. refl) u32-window

bool_window : Windowed bool 4
unfolding bool
bool_window = as_window (λ n. eqb n 1) bool (λ s c. refl) (only-window 0 (bit 1) u32-window)

piece-window : Windowed piece 16
unfolding piece
piece-window =
    as_window (λ p. record { shard = p.0.0.0; key = p.0.0.1; kind = p.0.1; operand = p.1 }) piece (λ s c. refl)
    (then_window (then_window (then_window u32-window u32-window) u32-window) int-window)

pieces-window : Windowed pieces 132
unfolding pieces
pieces-window = as_window (λ (p : ℕ × List Piece). record { list = p.1; count = p.0 }) pieces (λ s c. refl) (rows_window no_piece piece piece-window)

set-window : Windowed set4 32
unfolding set4
set-window =
    as_window (λ p. record { w0 = p.0.0.0; w1 = p.0.0.1; w2 = p.0.1; w3 = p.1 }) set4 (λ s c. refl)
    (then_window (then_window (then_window u64-window u64-window) u64-window) u64-window)

value-window : Windowed value 8
unfolding value
value-window = as_window (λ (p : ℤ × Bool). record { value = p.0; kept = flag p.1 }) value (λ s c. refl) (then_window int-window bool_window)

values-window : Windowed values 68
unfolding values
values-window = as_window (λ (p : ℕ × List Value). record { list = p.1; count = p.0 }) values (λ s c. refl) (rows_window no_value value value-window)

-- a flag, and then the item where it is set
maybe-window : {A : Type 0} (d : A) {F : Form A} {w : ℕ} → Windowed F w → Windowed (then_by bool (when d F)) (4 + w)
maybe-window d {F} {w} p = by_window bool (when d F) bool_window (λ s c. let b = (bool.get s c).v in wider (cost_le b w) (when_window d b p))

word-window : Windowed maybe_word 12
unfolding maybe_word
word-window = as_window (λ (p : Bool × ℕ). record { some = flag p.0; word = p.1 }) maybe_word (λ s c. refl) (maybe-window 0 u64-window)

vote-window : Windowed maybe_vote 40
unfolding maybe_vote
vote-window = as_window (λ (p : Bool × (ℕ × Set)). record { some = flag p.0; ballot = p.1.0; set = p.1.1 }) maybe_vote (λ s c. refl) (maybe-window (0, no_set) (then_window u32-window set-window))

body-window : (h : Shape) → Windowed (body h)
    (((((((((4 + cost h.server 4) + cost h.ballot 4) + cost h.promise 4) + cost h.ran 4) + cost h.pieces 132) + cost h.set 32) + cost h.word 8) + cost h.prepared 52) + cost h.values 68)
unfolding body
body-window h =
    let w₁ = then_window u32-window (when_window 0 h.server u32-window) in
    let w₂ = then_window w₁ (when_window 0 h.ballot u32-window) in
    let w₃ = then_window w₂ (when_window 0 h.promise u32-window) in
    let w₄ = then_window w₃ (when_window 0 h.ran u32-window) in
    let w₅ = then_window w₄ (when_window no_pieces h.pieces pieces-window) in
    let w₆ = then_window w₅ (when_window no_set h.set set-window) in
    let w₇ = then_window w₆ (when_window 0 h.word u64-window) in
    let w₈ = then_window w₇ (when_window (no_word, no_vote) h.prepared (then_window word-window vote-window)) in
    then_window w₈ (when_window no_values h.values values-window)

bytes-window : Windowed bytes 176
unfolding bytes code
bytes-window =
    as_window with_body bytes (λ s c. refl)
    (by_window code (λ k. body (shape_of k)) {w = 4} {v = 172} (only-window 0 known u32-window)
    (λ s c. let k = (code.get s c).v in wider (omega (arith, most_small k)) (body-window (shape_of k))))

-- whether bytes are left shows in the window
left_window : (s : List ℕ) (n a : ℕ) → a ≤ n → leb (length s) a ≡ leb (length (take (n + 1) s)) a
left_window s n a h = go (dec_le (length s) (n + 1))
  where
    go : Dec (length s ≤ n + 1) → leb (length s) a ≡ leb (length (take (n + 1) s)) a
    go (yes k) = ap (λ (l : List ℕ). leb (length l) a) (sym (take_all (n + 1) s k))
    go (no k) = lt-leb (length s) a (omega (arith, k)) ∙ sym (lt-leb (length (take (n + 1) s)) a (omega (arith, k, length-take (n + 1) s)))

pub window : (s : List ℕ) → decode s ≡ decode (take 177 s)
unfolding decode ended
window s =
    let g = bytes.get s at_front in
    let a = bytes-window.near s at_front in
    ap (λ (b : Bool). decoded_as g.v (judged b 11 g.next)) (left_window s 176 g.next.at (omega arith))
    ∙ ap (λ (x : Got Message). decoded_as x.v (judged (leb (length (take 177 s)) x.next.at) 11 x.next)) (bytes-window.same s at_front 177 (omega arith))
