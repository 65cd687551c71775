-- What a reader gives depends on the bytes of a window alone, and it goes no further than the window: a law for each way that formats are put together.
-- Assumes nothing.
use mathlib.Core.Path.{◌≡◌, refl, sym, ap, ◌∙◌}
use mathlib.Core.Bool.{Bool, true, false, cond}
use mathlib.Core.List.{List, [], ◌∷◌}
use Prim.Native.Nat.{ℕ, zero, suc, ◌+◌, ◌*◌, ◌≤◌, min}
use native.Mathlib.Nat.{suc-mul, mul-le-mul_right}
use native.Mathlib.Decide.{ℕ_discrete, dec_le}
use native.Mathlib.Omega.{arith}
use lib.Dec.{eqb}
use lib.ListN.{length, take, drop, length-take}
use lib.Seq.{take-take}
use borrow.Author.Tests.{leb-true}
use Rattle.xdr.specs.Word.{value}
use Rattle.xdr.specs.Read.{Got, judged, got32, got64, got32-stay, got32-short, got32-read}
use Rattle.xdr.specs.Form.{Form, u32, u64, count, bit, then_by, ◌then◌, when, only, only-passes, many, many-get, rows, pad}
use Rattle.xdr.specs.declared.Cursor.{Cursor}

-- the reader of F looks at w bytes from its cursor at most
pub record Windowed {A : Type 0} (F : Form A) (w : ℕ) : Type 0 where
  pub same : (s : List ℕ) (c : Cursor) (n : ℕ) → c.at + w ≤ n → F.get s c ≡ F.get (take n s) c
  pub near : (s : List ℕ) (c : Cursor) → (F.get s c).next.at ≤ c.at + w

pub wider : {A : Type 0} {F : Form A} {w v : ℕ} → w ≤ v → Windowed F w → Windowed F v
wider h p =
    record {
      same = λ s c n k. p.same s c n (omega arith);
      near = λ s c. omega (arith, p.near s c);
    }

-- ---- four bytes

part-window : (k a n : ℕ) (s : List ℕ) → a + k ≤ n → take k (drop a (take n s)) ≡ take k (drop a s)
part-window k zero n s h = take-take k n s (omega arith)
part-window k (suc a) zero s h = absurd (omega arith)
part-window k (suc a) (suc n) [] h = refl
part-window k (suc a) (suc n) (x ∷ s) h = part-window k a n s (omega arith)

same32 : (s : List ℕ) (c : Cursor) (n : ℕ) → c.at + 4 ≤ n → got32 s c ≡ got32 (take n s) c
same32 s c n h = go (ℕ_discrete c.fault 0) (dec_le (c.at + 4) (length s))
  where
    l : length (take n s) ≡ min n (length s)
    l = length-take n s

    go : Dec (c.fault ≡ 0) → Dec (c.at + 4 ≤ length s) → got32 s c ≡ got32 (take n s) c
    go (no k) d = got32-stay s c k ∙ sym (got32-stay (take n s) c k)
    go (yes y) (no k) = got32-short s c y (omega (arith, k)) ∙ sym (got32-short (take n s) c y (omega (arith, k, l)))
    go (yes y) (yes k) =
        got32-read s c y k
        ∙ (λ i. record { v = value (sym (part-window 4 c.at n s h) i); next = record { at = c.at + 4; fault = 0 } })
        ∙ sym (got32-read (take n s) c y (omega (arith, l)))

near32 : (s : List ℕ) (c : Cursor) → (got32 s c).next.at ≤ c.at + 4
near32 s c = go (ℕ_discrete c.fault 0) (dec_le (c.at + 4) (length s))
  where
    go : Dec (c.fault ≡ 0) → Dec (c.at + 4 ≤ length s) → (got32 s c).next.at ≤ c.at + 4
    go (no k) d = rw (got32-stay s c k) (omega arith)
    go (yes y) (no k) = rw (got32-short s c y (omega (arith, k))) (omega arith)
    go (yes y) (yes k) = rw (got32-read s c y k) (omega arith)

pub u32-window : Windowed u32 4
u32-window = record { same = same32; near = near32 }

-- ---- one, and then another

pub by_window : {A B : Type 0} (F : Form A) (G : A → Form B) {w v : ℕ} → Windowed F w → ((s : List ℕ) (c : Cursor) → Windowed (G (F.get s c).v) v) → Windowed (then_by F G) (w + v)
by_window F G {w} {v} p q =
    record {
      same = λ s c n h.
          let a = F.get s c in
          let e = (q s c).same s a.next n (omega (arith, p.near s c)) in
          ap (λ (b : Got _). record { v = (a.v, b.v); next = b.next }) e
          ∙ ap (λ (a' : Got _). let b = (G a'.v).get (take n s) a'.next in record { v = (a'.v, b.v); next = b.next }) (p.same s c n (omega arith));
      near = λ s c. omega (arith, p.near s c, (q s c).near s (F.get s c).next);
    }

pub then_window : {A B : Type 0} {F : Form A} {G : Form B} {w v : ℕ} → Windowed F w → Windowed G v → Windowed (F then G) (w + v)
then_window {F = F} {G} p q = by_window F (λ _. G) p (λ s c. q)

pub u64-window : Windowed u64 8
unfolding got64
u64-window =
    let p = then_window u32-window u32-window in
    record {
      same = λ s c n h. ap (λ (g : Got (ℕ × ℕ)). record { v = g.v.0 * 4294967296 + g.v.1; next = g.next }) (p.same s c n h);
      near = p.near;
    }

-- ---- by a flag that is known: w bytes or none

abbrev pub cost : Bool → ℕ → ℕ
cost true n = n
cost false n = 0

pub when_window : {A : Type 0} (d : A) {F : Form A} {w : ℕ} (b : Bool) → Windowed F w → Windowed (when d F b) (cost b w)
when_window d true p = record { same = p.same; near = p.near }
when_window d false p = record { same = λ s c n h. refl; near = λ s c. omega arith }

-- ---- with a test, or for another type

judged_at : (ok : Bool) (n : ℕ) (c : Cursor) → (judged ok n c).at ≡ c.at
unfolding judged
judged_at ok n c = go (eqb c.fault 0) ok
  where
    go : (a b : Bool) → (cond a (cond b c (record { at = c.at; fault = n })) c).at ≡ c.at
    go true true = refl
    go true false = refl
    go false b = refl

pub only-window : {A : Type 0} (d : A) (p : A → Bool) {F : Form A} {w : ℕ} → Windowed F w → Windowed (only d p F) w
only-window d p {F} q =
    record {
      same = λ s c n h. ap (λ (g : Got _). record { v = cond (p g.v) g.v d; next = judged (p g.v) 12 g.next }) (q.same s c n h);
      near = λ s c. rw (judged_at (p (F.get s c).v) 12 (F.get s c).next) (q.near s c);
    }

-- a format that reads what F reads, for the values f of it
pub as_window : {A B : Type 0} {F : Form A} {w : ℕ} (f : A → B) (K : Form B) → ((s : List ℕ) (c : Cursor) → K.get s c ≡ record { v = f (F.get s c).v; next = (F.get s c).next }) → Windowed F w → Windowed K w
as_window {F = F} f K e p =
    record {
      same = λ s c n h. e s c ∙ ap (λ (g : Got _). record { v = f g.v; next = g.next }) (p.same s c n h) ∙ sym (e (take n s) c);
      near = λ s c. rw (e s c) (p.near s c);
    }

-- ---- n of one kind, and at most eight

pub many-window : {A : Type 0} (F : Form A) {w : ℕ} → Windowed F w → (n : ℕ) → Windowed (many F n) (n * w)
many-window F {w} p zero = record { same = λ s c n h. refl; near = λ s c. omega arith }
many-window F {w} p (suc k) =
    let r = many-window F p k in
    let e : suc k * w ≡ k * w + w = suc-mul k w in
    record {
      same = λ s c n h.
          let a = F.get s c in
          ap (λ (b : Got (List _)). record { v = a.v ∷ b.v; next = b.next }) (r.same s a.next n (omega (arith, p.near s c)))
          ∙ ap (λ (a' : Got _). let b = many-get F k (take n s) a'.next in record { v = a'.v ∷ b.v; next = b.next }) (p.same s c n (omega arith));
      near = λ s c. omega (arith, p.near s c, r.near s (F.get s c).next);
    }

pub count-window : Windowed count 4
count-window = only-window 0 (bit 8) u32-window

pub rows_window : {A : Type 0} (d : A) (F : Form A) {w : ℕ} → Windowed F w → Windowed (rows d F) (4 + 8 * w)
rows_window d F {w} p =
    as_window (pad d F) (rows d F) (λ s c. refl)
    (by_window count (many F) count-window
    (λ s c. wider (mul-le-mul_right w (leb-true _ 8 (only-passes 0 (bit 8) u32 refl s c))) (many-window F p (count.get s c).v)))
