-- What code that reads in a row shows: each reader's value and cursor are its format's, and so are those of the readers together.
use Rattle.std.specs.Prelude.{◌≡◌, refl, Bool, true, false, List, ℕ, ◌+◌, ◌*◌, ◌≤◌, length, take, drop}
use Rattle.std.proofs.Common.{sym, ap, ◌∙◌, arith, leb-true}
use Rattle.xdr.specs.Word.{value}
use Rattle.xdr.specs.Read.{Got, got32-read, got64}
use Rattle.xdr.specs.Form.{Form, u32, u64, then_by, ◌then◌, when, only-passes, bit, count}
use Rattle.xdr.specs.declared.Cursor.{Cursor}

-- a reader's contract: it gave a, and stands at k then
pub record Reads {A : Type 0} (F : Form A) (s : List ℕ) (c : Cursor) (a : A) (k : Cursor) : Type 0 where
  pub value : a ≡ (F.get s c).v
  pub next : k ≡ (F.get s c).next

pub reads_by : {A B : Type 0} {F : Form A} (G : A → Form B) {s : List ℕ} {c : Cursor} {a : A} {k : Cursor} {b : B} {l : Cursor}
    → Reads F s c a k → Reads (G a) s k b l → Reads (then_by F G) s c (a, b) l
reads_by {F = F} G {s} {c} {a} {k} {b} {l} p q =
    let e : ◌≡◌ {A = Got _} (record { v = a; next = k }) (F.get s c) = λ i. record { v = p.value i; next = p.next i } in
    record {
      value = (λ i. (a, q.value i)) ∙ ap (λ (g : Got _). (g.v, ((G g.v).get s g.next).v)) e;
      next = q.next ∙ ap (λ (g : Got _). ((G g.v).get s g.next).next) e;
    }

pub reads_then : {A B : Type 0} {F : Form A} {G : Form B} {s : List ℕ} {c : Cursor} {a : A} {k : Cursor} {b : B} {l : Cursor}
    → Reads F s c a k → Reads G s k b l → Reads (F then G) s c (a, b) l
reads_then {G = G} p q = reads_by (λ _. G) p q

-- what a reader gave is its format's, as one equation
pub reads_got : {A : Type 0} (F : Form A) (s : List ℕ) (c : Cursor) {a : A} {k : Cursor} → F.get s c ≡ record { v = a; next = k } → Reads F s c a k
reads_got F s c e = record { value = ap (λ (g : Got _). g.v) (sym e); next = ap (λ (g : Got _). g.next) (sym e) }

-- a place that was reached without a fault
abbrev pub clean : ℕ → Cursor
clean at = record { at = at; fault = 0 }

-- what stands at a place, where enough bytes are left
pub word_read : (s : List ℕ) (at : ℕ) {v : ℕ} → at + 4 ≤ length s → v ≡ value (take 4 (drop at s)) → Reads u32 s (clean at) v (clean (at + 4))
word_read s at h e = rw e (reads_got u32 s (clean at) (got32-read s (clean at) refl h))

pub hyper_read : (s : List ℕ) (at : ℕ) {v : ℕ} → at + 8 ≤ length s → v ≡ value (take 4 (drop at s)) * 4294967296 + value (take 4 (drop (at + 4) s)) → Reads u64 s (clean at) v (clean (at + 8))
unfolding got64
hyper_read s at h e =
    let p = got32-read s (clean at) refl (omega arith) in
    let q = got32-read s (clean (at + 4)) refl (omega arith) in
    let eight : at + 4 + 4 ≡ at + 8 = omega arith in
    rw e (reads_got u64 s (clean at) (rw (p, q, eight)))

-- what a flag that is known lets read, or not
pub reads_when : {A : Type 0} (d : A) {F : Form A} {b : Bool} {s : List ℕ} {c : Cursor} {a : A} {k : Cursor} → b ≡ true → Reads F s c a k → Reads (when d F b) s c a k
reads_when d e p = rw e (record { value = p.value; next = p.next })

pub reads_none : {A : Type 0} (d : A) (F : Form A) {b : Bool} (s : List ℕ) (c : Cursor) → b ≡ false → Reads (when d F b) s c d c
reads_none d F s c e = rw e (record { value = refl; next = refl })

-- a count that was read is at most 8: where it was not, it is 0
pub count_small : {s : List ℕ} {c : Cursor} {n : ℕ} {k : Cursor} → Reads count s c n k → n ≤ 8
count_small {s} {c} p = leb-true _ 8 (rw p.value (only-passes 0 (bit 8) u32 refl s c))
