-- A log that gets one number more at its end, and what is in a log without repeats. Assumes nothing.
use mathlib.Core.Path.{◌≡◌, refl, sym, ◌∙◌, ap, subst}
use mathlib.Core.Bool.{false, cond}
use Prim.Native.Nat.{ℕ, zero, suc, ◌+◌, ◌≤◌, ◌<◌}
use native.Mathlib.Omega.{arith}
use native.Mathlib.Decide.{ℕ_discrete}
use native.Mathlib.Numerals.{add-one}
use borrow.Author.Tests.{le-leb}
use lib.Dec.{leb}
use lib.ListN.{length, set, take}
use lib.Seq.{get_or-set_same, get_or-set_other, take-suc-set}
use mathlib.Core.List.{[], ◌∷◌, ◌++◌}
use Rattle.masks.specs.Bits.{has, insert}
use Rattle.masks.specs.Folds.{iter, size}
use Rattle.masks.proofs.Laws.{has_not}
use Rattle.masks.proofs.Counts.{size_le, size_none, size-insert}
use Rattle.server.specs.declared.Log.{Log}
use Rattle.server.specs.Held.{entry_at, append}
use Rattle.server.specs.Form.{noted, logged}

-- the entries are numbers, and none stands twice
pub record Lined (l : Log) : Type 0 where
  pub small : (i : ℕ) → i < l.count → entry_at l i ≤ 63
  pub new : (i : ℕ) → i < l.count → has (logged l i) (entry_at l i) ≡ false

-- the whole log as a word
abbrev pub log_word : Log → ℕ
log_word l = logged l l.count

-- one more entry
pub logged_more : (l : Log) (n : ℕ) → entry_at l n ≤ 63 → logged l (suc n) ≡ insert (logged l n) (entry_at l n)
unfolding logged noted iter
logged_more l n h = rw (le-leb (entry_at l n) 63 h)

-- a log without repeats has as many numbers as entries
size_upto : (l : Log) → Lined l → (n : ℕ) → n ≤ l.count → size (logged l n) ≡ n
size_upto l f zero h = unfold logged iter in size_none
size_upto l f (suc n) h =
    ap size (logged_more l n (f.small n (omega arith)))
    ∙ size-insert (logged l n) (entry_at l n) (let q = f.small n (omega arith) in omega arith) (has_not (f.new n (omega arith)))
    ∙ (let ih = size_upto l f n (omega arith) in omega arith)

pub lined-size : (l : Log) → Lined l → size (log_word l) ≡ l.count
lined-size l f = size_upto l f l.count (omega arith)

pub lined-count : (l : Log) → Lined l → l.count ≤ 64
lined-count l f = let a = lined-size l f in let b = size_le (log_word l) in omega arith

-- and room where a number is not in it
pub lined-room : (l : Log) → Lined l → (t : ℕ) → t < 64 → has (log_word l) t ≡ false → l.count < 64
lined-room l f t h n =
    let a = lined-size l f in
    let b = size-insert (log_word l) t h (has_not n) in
    let c = size_le (insert (log_word l) t) in
    omega arith

-- ---- one number more

module _ (l : Log) (t : ℕ) (room : l.count < length l.list) where
  pub append-old : (i : ℕ) → i < l.count → entry_at (append l t) i ≡ entry_at l i
  append-old i h = get_or-set_other l.list l.count i t 0 (λ e. omega arith)

  pub append-new : entry_at (append l t) l.count ≡ t
  append-new = get_or-set_same l.list l.count t 0 room

  pub logged-old : (n : ℕ) → n ≤ l.count → logged (append l t) n ≡ logged l n
  unfolding logged noted iter
  logged-old zero h = refl
  logged-old (suc n) h =
      ap (λ (e : ℕ). cond (leb e 63) (insert (logged (append l t) n) e) (logged (append l t) n)) (append-old n (omega arith))
      ∙ ap (λ (w : ℕ). cond (leb (entry_at l n) 63) (insert w (entry_at l n)) w) (logged-old n (omega arith))

  pub logged-all : t ≤ 63 → log_word (append l t) ≡ insert (log_word l) t
  logged-all h =
      ap (logged (append l t)) (add-one l.count)
      ∙ logged_more (append l t) l.count (let e = append-new in omega arith)
      ∙ ap (insert (logged (append l t) l.count)) append-new
      ∙ ap (λ (w : ℕ). insert w t) (logged-old l.count (omega arith))

  pub append-lined : Lined l → t ≤ 63 → has (log_word l) t ≡ false → Lined (append l t)
  append-lined f h n = record { small = λ i q. small i q (ℕ_discrete i l.count); new = λ i q. new i q (ℕ_discrete i l.count) }
    where
      small : (i : ℕ) → i < l.count + 1 → Dec (i ≡ l.count) → entry_at (append l t) i ≤ 63
      small i q (yes e) = subst (λ i. entry_at (append l t) i ≤ 63) (sym e) (let z = append-new in omega arith)
      small i q (no e) = let z = append-old i (omega arith) in let s = f.small i (omega arith) in omega arith

      new : (i : ℕ) → i < l.count + 1 → Dec (i ≡ l.count) → has (logged (append l t) i) (entry_at (append l t) i) ≡ false
      new i q (yes e) = subst (λ i. has (logged (append l t) i) (entry_at (append l t) i) ≡ false) (sym e)
          (ap (λ (x : ℕ). has (logged (append l t) l.count) x) append-new ∙ ap (λ (w : ℕ). has w t) (logged-old l.count (omega arith)) ∙ n)
      new i q (no e) =
          ap (λ (x : ℕ). has (logged (append l t) i) x) (append-old i (omega arith)) ∙ ap (λ (w : ℕ). has w (entry_at l i)) (logged-old i (omega arith)) ∙ f.new i (omega arith)

  -- as a list
  pub append-list : take (append l t).count (append l t).list ≡ take l.count l.list ++ (t ∷ [])
  append-list = ap (λ (n : ℕ). take n (set l.list l.count t)) (add-one l.count) ∙ take-suc-set l.list l.count t room
