-- The wanted set, both ways: a number is in word k exactly if it is not committed here and is in word k of the set of a committed number.
-- Assumes nothing; that no number above 63 is wanted is for sets whose words have 64 bits, as all have that code holds.
use mathlib.Core.Path.{◌≡◌, refl, sym, ap, ◌∙◌}
use mathlib.Core.Logic.{◌↔◌}
use mathlib.Core.Bool.{Bool, true, false, not, cond, ◌&&◌}
use Prim.Native.Nat.{ℕ, ◌^◌, ◌≤◌, ◌<◌}
use native.Mathlib.Omega.{arith}
use Rattle.masks.specs.Bits.{has, In}
use Rattle.masks.specs.Folds.{union_of}
use Rattle.masks.proofs.Bools.{and_yes, and_yes-l, and_yes_r, not_yes, not_true_false, true_and_false}
use Rattle.masks.proofs.Laws.{has_in, in_has, has-without, without_lt, in_lt, has-none}
use Rattle.masks.proofs.FoldLaws.{has_mask_below, mask_bound, in_unions, in_unions_of, unions_bound}
use Rattle.rules.specs.Sets.{word, set_of, no_set}
use Rattle.rules.proofs.SetLaws.{word_of}
use Rattle.wire.proofs.FaultsAre.{There, there_is}
use Rattle.server.specs.declared.Server.{Server}
use Rattle.server.specs.declared.Wants.{Wants}
use Rattle.server.specs.Held.{record_at, committed_at, committed_word}
use Rattle.server.specs.Form.{formed}
use Rattle.server.specs.Host.{committed_in, wanted_in, wanted}

-- u is committed here
abbrev pub Committed : Server → ℕ → Type 0
Committed s u = There (record_at s u).committed.some

-- a committed number has u in word k of its set
pub record Named (s : Server) (k u : ℕ) : Type 0 where
  pub by : ℕ
  pub number : by ≤ 63
  pub committed : Committed s by
  pub in_word : In (word (record_at s by).committed.set k) u

module _ (s : Server) (k u : ℕ) where
  named_by : (t : ℕ) → t < 64 → In (committed_in s k t) u → Named s k u
  unfolding committed_in
  named_by t l i = go (committed_at s t) refl i
    where
      go : (b : Bool) → committed_at s t ≡ b → In (cond b (word (record_at s t).committed.set k) 0) u → Named s k u
      go true e i = record { by = t; number = omega arith; committed = (there_is (record_at s t).committed.some).0 e; in_word = i }
      go false e i = absurd (true_and_false (in_has i) (has-none u))

  by-named : (n : Named s k u) → In (committed_in s k n.by) u
  unfolding committed_in
  by-named n = rw ((there_is (record_at s n.by).committed.some).1 n.committed) n.in_word

  committed-has : u ≤ 63 → has (committed_word s) u ≡ committed_at s u
  unfolding committed_word
  committed-has l = has_mask_below (committed_at s) 64 u (omega arith)

  committed_lt : committed_word s < 2 ^ 64
  unfolding committed_word
  committed_lt = mask_bound (committed_at s) 64

  abbrev named : ℕ
  named = union_of (committed_in s k) 64

  wanted-has : u ≤ 63 → has (wanted_in s k) u ≡ (has named u && not (committed_at s u))
  unfolding wanted_in
  wanted-has l = has-without named (committed_word s) u committed_lt (omega arith) ∙ ap (λ (b : Bool). has named u && not b) (committed-has l)

  wanted-in : u ≤ 63 → In (wanted_in s k) u ↔ ((Committed s u → ⊥) × Named s k u)
  wanted-in l = (
    λ i.
        let e = sym (wanted-has l) ∙ in_has i in
        let n = in_unions (committed_in s k) 64 u (has_in (and_yes-l (has named u) (not (committed_at s u)) e)) in
        (λ c. true_and_false ((there_is (record_at s u).committed.some).1 c) (not_yes (committed_at s u) (and_yes_r (has named u) (not (committed_at s u)) e)), named_by n.0 n.1 n.2),
    λ h.
        has_in (wanted-has l ∙ and_yes (has named u) (not (committed_at s u)) (in_has (in_unions_of (committed_in s k) 64 u h.1.by (omega (arith, h.1.number)) (by-named h.1))) (ap not (not_true_false (committed_at s u) (λ c. h.0 ((there_is (record_at s u).committed.some).0 c))))),
  )

-- the answer; where the server is not in form, the empty set
module _ (s : Server) where
  answers : (b : Bool) → formed s ≡ b → wanted s ≡ cond b (record { refusal = 0; set = set_of (wanted_in s) }) (record { refusal = 13; set = no_set })
  unfolding wanted
  answers b e = rw e

  pub wanted-refused : formed s ≡ false → (wanted s).set ≡ no_set
  wanted-refused f = ap (λ (w : Wants). w.set) (answers false f)

  module _ (f : formed s ≡ true) (k u : ℕ) (shard : k ≤ 3) where
    word-is : word (wanted s).set k ≡ wanted_in s k
    word-is = ap (λ (w : Wants). word w.set k) (answers true f) ∙ word_of (wanted_in s) k (omega arith)

    pub wanted-is : u ≤ 63 → In (word (wanted s).set k) u ↔ ((Committed s u → ⊥) × Named s k u)
    wanted-is l = (λ i. (wanted-in s k u l).0 (rw word-is at i), λ h. rw word-is ((wanted-in s k u l).1 h))

    -- and no others
    pub wanted-below : ((t : ℕ) → t ≤ 63 → word (record_at s t).committed.set k < 2 ^ 64) → In (word (wanted s).set k) u → u ≤ 63
    unfolding wanted_in committed_in
    wanted-below h i =
        let b = without_lt 64 (named s k u) (committed_word s) (unions_bound (committed_in s k) 64 64 (λ t l. small t l)) in
        let l = in_lt 64 b (rw word-is at i) in omega arith
      where
        small : (t : ℕ) → t < 64 → committed_in s k t < 2 ^ 64
        small t l = go (committed_at s t)
          where
            go : (b : Bool) → cond b (word (record_at s t).committed.set k) 0 < 2 ^ 64
            go true = h t (omega arith)
            go false = omega arith
