-- Rule 3 in plain words, both ways: a word is bad exactly if its own number is in it, or the number does not touch its shard and the word is not 0; a set is bad exactly if one of its four words is.
-- Assumes nothing.
use Prim.Native.Nat.{ℕ, ◌≤◌}
use mathlib.Core.Path.{◌≡◌, refl}
use mathlib.Core.Bool.{true, false, not, ◌&&◌}
use mathlib.Core.Logic.{◌↔◌, ◌⊎◌, inl, inr, ⊎_elim}
use native.Mathlib.Omega.{arith}
use lib.Dec.{eqb}
use borrow.Author.Tests.{eqb-false, ne_eqb}
use Rattle.masks.specs.Bits.{has, In}
use Rattle.masks.proofs.Bools.{and_yes-l, and_yes_r, or_yes, or_yes-l, or_yes_r, not_yes}
use Rattle.masks.proofs.Laws.{has_in, in_has, not_has, has_not}
use Rattle.masks.proofs.FoldLaws.{any_at, any_of}
use Rattle.rules.specs.declared.Set.{Set}
use Rattle.rules.specs.Cluster.{SHARDS}
use Rattle.rules.specs.Sets.{word, bad_word, bad_word_at, bad_set}
use Rattle.rules.proofs.SetLaws.{word_kept, kept_word, set-kept, kept_set}

-- the words of a set, of shards 0 to 3
pub words : (v : Set) → (word v 0 ≡ v.w0) × (word v 1 ≡ v.w1) × (word v 2 ≡ v.w2) × (word v 3 ≡ v.w3)
unfolding word
words v = (refl, refl, refl, refl)

module _ (t touched : ℕ) where
  -- a word w of shard k, of the number t that touches these shards
  abbrev pub Broken : (k w : ℕ) → Type 0
  Broken k w = In w t ⊎ ((In touched k → ⊥) × (w ≡ 0 → ⊥))

  pub word-bad : (k w : ℕ) → (bad_word t touched k w ≡ true) ↔ Broken k w
  unfolding bad_word
  word-bad k w = (
    λ e. ⊎_elim (λ own. inl (has_in own)) (λ r. inr (has_not (not_yes (has touched k) (and_yes-l (not (has touched k)) (not (eqb w 0)) r)), eqb-false w 0 (not_yes (eqb w 0) (and_yes_r (not (has touched k)) (not (eqb w 0)) r)))) (or_yes (has w t) (not (has touched k) && not (eqb w 0)) e),
    λ h. ⊎_elim (λ own. or_yes-l (has w t) (not (has touched k) && not (eqb w 0)) (in_has own)) (λ r. or_yes_r (has w t) (not (has touched k) && not (eqb w 0)) (rw (not_has r.0, ne_eqb w 0 r.1))) h,
  )

  -- and good
  pub word_good : (k w : ℕ) → (bad_word t touched k w ≡ false) ↔ ((In w t → ⊥) × ((In touched k → ⊥) → w ≡ 0))
  word_good k w = (
    λ e. let h = word_kept t touched k w e in (has_not h.own, λ u. h.untouched (not_has u)),
    λ h. kept_word t touched k w (record { own = not_has h.0; untouched = λ u. h.1 (has_not u) }),
  )

  pub set-bad : (v : Set) → (bad_set t touched v ≡ true) ↔ ((k : ℕ) × (k ≤ 3) × Broken k (word v k))
  unfolding bad_set bad_word_at
  set-bad v = (
    λ e. let f = any_at (bad_word_at t touched v) SHARDS e in (f.0, omega (arith, f.1), (word-bad f.0 (word v f.0)).0 f.2),
    λ h. any_of (bad_word_at t touched v) SHARDS h.0 (omega (arith, h.1)) ((word-bad h.0 (word v h.0)).1 h.2),
  )

  -- what a good set is
  abbrev pub KeptSet : Set → Type 0
  KeptSet v = (k : ℕ) → k ≤ 3 → (In (word v k) t → ⊥) × ((In touched k → ⊥) → word v k ≡ 0)

  pub set-good : (v : Set) → (bad_set t touched v ≡ false) ↔ KeptSet v
  set-good v = (
    λ e k l. let h = set-kept t touched v e k (omega arith) in (has_not h.own, λ u. h.untouched (not_has u)),
    λ h. kept_set t touched v (λ k l. let g = h k (omega arith) in record { own = not_has g.0; untouched = λ u. g.1 (has_not u) }),
  )
