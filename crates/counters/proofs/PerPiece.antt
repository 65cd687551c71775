-- What each piece of a transaction that keeps rule 2 does: it alone takes effect on its counter, and its result, which stands after those of the pieces
-- before it on the shard, is what it gives on the counter as the transaction found it.
-- Assumes nothing.
use mathlib.Core.Path.{◌≡◌, refl, sym, ap, ◌∙◌, subst}
use mathlib.Core.Bool.{Bool, true, false, cond, ◌&&◌}
use Prim.Native.Nat.{ℕ, zero, suc, ◌+◌, ◌<◌}
use native.Mathlib.Decide.{ℕ_discrete}
use native.Mathlib.Omega.{arith}
use borrow.Author.Tests.{eq-eqb, eqb-true}
use lib.Dec.{eqb}
use lib.ListN.{length, get_or, length-set}
use lib.Seq.{get_or-set_same, get_or-set_other}
use Rattle.masks.specs.Folds.{iter, count_below}
use Rattle.masks.proofs.Bools.{and_yes-l, and_yes_r}
use Rattle.masks.proofs.FoldLaws.{iter_keeps}
use Rattle.masks.proofs.Counts.{count_le}
use Rattle.rules.specs.declared.Piece.{Piece}
use Rattle.rules.specs.declared.Pieces.{Pieces}
use Rattle.rules.specs.declared.Value.{Value}
use Rattle.rules.specs.declared.Values.{Values}
use Rattle.rules.specs.Pieces.{piece_at, on_shard, On}
use Rattle.rules.specs.Values.{no_value}
use Rattle.rules.proofs.ConflictIs.{on-is, is-on}
use Rattle.rules.proofs.PiecesKept.{Kept, kept_apart}
use Rattle.counters.specs.declared.Counter.{Counter}
use Rattle.counters.specs.declared.Counters.{Counters}
use Rattle.counters.specs.declared.Executed.{Executed}
use Rattle.counters.specs.Effects.{counter_at, effect, run_entry, execute}
use Rattle.counters.proofs.Results.{count-after}
use Rattle.counters.proofs.PerKey.{begun, key_entry, key_effect, entry-values, key-after, value_given}

-- one turn changes something
iter-once : {A : Type 0} (f : ℕ → A → A) (a : A) (n i : ℕ) → i < n → ((j : ℕ) (x : A) → j < n → (j ≡ i → ⊥) → f j x ≡ x) → iter f a n ≡ f i a
unfolding iter
iter-once f a zero i h o = absurd (omega (arith, h))
iter-once {A} f a (suc n) i h o = go (ℕ_discrete i n) (λ l. iter-once f a n i l (λ j x m. o j x (omega (arith, m))))
  where
    none : i ≡ n → iter f a n ≡ a
    none e = iter_keeps (λ (x : A). x ≡ a) f a n refl (λ j x l p. o j x (omega (arith, l)) (λ q. omega (arith, l, q, e)) ∙ p)

    go : Dec (i ≡ n) → (i < n → iter f a n ≡ f i a) → f n (iter f a n) ≡ f i a
    go (yes e) r = ap (f n) (none e) ∙ ap (λ (m : ℕ). f m a) (sym e)
    go (no d) r = o n (iter f a n) (omega arith) (λ q. d (sym q)) ∙ r (omega (arith, d))

-- more are counted after a number that is
pub counted_less : (f : ℕ → Bool) (i n : ℕ) → i < n → f i ≡ true → count_below f i < count_below f n
unfolding count_below
counted_less f i zero h e = absurd (omega (arith, h))
counted_less f i (suc n) h e = go (ℕ_discrete i n) (λ l. counted_less f i n l e)
  where
    up : (b : Bool) → count_below f i < count_below f n → count_below f i < cond b (count_below f n + 1) (count_below f n)
    up true l = omega arith
    up false l = l

    go : Dec (i ≡ n) → (i < n → count_below f i < count_below f n) → count_below f i < cond (f n) (count_below f n + 1) (count_below f n)
    go (yes q) r = rw (← q, e) (omega arith)
    go (no d) r = up (f n) (r (omega (arith, d)))

module _ (ps : Pieces) (k : ℕ) (kept : Kept ps) {i : ℕ} (o : On ps k i) where
  -- another piece leaves the counter of this one
  other-leaves : (j : ℕ) (v : Counter) → j < 8 → (j ≡ i → ⊥) → key_entry ps k (piece_at ps i).key j v ≡ v
  unfolding key_entry
  other-leaves j v l n = go (on_shard ps k j && eqb (piece_at ps j).key (piece_at ps i).key) refl
    where
      go : (b : Bool) → (on_shard ps k j && eqb (piece_at ps j).key (piece_at ps i).key) ≡ b
          → cond b (effect (piece_at ps j).kind (piece_at ps j).operand v).counter v ≡ v
      go true q =
          let p = on-is ps k j l (and_yes-l (on_shard ps k j) _ q) in
          absurd (n (kept_apart ps kept j i p.counted o.counted (p.shard ∙ sym o.shard) (eqb-true _ _ (and_yes_r (on_shard ps k j) _ q))))
      go false q = refl

  own-entry : (v : Counter) → key_entry ps k (piece_at ps i).key i v ≡ (effect (piece_at ps i).kind (piece_at ps i).operand v).counter
  unfolding key_entry
  own-entry v = rw (is-on ps k i o, eq-eqb (piece_at ps i).key (piece_at ps i).key refl)

  -- the counter of the piece's key, after the transaction
  pub one-effect : (v : Counter) → key_effect ps k (piece_at ps i).key v ≡ (effect (piece_at ps i).kind (piece_at ps i).operand v).counter
  unfolding key_effect
  one-effect v = iter-once (key_entry ps k (piece_at ps i).key) v 8 i o.below other-leaves ∙ own-entry v

  module _ (c : Counters) (here : (piece_at ps i).key < length c.list) where
    abbrev after : ℕ → Executed
    after n = iter (run_entry ps k) (begun c) n

    -- the counter is as the transaction found it until the piece runs
    unchanged : counter_at (after i).counters (piece_at ps i).key ≡ counter_at c (piece_at ps i).key
    unchanged =
        key-after ps k (piece_at ps i).key (begun c) i here
        ∙ iter_keeps (λ (v : Counter). v ≡ counter_at c (piece_at ps i).key) (key_entry ps k (piece_at ps i).key) (counter_at c (piece_at ps i).key) i refl
        (λ j v l p. other-leaves j v (omega (arith, l, o.below)) (λ q. omega (arith, l, q)) ∙ p)

    abbrev given : Value
    given = (effect (piece_at ps i).kind (piece_at ps i).operand (counter_at c (piece_at ps i).key)).result

    results-length : (n : ℕ) → length (after n).values.list ≡ 8
    results-length n = iter_keeps (λ (e : Executed). length e.values.list ≡ 8) (run_entry ps k) (begun c) n refl
        (λ j e l p. ap (λ (v : Values). length v.list) (entry-values ps k j e) ∙ go (on_shard ps k j) e (piece_at ps j) p)
      where
        go : (b : Bool) (e : Executed) (p : Piece) → length e.values.list ≡ 8 → length (cond b (value_given p e) e.values).list ≡ 8
        go true e p q = length-set e.values.list e.values.count _ ∙ q
        go false e p q = q

    -- where the result is put
    place : ℕ
    place = count_below (on_shard ps k) i

    -- the turn of the piece itself
    own_turn : get_or (run_entry ps k i (after i)).values.list place no_value ≡ given
    unfolding place
    own_turn =
        let count = count-after ps k i (begun c) refl in
        ap (λ (v : Values). get_or v.list place no_value) (entry-values ps k i (after i))
        ∙ ap (λ (b : Bool). get_or (cond b (value_given (piece_at ps i) (after i)) (after i).values).list place no_value) (is-on ps k i o)
        ∙ ap (λ (n : ℕ). get_or (value_given (piece_at ps i) (after i)).list n no_value) (sym count)
        ∙ get_or-set_same (after i).values.list (after i).values.count _ no_value
        (omega (arith, count, count_le (on_shard ps k) i, o.below, results-length i))
        ∙ ap (λ (a : Counter). (effect (piece_at ps i).kind (piece_at ps i).operand a).result) unchanged

    -- a later turn
    later-turn : (n : ℕ) → i < n → get_or (run_entry ps k n (after n)).values.list place no_value ≡ get_or (after n).values.list place no_value
    unfolding place
    later-turn n m = ap (λ (v : Values). get_or v.list place no_value) (entry-values ps k n (after n)) ∙ other (on_shard ps k n)
      where
        other : (b : Bool) → get_or (cond b (value_given (piece_at ps n) (after n)) (after n).values).list (count_below (on_shard ps k) i) no_value
            ≡ get_or (after n).values.list (count_below (on_shard ps k) i) no_value
        other true =
            get_or-set_other (after n).values.list (after n).values.count (count_below (on_shard ps k) i) _ no_value
            (λ q. omega (arith, q, count-after ps k n (begun c) refl, counted_less (on_shard ps k) i n m (is-on ps k i o)))
        other false = refl

    -- the result stands at its place once the piece has run, and stays there
    stands : (n : ℕ) → i < n → get_or (after n).values.list place no_value ≡ given
    unfolding iter
    stands zero l = absurd (omega (arith, l))
    stands (suc n) l = go (ℕ_discrete i n) (stands n)
      where
        go : Dec (i ≡ n) → (i < n → get_or (after n).values.list place no_value ≡ given)
            → get_or (run_entry ps k n (after n)).values.list place no_value ≡ given
        go (yes q) r = subst (λ (m : ℕ). get_or (run_entry ps k m (after m)).values.list place no_value ≡ given) q own_turn
        go (no d) r = later-turn n (omega (arith, d)) ∙ r (omega (arith, d))

    pub piece-result : get_or (execute ps k c).values.list (count_below (on_shard ps k) i) no_value
        ≡ (effect (piece_at ps i).kind (piece_at ps i).operand (counter_at c (piece_at ps i).key)).result
    unfolding execute place
    piece-result = stands 8 o.below
