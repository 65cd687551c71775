-- A transaction's results: one for each of its pieces on the shard.
-- Assumes nothing.
use mathlib.Core.Path.{◌≡◌, refl, ap, ◌∙◌}
use mathlib.Core.Bool.{Bool, true, false, cond}
use Prim.Native.Nat.{ℕ, zero, suc, ◌+◌}
use Rattle.masks.specs.Folds.{iter, count_below}
use Rattle.rules.specs.declared.Pieces.{Pieces}
use Rattle.rules.specs.Pieces.{piece_at, on_shard, pieces_on}
use Rattle.rules.specs.Values.{no_values}
use Rattle.counters.specs.declared.Counters.{Counters}
use Rattle.counters.specs.declared.Executed.{Executed}
use Rattle.counters.specs.Effects.{run_piece, run_entry, execute}

module _ (ps : Pieces) (k : ℕ) where
  -- one more where the piece is on the shard
  pub entry-counts : (i : ℕ) (e : Executed) → (run_entry ps k i e).values.count ≡ cond (on_shard ps k i) (e.values.count + 1) e.values.count
  unfolding run_entry run_piece
  entry-counts i e = go (on_shard ps k i)
    where
      go : (b : Bool) → (cond b (run_piece (piece_at ps i) e) e).values.count ≡ cond b (e.values.count + 1) e.values.count
      go true = refl
      go false = refl

  pub count-after : (n : ℕ) (e : Executed) → e.values.count ≡ 0 → (iter (run_entry ps k) e n).values.count ≡ count_below (on_shard ps k) n
  unfolding iter count_below
  count-after zero e z = z
  count-after (suc n) e z =
      entry-counts n (iter (run_entry ps k) e n) ∙ ap (λ (m : ℕ). cond (on_shard ps k n) (m + 1) m) (count-after n e z)

  -- as many results as pieces on the shard
  pub results-count : (c : Counters) → (execute ps k c).values.count ≡ pieces_on ps k
  unfolding execute pieces_on
  results-count c = count-after 8 (record { counters = c; values = no_values }) refl
