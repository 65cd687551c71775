-- A transaction's pieces run one after the other, each storing in place: what the stores of one piece make is its run, and the pieces that are not walked do nothing.
-- Assumes nothing.
use mathlib.Core.Path.{◌≡◌, refl, sym, ap, ◌∙◌}
use mathlib.Core.Bool.{Bool, true, false, cond, ◌&&◌}
use Prim.Native.Nat.{ℕ, zero, suc, ◌+◌, ◌-◌, ◌<◌, ◌≤◌}
use native.Mathlib.Omega.{arith}
use borrow.Author.Tests.{le-ltb, ltb-true, ltb-false}
use lib.Dec.{ltb, eqb}
use lib.ListN.{length, get_or, get_or-eq_default}
use lib.Seq.{set_out, set-get_or}
use Rattle.masks.specs.Folds.{iter}
use Rattle.rules.specs.declared.Piece.{Piece}
use Rattle.rules.specs.declared.Pieces.{Pieces}
use Rattle.rules.specs.Cluster.{KEYS}
use Rattle.rules.specs.Pieces.{piece_at, used, on_shard}
use Rattle.rules.proofs.OnePass.{used_le, used-counted, on_counted}
use Rattle.rules.specs.Values.{with_value}
use Rattle.counters.specs.declared.Counters.{Counters}
use Rattle.counters.specs.declared.Outcome.{Outcome}
use Rattle.counters.specs.declared.Executed.{Executed}
use Rattle.counters.specs.Effects.{zeroed, counter_at, with_counter, effect, run_piece, run_entry, execute}
use Rattle.counters.specs.InPlace.{place_of, run_at}
use Rattle.counters.proofs.PerKey.{begun}

-- ---- the bounds that the code asks for

pub place_lt : (key r : ℕ) → r ≡ place_of key → r < 16
unfolding place_of
place_lt key r e = rw e (go (ltb key KEYS) refl)
  where
    go : (b : Bool) → ltb key KEYS ≡ b → cond b key 0 < 16
    go true q = ltb-true key 16 q
    go false q = omega arith

pub used-few : (count r : ℕ) → r ≡ used count → (r ≤ 8) × (r ≤ count)
used-few count r e = rw e (used_le count, used-counted count)

-- ---- one piece

-- the stores of a piece, at a place of the counters
stores : ℕ → Piece → Executed → Executed
stores at p e = let x = run_at p (get_or e.counters.list at zeroed) in record { counters = with_counter e.counters at x.counter; values = with_value e.values x.result }

stores_run : (p : Piece) (e : Executed) → length e.counters.list ≡ 16 → stores (place_of p.key) p e ≡ run_piece p e
unfolding stores place_of run_at run_piece
stores_run p e long = go (ltb p.key KEYS) refl
  where
    past : 16 ≤ p.key → counter_at e.counters p.key ≡ zeroed
    past h = get_or-eq_default e.counters.list zeroed (omega (arith, long))

    -- the same, where the key is known or is not
    by : Bool → Executed
    by b =
        let there = get_or e.counters.list (cond b p.key 0) zeroed in
        let x = effect p.kind p.operand (cond b there zeroed) in
        record { counters = with_counter e.counters (cond b p.key 0) (cond b x.counter there); values = with_value e.values x.result }

    go : (b : Bool) → ltb p.key KEYS ≡ b → by b ≡ run_piece p e
    go true q = refl
    go false q =
        let h = ltb-false p.key 16 q in
        let out : length e.counters.list ≤ p.key = omega arith in
        rw (set-get_or, past h) (rw (set_out e.counters.list p.key) refl)

module _ (ps : Pieces) (k : ℕ) where
  past-on : (i : ℕ) → ps.count ≤ i → on_shard ps k i ≡ false
  unfolding on_shard
  past-on i h = ap (λ (b : Bool). b && eqb (piece_at ps i).shard k) (le-ltb i ps.count h)

  entry-on : (i : ℕ) (e : Executed) → on_shard ps k i ≡ true → run_piece (piece_at ps i) e ≡ run_entry ps k i e
  unfolding run_entry
  entry-on i e q = sym (ap (λ (b : Bool). cond b (run_piece (piece_at ps i) e) e) q)

  entry-off : (i : ℕ) (e : Executed) → on_shard ps k i ≡ false → e ≡ run_entry ps k i e
  unfolding run_entry
  entry-off i e q = sym (ap (λ (b : Bool). cond b (run_piece (piece_at ps i) e) e) q)

  -- a piece that is walked, on the shard or not
  module _ (i : ℕ) (counted : i < ps.count) (e : Executed) where
    pub stored : length e.counters.list ≡ 16 → eqb (piece_at ps i).shard k ≡ true
        → (at : ℕ) → at ≡ place_of (piece_at ps i).key
        → (x : Outcome) → x ≡ run_at (piece_at ps i) (get_or e.counters.list at zeroed)
        → record { counters = with_counter e.counters at x.counter; values = with_value e.values x.result } ≡ run_entry ps k i e
    unfolding stores
    stored long here at p x s = rw (s, p) (stores_run (piece_at ps i) e long ∙ entry-on i e (on_counted ps k i counted ∙ here))

    pub passed : eqb (piece_at ps i).shard k ≡ false → e ≡ run_entry ps k i e
    passed off = entry-off i e (on_counted ps k i counted ∙ off)

  -- ---- the pieces that are not walked

  past-still : (e : Executed) (m : ℕ) → iter (run_entry ps k) e (ps.count + m) ≡ iter (run_entry ps k) e ps.count
  unfolding iter
  past-still e zero = let q : ps.count + 0 ≡ ps.count = omega arith in ap (iter (run_entry ps k) e) q
  past-still e (suc m) =
      let q : ps.count + suc m ≡ suc (ps.count + m) = omega arith in
      ap (iter (run_entry ps k) e) q
      ∙ sym (entry-off (ps.count + m) (iter (run_entry ps k) e (ps.count + m)) (past-on (ps.count + m) (omega arith)))
      ∙ past-still e m

  pub used_all : (c : Counters) → iter (run_entry ps k) (begun c) (used ps.count) ≡ execute ps k c
  unfolding used execute
  used_all c = go (ltb ps.count 8) refl
    where
      go : (b : Bool) → ltb ps.count 8 ≡ b → iter (run_entry ps k) (begun c) (cond b ps.count 8) ≡ iter (run_entry ps k) (begun c) 8
      go true q =
          let h = ltb-true ps.count 8 q in
          let n : ps.count + (8 - ps.count) ≡ 8 = omega arith in
          sym (past-still (begun c) (8 - ps.count)) ∙ ap (iter (run_entry ps k) (begun c)) n
      go false q = refl
