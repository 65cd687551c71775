-- The pieces of a number, each on its counter in its place, are `execute`; and where a plan's numbers stand. Assumes nothing.
use Prim.Native.Nat.{ℕ, zero, suc, ◌+◌, ◌≤◌, ◌<◌}
use mathlib.Core.Path.{◌≡◌, refl, ap, ◌∙◌}
use mathlib.Core.Bool.{Bool, true, false, cond}
use mathlib.Core.Logic.{⊎_elim}
use native.Mathlib.Omega.{arith}
use lib.Dec.{ltb, eqb}
use borrow.Author.Tests.{ltb-true}
use mathlib.Core.List.{List, [], ◌∷◌}
use lib.ListN.{length, get_or, set}
use Rattle.masks.specs.Folds.{iter}
use Rattle.masks.proofs.Bools.{true_or_false}
use Rattle.rules.specs.declared.Pieces.{Pieces}
use Rattle.rules.specs.declared.Values.{Values}
use Rattle.rules.specs.Pieces.{piece_at, used}
use Rattle.rules.specs.Values.{no_values, with_value}
use Rattle.rules.proofs.OnePass.{used_le, used-counted}
use Rattle.counters.specs.declared.Counters.{Counters}
use Rattle.counters.specs.declared.Executed.{Executed}
use Rattle.counters.specs.Effects.{zeroed, with_counter, run_entry, execute}
use Rattle.counters.specs.InPlace.{place_of as place_in, run_at}
use Rattle.counters.proofs.InPlace as in_place
use Rattle.counters.proofs.PerKey.{begun, length-after}
use Rattle.server_plan.specs.declared.Plan.{Plan}
use Rattle.server.specs.declared.Log.{Log}
use Rattle.server.specs.declared.Record.{Record}
use Rattle.server.specs.declared.Server.{Server}
use Rattle.server.specs.Held.{no_record, record_at, put_record}
use Rattle.server_lent.specs.Listed.{piece_turn, ran_pieces, with_counters, spot_of, listed_at, ran_listed, few_of}

-- ---- the pieces of a number

module _ (ps : Pieces) (k : ℕ) where
  -- one piece that is walked, on the shard or not
  one-turn : (i : ℕ) (e : Executed) → i < ps.count → length e.counters.list ≡ 16 → piece_turn ps k i e ≡ run_entry ps k i e
  one-turn i e counted long = go (eqb (piece_at ps i).shard k) refl
    where
      at : ℕ
      at = place_in (piece_at ps i).key

      go : (b : Bool) → eqb (piece_at ps i).shard k ≡ b
          → cond b (let x = run_at (piece_at ps i) (get_or e.counters.list at zeroed) in record { counters = with_counter e.counters at x.counter; values = with_value e.values x.result }) e ≡ run_entry ps k i e
      go true q = in_place.stored ps k i counted e long q at refl _ refl
      go false q = in_place.passed ps k i counted e q

  module _ (c : Counters) (long : length c.list ≡ 16) where
    walked : (n : ℕ) → n ≤ 8 → n ≤ ps.count → ran_pieces ps k c n ≡ iter (run_entry ps k) (begun c) n
    unfolding ran_pieces iter
    walked zero l m = refl
    walked (suc n) l m =
        ap (piece_turn ps k n) (walked n (omega (arith, l)) (omega (arith, m)))
        ∙ one-turn n (iter (run_entry ps k) (begun c) n) (omega (arith, m)) (length-after ps k (begun c) n ∙ long)

    pub pieces-run : ran_pieces ps k c (used ps.count) ≡ execute ps k c
    pieces-run = walked (used ps.count) (used_le ps.count) (used-counted ps.count) ∙ in_place.used_all ps k c

-- as many results as pieces of the shard, and no more than pieces that were walked
pub results_few : (ps : Pieces) (k : ℕ) (c : Counters) (n : ℕ) → (ran_pieces ps k c n).values.count ≤ n
unfolding ran_pieces iter
results_few ps k c zero = omega arith
results_few ps k c (suc n) = go (eqb (piece_at ps n).shard k) (results_few ps k c n)
  where
    e : Executed
    e = iter (piece_turn ps k) (record { counters = c; values = no_values }) n

    at : ℕ
    at = place_in (piece_at ps n).key

    go : (b : Bool) → e.values.count ≤ n
        → (cond b (let x = run_at (piece_at ps n) (get_or e.counters.list at zeroed) in record { counters = with_counter e.counters at x.counter; values = with_value e.values x.result }) e).values.count ≤ suc n
    go true h = omega (arith, h)
    go false h = omega (arith, h)

pub spot_lt : (first t : ℕ) → spot_of first t < 64
unfolding spot_of
spot_lt first t = ⊎_elim (λ h. rw h (ltb-true (first + t) 64 h)) (λ h. rw h (omega arith)) (true_or_false (ltb (first + t) 64))

pub few_all : (many : ℕ) → many ≤ 64 → few_of many ≡ many
unfolding few_of
few_all many l = omega arith

-- a store where one was made just before
twice : {A : Type 0} (xs : List A) (k : ℕ) (y d : A) (f : A → A) → set (set xs k y) k (f (get_or (set xs k y) k d)) ≡ set xs k (f y)
twice [] k y d f = refl
twice (x ∷ xs) zero y d f = refl
twice {A} (x ∷ xs) (suc k) y d f = ap {B = List A} (λ l. x ∷ l) (twice xs k y d f)

abbrev valued : Values → Record → Record
valued v x = record { pieces = x.pieces; promise = x.promise; arrival = x.arrival; accepted = x.accepted; committed = x.committed; ran = x.ran; values = v }

abbrev marked : Record → Record
marked x = record { pieces = x.pieces; promise = x.promise; arrival = x.arrival; accepted = x.accepted; committed = x.committed; ran = 1; values = x.values }

module _ (s : Server) (p : Plan) (l : Log) (many i : ℕ) where
  abbrev before : Server
  before = ran_listed p l s i

  abbrev x : Record
  x = record_at before (listed_at p l i)

  abbrev o : Executed
  o = ran_pieces x.pieces p.shard before.counters (used x.pieces.count)

  abbrev with_values : Server
  with_values = put_record (with_counters before o.counters) (listed_at p l i) (valued o.values x)

  pub run-listed-left-next : put_record with_values (listed_at p l i) (marked (record_at with_values (listed_at p l i))) ≡ ran_listed p l s (suc i)
  unfolding ran_listed iter
  run-listed-left-next =
      ap (λ (l : List Record). record { id = before.id; records = l; counters = o.counters; log = before.log })
      (twice before.records (listed_at p l i) (valued o.values x) no_record marked)
