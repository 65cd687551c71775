-- Runs up to a limit are the numbers that they log, run one after the other: so a plan that has them in order comes to the same server. Assumes nothing.
use Prim.Native.Nat.{ℕ, zero, suc, ◌+◌, ◌≤◌, ◌<◌}
use mathlib.Core.Path.{◌≡◌, refl, sym, ap, ◌∙◌, subst}
use mathlib.Core.Bool.{Bool, true, false, cond}
use mathlib.Core.List.{List, [], ◌∷◌, ◌++◌}
use native.Mathlib.Omega.{arith}
use native.Mathlib.Nat.{add-zero}
use lib.Dec.{eqb}
use lib.ListN.{length, get_or, length-set}
use lib.Seq.{get_or-set_same, get_or-set_other}
use Rattle.masks.specs.Bits.{has}
use Rattle.masks.specs.Folds.{iter, over}
use Rattle.rules.specs.Cluster.{shard_of}
use Rattle.server.specs.declared.Log.{Log}
use Rattle.server.specs.declared.Server.{Server}
use Rattle.rules.specs.Pieces.{used}
use Rattle.counters.specs.Effects.{execute}
use Rattle.counters.proofs.PerKey.{counters-length}
use Rattle.server.specs.Held.{record_at, put_record, shard, entry_at}
use Rattle.server.specs.Run.{with_results, next_run, run_one, run_group, turns}
use Rattle.server_plan.specs.declared.Plan.{Plan}
use Rattle.server_lent.specs.Listed.{ran_pieces, with_counters, listed_at, ran_at, ran_listed, few_of, ran_planned}
use Rattle.server_lent.proofs.RunInPlace.{pieces-run, few_all}

-- numbers run one after the other
abbrev pub runs : List ℕ → Server → Server
runs [] s = s
runs (u ∷ us) s = runs us (run_one s u)

runs_after : (us vs : List ℕ) (s : Server) → runs (us ++ vs) s ≡ runs vs (runs us s)
runs_after [] vs s = refl
runs_after (u ∷ us) vs s = runs_after us vs (run_one s u)

-- ---- a group, and runs up to a limit

abbrev pub risen : ℕ → ℕ → List ℕ
risen g zero = []
risen g (suc n) = cond (has g n) (risen g n ++ (n ∷ [])) (risen g n)

over_runs : (s : Server) (g n : ℕ) → over run_one s g n ≡ runs (risen g n) s
unfolding over
over_runs s g zero = refl
over_runs s g (suc n) = go (has g n) (over_runs s g n)
  where
    go : (b : Bool) → over run_one s g n ≡ runs (risen g n) s → cond b (run_one (over run_one s g n) n) (over run_one s g n) ≡ runs (cond b (risen g n ++ (n ∷ [])) (risen g n)) s
    go true e = ap (λ (z : Server). run_one z n) e ∙ sym (runs_after (risen g n) (n ∷ []) s)
    go false e = e

-- what runs up to a limit, in order
abbrev pub order : ℕ → Server → List ℕ
order zero s = []
order (suc n) s = cond (eqb (next_run s) 0) [] (risen (next_run s) 64 ++ order n (run_group s (next_run s)))

pub turns-runs : (n : ℕ) (s : Server) → turns n s ≡ runs (order n s) s
unfolding turns run_group
turns-runs zero s = refl
turns-runs (suc n) s = go (eqb (next_run s) 0) (turns-runs n (over run_one s (next_run s) 64))
  where
    g : ℕ
    g = next_run s

    go : (b : Bool) → turns n (over run_one s g 64) ≡ runs (order n (over run_one s g 64)) (over run_one s g 64) → cond b s (turns n (over run_one s g 64)) ≡ runs (cond b [] (risen g 64 ++ order n (over run_one s g 64))) s
    go true e = refl
    go false e =
        e ∙ ap (runs (order n (over run_one s g 64))) (over_runs s g 64)
        ∙ sym (runs_after (risen g 64) (order n (over run_one s g 64)) s)

-- ---- the log

long_after : (us : List ℕ) (s : Server) → length (runs us s).log.list ≡ length s.log.list
unfolding run_one
long_after [] s = refl
long_after (u ∷ us) s = long_after us (run_one s u) ∙ length-set s.log.list s.log.count u

pub count-after : (us : List ℕ) (s : Server) → (runs us s).log.count ≡ s.log.count + length us
unfolding run_one
count-after [] s = sym (add-zero s.log.count)
count-after (u ∷ us) s = let e = count-after us (run_one s u) in omega (arith, e)

kept : (us : List ℕ) (s : Server) (j : ℕ) → j < s.log.count → entry_at (runs us s).log j ≡ entry_at s.log j
unfolding run_one
kept [] s j l = refl
kept (u ∷ us) s j l =
    kept us (run_one s u) j (omega (arith, l)) ∙ get_or-set_other s.log.list s.log.count j u 0 (λ e. omega (arith, l, e))

-- what has run stands in the log, in order
pub entry_after : (us : List ℕ) (s : Server) (t : ℕ) → t < length us → s.log.count + length us ≤ length s.log.list → entry_at (runs us s).log (s.log.count + t) ≡ get_or us t 0
unfolding run_one
entry_after [] s t l r = absurd (omega (arith, l))
entry_after (u ∷ us) s zero l r =
    ap (entry_at (runs us (run_one s u)).log) (add-zero s.log.count)
    ∙ kept us (run_one s u) s.log.count (omega arith)
    ∙ get_or-set_same s.log.list s.log.count u 0 (omega (arith, r))
entry_after (u ∷ us) s (suc t) l r =
    let shift : s.log.count + suc t ≡ s.log.count + 1 + t = omega arith in
    let long : length (run_one s u).log.list ≡ length s.log.list = length-set s.log.list s.log.count u in
    ap (entry_at (runs us (run_one s u)).log) shift ∙ entry_after us (run_one s u) t (omega (arith, l)) (omega (arith, r, long))

-- ---- a plan that has these numbers in order

-- the first of the turns apart
iter-front : {A : Type 0} (f : ℕ → A → A) (a : A) (n : ℕ) → iter f a (suc n) ≡ iter (λ t. f (suc t)) (f 0 a) n
unfolding iter
iter-front f a zero = refl
iter-front f a (suc n) = ap (f (suc n)) (iter-front f a n)

abbrev along : List ℕ → Server → ℕ → Server
along us s n = iter (λ t a. run_one a (get_or us t 0)) s n

runs-along : (us : List ℕ) (s : Server) → runs us s ≡ along us s (length us)
unfolding iter
runs-along [] s = refl
runs-along (u ∷ us) s = runs-along us (run_one s u) ∙ sym (iter-front (λ t a. run_one a (get_or (u ∷ us) t 0)) s (length us))

along-id : (us : List ℕ) (s : Server) (n : ℕ) → (along us s n).id ≡ s.id
unfolding iter run_one
along-id us s zero = refl
along-id us s (suc n) = along-id us s n

along-keys : (us : List ℕ) (s : Server) (n : ℕ) → length (along us s n).counters.list ≡ length s.counters.list
unfolding iter run_one
along-keys us s zero = refl
along-keys us s (suc n) = counters-length _ _ (along us s n).counters ∙ along-keys us s n

module _ (p : Plan) (us : List ℕ) (s : Server) (here : p.shard ≡ shard s) (keys : length s.counters.list ≡ 16) where
  -- the log after them
  abbrev L : Log
  L = (runs us s).log

  abbrev reached : ℕ → Server
  reached n = record { id = s.id; records = (along us s n).records; counters = (along us s n).counters; log = s.log }

  one : (n : ℕ) → listed_at p L n ≡ get_or us n 0 → ran_at p L n (reached n) ≡ reached (suc n)
  unfolding iter run_one
  one n at =
      let own : p.shard ≡ shard (along us s n) = here ∙ ap shard_of (sym (along-id us s n)) in
      let x = record_at (reached n) (listed_at p L n) in
      let all : ran_pieces x.pieces p.shard (along us s n).counters (used x.pieces.count) ≡ execute x.pieces p.shard (along us s n).counters =
      pieces-run x.pieces p.shard (along us s n).counters (along-keys us s n ∙ keys) in
      (λ j. put_record (with_counters (reached n) (all j).counters) (listed_at p L n) (with_results (all j).values x)) ∙ rw (at, own)

  listed-along : (n : ℕ) → ((t : ℕ) → t < n → listed_at p L t ≡ get_or us t 0) → ran_listed p L s n ≡ reached n
  unfolding ran_listed iter
  listed-along zero at = refl
  listed-along (suc n) at = ap (ran_at p L n) (listed-along n (λ t l. at t (omega (arith, l)))) ∙ one n (at n (omega arith))

  -- the plan has run: the server is the one after these numbers, where the log is theirs
  pub plan-runs : (many : ℕ) → many ≡ length us → many ≤ 64 → ((t : ℕ) → t < many → listed_at p L t ≡ get_or us t 0) → ran_planned p (runs us s).log many s ≡ runs us s
  unfolding ran_planned
  plan-runs many e l at =
      let all : ran_listed p L s (few_of many) ≡ reached (length us) = ap (ran_listed p L s) (few_all many l ∙ e) ∙ listed-along (length us) (subst (λ (k : ℕ). (t : ℕ) → t < k → listed_at p L t ≡ get_or us t 0) e at) in
      let end : along us s (length us) ≡ runs us s = sym (runs-along us s) in
      (λ j. record { id = (all j).id; records = (all j).records; counters = (all j).counters; log = (runs us s).log })
      ∙ (λ j. record { id = sym (along-id us s (length us)) j; records = (along us s (length us)).records; counters = (along us s (length us)).counters; log = (runs us s).log })
      ∙ (λ j. record { id = (end j).id; records = (end j).records; counters = (end j).counters; log = (runs us s).log })
