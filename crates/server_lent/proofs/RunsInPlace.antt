-- A planned run of a lent server comes to what the definition says. Assumes nothing.
use Prim.Native.Nat.{ℕ, zero, suc, ◌+◌, ◌-◌, ◌^◌, ◌≤◌, ◌<◌}
use mathlib.Core.Path.{◌≡◌, refl, sym, ap, ◌∙◌}
use mathlib.Core.Bool.{Bool, true, false, cond}
use mathlib.Core.List.{List, [], ◌∷◌, ◌++◌}
use mathlib.Core.Logic.{⊎_elim, ◌⊎◌, inl, inr}
use native.Mathlib.Omega.{arith}
use borrow.Author.Tests.{lt-ltb, ltb-true, lt-leb}
use lib.Dec.{eqb, ltb}
use native.Mathlib.Numerals.{add-one}
use lib.ListN.{length, get_or, drop, replicate, length-replicate}
use Rattle.masks.specs.Bits.{has, union, without}
use Rattle.masks.specs.Folds.{iter, tab, over, mask_of}
use Rattle.masks.proofs.Bools.{true_or_false}
use Rattle.masks.proofs.Fills.{fill_none, fill_step, fill-all}
use Rattle.rules.specs.Choice.{◌if◌else◌}
use Rattle.graph.specs.Walk.{next_group}
use Rattle.server.specs.declared.Log.{Log}
use Rattle.server.specs.declared.Server.{Server}
use Rattle.server.specs.declared.Ran.{Ran}
use Rattle.server.specs.Held.{record_at, shard, committed_at, committed_word}
use Rattle.server.specs.Form.{formed}
use Rattle.server.specs.Run.{deps_at, next_run, run_group, turns}
use Rattle.server.proofs.FormParts.{formed_parts}
use Rattle.server_form.specs.OnePass.{read_log}
use Rattle.server_step.specs.OneStore.{place_of}
use Rattle.server_run.specs.Gathered.{unrun_at}
use Rattle.server_run.specs.Limited.{allowed, ran_up_to}
use Rattle.server_run.proofs.Gathering.{named-deps}
use Rattle.server_run.proofs.Turning.{up_to}
use Rattle.server_read.specs.InPlace.{FormRead, form_read}
use Rattle.server_plan.specs.declared.Waiting.{Waiting}
use Rattle.server_lent.specs.Listed.{spot_of, listed_at, ran_planned}
use Rattle.server_plan.specs.Planning.{PlanTold, unrun_of, committed_with, waiting_turn, waiting_in, noted, logged_of, planned_log, planned_by}
use Rattle.server_lent.proofs.AlongTheLog.{risen, runs, order, turns-runs, count-after, entry_after, plan-runs}
use Rattle.server_read.proofs.Sizes.{Told, records-long, counters-long, log-long, words_small}
use Rattle.server_plan.proofs.PlanIsRuns.{plan-is}

-- ---- the log of a plan has room

noted_short : (l : Log) (u : ℕ) → l.count ≤ 64 → (noted l u).count ≤ 64
unfolding noted
noted_short l u h = ⊎_elim (λ e. rw e (let k = ltb-true l.count 64 e in omega (arith, k))) (λ e. rw e h) (true_or_false (ltb l.count 64))

logged_short : (l : Log) (g n : ℕ) → l.count ≤ 64 → (over noted l g n).count ≤ 64
unfolding over
logged_short l g zero h = h
logged_short l g (suc n) h = go (has g n) (logged_short l g n h)
  where
    go : (b : Bool) → (over noted l g n).count ≤ 64 → (cond b (noted (over noted l g n) n) (over noted l g n)).count ≤ 64
    go true k = noted_short (over noted l g n) n k
    go false k = k

planned_short : (rows : List ℕ) (c n ran : ℕ) (l : Log) → l.count ≤ 64 → (planned_log rows c n ran l).count ≤ 64
unfolding planned_log logged_of
planned_short rows c zero ran l h = h
planned_short rows c (suc n) ran l h = go (eqb g 0) (planned_short rows c n (union ran g) (over noted l g 64) (logged_short l g 64 h))
  where
    g : ℕ
    g = next_group rows c ran

    go : (b : Bool) → (planned_log rows c n (union ran g) (over noted l g 64)).count ≤ 64 → (l if b else planned_log rows c n (union ran g) (over noted l g 64)).count ≤ 64
    go true k = h
    go false k = k

-- ---- what runs are numbers

abbrev Numbers : List ℕ → Type 0
Numbers [] = Unit {0}
Numbers (u ∷ us) = (u < 64) × Numbers us

both : (us vs : List ℕ) → Numbers us → Numbers vs → Numbers (us ++ vs)
both [] vs p q = q
both (u ∷ us) vs p q = (p.0, both us vs p.1 q)

one_of : (us : List ℕ) (t : ℕ) → Numbers us → t < length us → get_or us t 0 < 64
one_of [] t p l = absurd (omega (arith, l))
one_of (u ∷ us) zero p l = p.0
one_of (u ∷ us) (suc t) p l = one_of us t p.1 (omega (arith, l))

risen_numbers : (g n : ℕ) → n ≤ 64 → Numbers (risen g n)
risen_numbers g zero l = tt
risen_numbers g (suc n) l = go (has g n) (risen_numbers g n (omega (arith, l)))
  where
    go : (b : Bool) → Numbers (risen g n) → Numbers (cond b (risen g n ++ (n ∷ [])) (risen g n))
    go true p = both (risen g n) (n ∷ []) p (omega (arith, l), tt)
    go false p = p

order_numbers : (n : ℕ) (s : Server) → Numbers (order n s)
order_numbers zero s = tt
order_numbers (suc n) s = go (eqb (next_run s) 0) (order_numbers n (run_group s (next_run s)))
  where
    go : (b : Bool) → Numbers (order n (run_group s (next_run s))) → Numbers (cond b [] (risen (next_run s) 64 ++ order n (run_group s (next_run s))))
    go true p = tt
    go false p = both (risen (next_run s) 64) (order n (run_group s (next_run s))) (risen_numbers (next_run s) 64 (omega arith)) p

number-place : (u : ℕ) → u < 64 → place_of u ≡ u
unfolding place_of
number-place u l = rw (lt-leb 64 u l)

-- ---- the whole

module _ (s : Server) (limit : ℕ) (records : length s.records ≡ 64) (keys : length s.counters.list ≡ 16) (places : length s.log.list ≡ 64) (words : (t : ℕ) → t < 64 → deps_at s t < 2 ^ 64) where
  abbrev read : FormRead
  read = record { id = s.id; shard = shard s; word = (read_log s.log).word; fine = formed s }

  abbrev most : ℕ
  most = allowed (formed s) limit

  abbrev z : Server
  z = turns most s

  abbrev us : List ℕ
  us = order most s

  abbrev pub plan : PlanTold
  plan = planned_by read (tab (unrun_at s) 64) (committed_word s) s.log limit

  log_is : plan.log ≡ z.log
  unfolding planned_by
  log_is = plan-is s limit records words

  reached : z ≡ runs us s
  reached = turns-runs most s

  count-is : z.log.count ≡ s.log.count + length us
  count-is = ap (λ (x : Server). x.log.count) reached ∙ count-after us s

  -- nothing runs, or there is room for what runs
  room : (b : Bool) → formed s ≡ b → (length us ≡ 0) ⊎ (s.log.count + length us ≤ 64)
  unfolding allowed
  room true e = inr (let k : plan.log.count ≤ 64 = unfold planned_by in planned_short _ _ _ _ s.log (formed_parts s e).count in omega (arith, k, ap (λ (l : Log). l.count) log_is, count-is))
  room false e = inl (rw e)

  many_is : plan.many ≡ length us
  unfolding planned_by
  many_is = omega (arith, ap (λ (l : Log). l.count) log_is, count-is)

  listed-is : (s.log.count + length us ≤ 64) → (t : ℕ) → t < length us → listed_at plan.plan (runs us s).log t ≡ get_or us t 0
  unfolding spot_of planned_by
  listed-is r t l =
      let at : get_or (runs us s).log.list (s.log.count + t) 0 ≡ get_or us t 0 = entry_after us s t l (omega (arith, r, places)) in
      let near : ltb (s.log.count + t) 64 ≡ true = lt-ltb (s.log.count + t) 64 (omega (arith, l, r)) in
      rw (near, at) (number-place (get_or us t 0) (one_of us t (order_numbers most s) l))

  ran-is : (length us ≡ 0) ⊎ (s.log.count + length us ≤ 64) → ran_planned plan.plan (runs us s).log plan.many s ≡ runs us s
  ran-is (inl e) = plan-runs plan.plan us s shard-is keys plan.many many_is (omega (arith, many_is, e)) (λ t l. absurd (omega (arith, l, many_is, e)))
    where
      shard-is : plan.plan.shard ≡ shard s
      shard-is = unfold planned_by in refl
  ran-is (inr r) = plan-runs plan.plan us s shard-is keys plan.many many_is (omega (arith, many_is, r)) (λ t l. listed-is r t (omega (arith, l, many_is)))
    where
      shard-is : plan.plan.shard ≡ shard s
      shard-is = unfold planned_by in refl

  pub ran-planned : ran_planned plan.plan plan.log plan.many s ≡ (ran_up_to limit s).server
  ran-planned =
      ap (λ (l : Log). ran_planned plan.plan l plan.many s) (log_is ∙ ap (λ (x : Server). x.log) reached)
      ∙ ran-is (room (formed s) refl) ∙ sym reached ∙ ap (λ (r : Ran). r.server) (up_to (formed s) limit s refl z refl)

  told-refusal : plan.refusal ≡ (ran_up_to limit s).refusal
  unfolding planned_by
  told-refusal = ap (λ (r : Ran). r.refusal) (up_to (formed s) limit s refl z refl)

  pub told-many : plan.many ≡ (ran_up_to limit s).many
  unfolding planned_by
  told-many = ap (λ (l : Log). l.count - s.log.count) log_is ∙ ap (λ (r : Ran). r.many) (up_to (formed s) limit s refl z refl)

-- ---- what the passes over the records give the plan

pub waits : (s : Server) (w n : ℕ) → n ≤ 64 → waiting_in s w n ≡ record { deps = tab (λ t. unrun_of w (record_at s t).committed) n ++ drop n (replicate 64 0); committed = mask_of (committed_at s) n }
unfolding waiting_in iter mask_of committed_with
waits s w zero l = ap (λ (xs : List ℕ). record { deps = xs; committed = 0 }) (fill_none (λ t. unrun_of w (record_at s t).committed) (replicate 64 0))
waits s w (suc n) l =
    ap (λ (d : Waiting). waiting_turn w d n (record_at s n).committed) (waits s w n (omega (arith, l)))
    ∙ ap (λ (xs : List ℕ). record { deps = xs; committed = mask_of (committed_at s) (suc n) })
    (fill_step f (replicate 64 0) n (rw (length-replicate {A = ℕ} 64 0) (omega (arith, l))) ∙ ap (λ (k : ℕ). tab f k ++ drop k (replicate 64 0)) (add-one n))
  where
    f : ℕ → ℕ
    f t = unrun_of w (record_at s t).committed

pub unrun_is : (s : Server) (w : ℕ) → w ≡ (read_log s.log).word → tab (λ t. unrun_of w (record_at s t).committed) 64 ≡ tab (unrun_at s) 64
unfolding unrun_of unrun_at
unrun_is s w e = λ j. tab (λ t. without (named-deps s t j) (e j)) 64

module _ (s : Server) (limit : ℕ) where
  abbrev form : FormRead
  form = form_read s

  abbrev waiting : Waiting
  waiting = waiting_in s form.word 64

  abbrev pub planned : PlanTold
  planned = planned_by form waiting.deps waiting.committed s.log limit

  planned-from : planned ≡ planned_by (record { id = s.id; shard = shard s; word = (read_log s.log).word; fine = formed s }) (tab (unrun_at s) 64) (committed_word s) s.log limit
  unfolding committed_word
  planned-from =
      let form-is : form ≡ record { id = s.id; shard = shard s; word = (read_log s.log).word; fine = formed s } = refl in
      let all = waits s form.word 64 (omega arith) in
      let deps : waiting.deps ≡ tab (unrun_at s) 64 =
      ap (λ (d : Waiting). d.deps) all ∙ fill-all (λ t. unrun_of form.word (record_at s t).committed) (replicate 64 0) 64 (rw (length-replicate {A = ℕ} 64 0) (omega arith)) ∙ unrun_is s form.word (ap (λ (k : FormRead). k.word) form-is) in
      let committed : waiting.committed ≡ mask_of (committed_at s) 64 = ap (λ (d : Waiting). d.committed) all in
      λ j. planned_by (form-is j) (deps j) (committed j) s.log limit

  module _ (was : Told s) where
    pub planned-refusal : planned.refusal ≡ (ran_up_to limit s).refusal
    planned-refusal = ap (λ (p : PlanTold). p.refusal) planned-from ∙ told-refusal s limit (records-long s was) (counters-long s was) (log-long s was) (words_small s was)

    pub planned-many : planned.many ≡ (ran_up_to limit s).many
    planned-many = ap (λ (p : PlanTold). p.many) planned-from ∙ told-many s limit (records-long s was) (counters-long s was) (log-long s was) (words_small s was)

    pub planned-server : ran_planned planned.plan planned.log planned.many s ≡ (ran_up_to limit s).server
    planned-server =
        ap (λ (p : PlanTold). ran_planned p.plan p.log p.many s) planned-from
        ∙ ran-planned s limit (records-long s was) (counters-long s was) (log-long s was) (words_small s was)
