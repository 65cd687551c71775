-- A run keeps the form: it never logs a number twice, and what it logs is committed with all before it in the log. Assumes nothing.
use mathlib.Core.Path.{◌≡◌, refl, sym, ◌∙◌, ap, subst}
use mathlib.Core.Logic.{◌⊎◌, inl, inr}
use mathlib.Core.Bool.{Bool, true, false, cond, ◌||◌}
use Prim.Native.Nat.{ℕ, ◌^◌, ◌≤◌, ◌<◌}
use native.Mathlib.Omega.{arith}
use native.Mathlib.Decide.{dec_lt, ℕ_discrete}
use borrow.Author.Tests.{eq-eqb, ne_eqb}
use lib.Dec.{eqb}
use lib.Pow.{pow_pos}
use lib.ListN.{length, get_or, set, length-set, get_or-eq_default}
use lib.Seq.{get_or-set_same, get_or-set_other}
use Rattle.masks.specs.Bits.{In, has, union, within}
use Rattle.masks.specs.Folds.{tab, iter}
use Rattle.masks.proofs.Bools.{or_yes_r, not_true_false}
use Rattle.masks.proofs.Laws.{has_in, in_has, has-none, has-insert, in_lt, in_or_left, in_or_right, in_or_cases, has_within, within_has}
use Rattle.masks.proofs.FoldLaws.{has_mask_below, mask_bound, get_d_tab, length-tab}
use Rattle.rules.specs.declared.Pieces.{Pieces}
use Rattle.rules.specs.declared.MaybeWord.{MaybeWord}
use Rattle.rules.specs.declared.MaybeVote.{MaybeVote}
use Rattle.rules.specs.declared.MaybeSet.{MaybeSet}
use Rattle.rules.specs.Flags.{there}
use Rattle.rules.specs.Cluster.{bad_server, shard_of}
use Rattle.rules.specs.Sets.{members}
use Rattle.graph.specs.Before.{direct}
use Rattle.graph.proofs.Rows.{Words}
use Rattle.graph.proofs.Groups.{Kept, kept_direct}
use Rattle.graph.proofs.NextGroups.{next-closed, next-new, next-keeps, next-lt}
use Rattle.counters.specs.Effects.{execute}
use Rattle.counters.proofs.Results.{results-count}
use Rattle.server.specs.declared.Record.{Record}
use Rattle.server.specs.declared.Log.{Log}
use Rattle.server.specs.declared.Server.{Server}
use Rattle.server.specs.Held.{no_record, record_at, shard, committed_at, ran_at, committed_word, ran_word, entry_at}
use Rattle.server.specs.Form.{logged, formed}
use Rattle.server.specs.Run.{deps_at, deps_of, next_run, with_results, run_one, run_group, turn, ran_none, run, turns, ran_from, run_all}
use Rattle.server.proofs.RunLeaves.{SameHeld}
use Rattle.server.proofs.RunGroups.{group-long, group-deps}
use Rattle.server.proofs.RunTurns.{turns-keep}
use Rattle.server.proofs.FormParts.{RecordForm, EntryForm, ResultForm, Formed, logged-some, some-logged, logged-committed}
use Rattle.server.proofs.LogGrows.{Lined, log_word, lined-count}
use Rattle.server.proofs.RunsOneByOne.{May, ran_keeps, Logs, word_more, Partway, group-ran, logs_more}

-- what every server's memory has: 64 records, a log of 64 places, and words in their committed sets
pub record Memory (s : Server) : Type 0 where
  pub records : length s.records ≡ 64
  pub log : length s.log.list ≡ 64
  pub words : Words (deps_of s)

-- ---- what the form says of the log

module _ (s : Server) (f : Formed s) where
  pub formed-lined : Lined s.log
  formed-lined = record { small = λ i l. (f.entries i l).small; new = λ i l. (f.entries i l).new }

  pub logged-small : (t : ℕ) → has (log_word s.log) t ≡ true → t < 64
  logged-small t e = let r = logged-some s.log s.log.count t e in let q = (f.entries r.0 r.1).small in let z = r.2 in omega arith

  pub ran-logged : (t : ℕ) → In (ran_word s) t → has (log_word s.log) t ≡ true
  unfolding ran_word
  ran-logged t i =
      let l = in_lt 64 (mask_bound (ran_at s) 64) i in
      sym (f.results t l).ran ∙ sym (has_mask_below (ran_at s) 64 t l) ∙ in_has i

  pub logged-ran : (t : ℕ) → has (log_word s.log) t ≡ true → In (ran_word s) t
  unfolding ran_word
  logged-ran t e = let l = logged-small t e in has_in (has_mask_below (ran_at s) 64 t l ∙ (f.results t l).ran ∙ e)

-- ---- the dependencies

pub deps_at_lem : (s : Server) (t : ℕ) → t < 64 → get_or (deps_of s) t 0 ≡ deps_at s t
unfolding deps_of
deps_at_lem s t l = get_d_tab (deps_at s) 64 t 0 l

pub deps-committed : (s : Server) (t : ℕ) → t < 64 → committed_at s t ≡ true → get_or (deps_of s) t 0 ≡ members (record_at s t).committed.set
unfolding deps_at
deps-committed s t l e = deps_at_lem s t l ∙ ap (λ (b : Bool). cond b (members (record_at s t).committed.set) 0) e

pub committed_in_lem : (s : Server) (t : ℕ) → t < 64 → committed_at s t ≡ true → In (committed_word s) t
unfolding committed_word
committed_in_lem s t l e = has_in (has_mask_below (committed_at s) 64 t l ∙ e)

pub in_committed : (s : Server) (t : ℕ) → In (committed_word s) t → committed_at s t ≡ true
unfolding committed_word
in_committed s t i = let l = in_lt 64 (mask_bound (committed_at s) 64) i in sym (has_mask_below (committed_at s) 64 t l) ∙ in_has i

pub log_kept : (s : Server) → Formed s → Kept (deps_of s) (committed_word s) (ran_word s)
log_kept s f = kept_direct
    (λ t i. let e = ran-logged s f t i in committed_in_lem s t (logged-small s f t e) (logged-committed s f t e))
    (λ t u i d. logged-ran s f u (behind t u (ran-logged s f t i) d))
  where
    behind : (t u : ℕ) → has (log_word s.log) t ≡ true → In (get_or (deps_of s) t 0) u → has (log_word s.log) u ≡ true
    behind t u e d =
        let r = logged-some s.log s.log.count t e in
        let b = subst (λ t. within (members (record_at s t).committed.set) (log_word s.log) ≡ true) r.2 (f.entries r.0 r.1).behind in
        within_has (members (record_at s t).committed.set) (log_word s.log) u b
        (in_has (subst (λ w. In w u) (deps-committed s t (logged-small s f t e) (logged-committed s f t e)) d))

-- nothing is in a log without entries, and nothing depends on anything where nothing is committed
pub nothing-logged : (l : Log) (t : ℕ) → has (logged l 0) t ≡ false
unfolding logged iter
nothing-logged l t = has-none t

pub nothing_depends : (s : Server) → ((t : ℕ) → t < 64 → committed_at s t ≡ false) → Words (deps_of s)
unfolding deps_of deps_at
nothing_depends s f t = go (dec_lt t 64)
  where
    go : Dec (t < 64) → get_or (tab (deps_at s) 64) t 0 < 2 ^ 64
    go (yes l) = subst (λ n. n < 2 ^ 64) (sym (get_d_tab (deps_at s) 64 t 0 l ∙ ap (λ (b : Bool). cond b (members (record_at s t).committed.set) 0) (f t l))) (pow_pos 64)
    go (no l) = subst (λ n. n < 2 ^ 64) (sym (get_or-eq_default (tab (deps_at s) 64) 0 (subst (λ n. n ≤ t) (sym (length-tab (deps_at s) 64)) (omega arith)))) (pow_pos 64)

-- ---- a group

module _ (s : Server) (mem : Memory s) (f : Formed s) where
  pub next-committed : (u : ℕ) → has (next_run s) u ≡ true → committed_at s u ≡ true
  unfolding next_run
  next-committed u e = in_committed s u (next-closed (deps_of s) mem.words (committed_word s) (ran_word s) u (has_in e)).self

  pub next-unrun : (u : ℕ) → has (next_run s) u ≡ true → has (log_word s.log) u ≡ false
  unfolding next_run
  next-unrun u e = not_true_false (has (log_word s.log) u) (λ h. next-new (deps_of s) mem.words (committed_word s) (ran_word s) (log_kept s f) u (has_in e) (logged-ran s f u h))

  pub logs-formed : Logs s
  logs-formed = record { size = mem.log; lined = formed-lined s f }

  pub group-partway : Partway s (next_run s) logs-formed next-committed next-unrun 64 (run_group s (next_run s))
  group-partway = group-ran s (next_run s) logs-formed next-committed next-unrun

-- ---- the records and the results

pub record_same : {k t : ℕ} {v v' : Record} → SameHeld v v' → RecordForm k t v → RecordForm k t v'
record_same {k} {t} {v} {v'} e f = go v'.pieces v'.promise v'.arrival v'.accepted v'.committed e.pieces e.promise e.arrival e.accepted e.committed
  where
    go : (p : Pieces) (b : ℕ) (a : MaybeWord) (o : MaybeVote) (c : MaybeSet) → p ≡ v.pieces → b ≡ v.promise → a ≡ v.arrival → o ≡ v.accepted → c ≡ v.committed →
        RecordForm k t (record { pieces = p; promise = b; arrival = a; accepted = o; committed = c; ran = v'.ran; values = v'.values })
    go p b a o c ep eb ea eo ec =
        subst (λ (p : Pieces). RecordForm k t (record { pieces = p; promise = b; arrival = a; accepted = o; committed = c; ran = v'.ran; values = v'.values })) (sym ep)
        (subst (λ (b : ℕ). RecordForm k t (record { pieces = v.pieces; promise = b; arrival = a; accepted = o; committed = c; ran = v'.ran; values = v'.values })) (sym eb)
        (subst (λ (a : MaybeWord). RecordForm k t (record { pieces = v.pieces; promise = v.promise; arrival = a; accepted = o; committed = c; ran = v'.ran; values = v'.values })) (sym ea)
        (subst (λ (o : MaybeVote). RecordForm k t (record { pieces = v.pieces; promise = v.promise; arrival = v.arrival; accepted = o; committed = c; ran = v'.ran; values = v'.values })) (sym eo)
        (subst (λ (c : MaybeSet). RecordForm k t (record { pieces = v.pieces; promise = v.promise; arrival = v.arrival; accepted = v.accepted; committed = c; ran = v'.ran; values = v'.values })) (sym ec)
        (record {
          pieces = f.pieces;
          promise = f.promise;
          ballot = f.ballot;
          arrival_has = f.arrival_has;
          accepted_has = f.accepted_has;
          committed_has = f.committed_has;
          arrival = f.arrival;
          accepted = f.accepted;
          committed = f.committed;
        })))))

-- results for exactly the logged numbers
pub record Results (x : Server) : Type 0 where
  pub records : length x.records ≡ 64
  pub logs : Logs x
  pub each : (u : ℕ) → u < 64 → ResultForm (shard x) (has (log_word x.log) u) (record_at x u)

results_more : (x : Server) (t : ℕ) → May x t → Results x → Results (run_one x t)
unfolding run_one
results_more x t m r = record {
  records = length-set x.records t _ ∙ r.records;
  logs = logs_more x t m r.logs;
  each = λ u l. go u l (ℕ_discrete u t);
}
  where
    word : (u : ℕ) → has (log_word (run_one x t).log) u ≡ (has (log_word x.log) u || eqb t u)
    word u = ap (λ (w : ℕ). has w u) (word_more x t m r.logs) ∙ has-insert (log_word x.log) t u

    R : Record
    R = with_results (execute (record_at x t).pieces (shard x) x.counters).values (record_at x t)

    go : (u : ℕ) → u < 64 → Dec (u ≡ t) → ResultForm (shard x) (has (log_word (run_one x t).log) u) (get_or (set x.records t R) u no_record)
    go u l (yes e) = subst (λ u. ResultForm (shard x) (has (log_word (run_one x t).log) u) (get_or (set x.records t R) u no_record)) (sym e)
        (subst (ResultForm (shard x) (has (log_word (run_one x t).log) t)) (sym (get_or-set_same x.records t R no_record (let q = m.small in omega (arith, r.records))))
        (record { ran = sym (word t ∙ or_yes_r (has (log_word x.log) t) (eqb t t) (eq-eqb t t refl)); count = λ z. results-count (record_at x t).pieces (shard x) x.counters }))
    go u l (no n) =
        subst (ResultForm (shard x) (has (log_word (run_one x t).log) u)) (sym (get_or-set_other x.records t u R no_record n))
        (let old = r.each u l in
        record { ran = old.ran ∙ sym (word u ∙ same (has (log_word x.log) u) (ne_eqb t u (λ z. n (sym z)))); count = old.count })
      where
        same : (a : Bool) {b : Bool} → b ≡ false → (a || b) ≡ a
        same true e = refl
        same false e = e

-- ---- the whole

module _ (s : Server) (mem : Memory s) (f : Formed s) where
  abbrev G : ℕ
  G = next_run s

  abbrev S' : Server
  S' = run_group s (next_run s)

  pub way : Partway s (next_run s) (logs-formed s mem f) (next-committed s mem f) (next-unrun s mem f) 64 (run_group s (next_run s))
  way = group-partway s mem f

  results-after : Results S'
  results-after = ran_keeps Results results_more way.ran (record { records = mem.records; logs = logs-formed s mem f; each = f.results })

  pub group-committed : (u : ℕ) → has (log_word S'.log) u ≡ true → committed_at s u ≡ true
  group-committed u e = go (way.from u e)
    where
      go : (has (log_word s.log) u ≡ true) ⊎ ((u < 64) × (has (next_run s) u ≡ true)) → committed_at s u ≡ true
      go (inl h) = logged-committed s f u h
      go (inr h) = next-committed s mem f u h.1

  -- the log is what ran and what runs next
  pub in-log : (u : ℕ) → has (log_word S'.log) u ≡ true → In (union (ran_word s) (next_run s)) u
  in-log u e = go (way.from u e)
    where
      go : (has (log_word s.log) u ≡ true) ⊎ ((u < 64) × (has (next_run s) u ≡ true)) → In (union (ran_word s) (next_run s)) u
      go (inl h) = in_or_left (next_run s) (logged-ran s f u h)
      go (inr h) = in_or_right (ran_word s) (has_in h.1)

  pub log-in : (u : ℕ) → In (union (ran_word s) (next_run s)) u → has (log_word S'.log) u ≡ true
  unfolding next_run
  log-in u i = go (in_or_cases (ran_word s) (next_run s) i)
    where
      go : In (ran_word s) u ⊎ In (next_run s) u → has (log_word S'.log) u ≡ true
      go (inl h) = way.old u (ran-logged s f u h)
      go (inr h) = way.into u (in_lt 64 (next-lt (deps_of s) mem.words (committed_word s) (ran_word s)) h) (in_has h)

  pub kept-after : Kept (deps_of s) (committed_word s) (union (ran_word s) (next_run s))
  unfolding next_run
  kept-after = next-keeps (deps_of s) mem.words (committed_word s) (ran_word s) (log_kept s f)

  pub same-committed : (u : ℕ) → (record_at S' u).committed ≡ (record_at s u).committed
  same-committed u = (way.leaves.held u).committed

  pub group-formed : Formed S'
  group-formed = record {
    id = subst (λ n. bad_server n ≡ false) (sym way.leaves.id) f.id;
    records = λ t l. subst (λ n. RecordForm (shard_of n) t (record_at S' t)) (sym way.leaves.id) (record_same (way.leaves.held t) (f.records t l));
    count = lined-count S'.log way.logs.lined;
    entries = entry;
    results = results-after.each;
  }
    where
      entry : (i : ℕ) → i < S'.log.count → EntryForm S' i
      entry i l =
          let e = entry_at S'.log i in
          let q = way.logs.lined.small i l in
          let z : has (log_word S'.log) e ≡ true = some-logged S'.log S'.log.count e i l refl q in
          record {
            small = q;
            new = way.logs.lined.new i l;
            committed = ap (λ (v : MaybeSet). there v.some) (same-committed e) ∙ group-committed e z;
            behind = subst (λ (v : MaybeSet). within (members v.set) (log_word S'.log) ≡ true) (sym (same-committed e)) (behind e (omega arith) z);
          }
        where
          behind : (e : ℕ) → e < 64 → has (log_word S'.log) e ≡ true → within (members (record_at s e).committed.set) (log_word S'.log) ≡ true
          behind e l z =
              let d = deps-committed s e l (group-committed e z) in
              has_within 64 (members (record_at s e).committed.set) (log_word S'.log) (subst (λ w. w < 2 ^ 64) d (mem.words e))
              (λ u h b. log-in u (kept-after.behind e u (in-log e z) (direct (subst (λ w. In w u) (sym d) (has_in b)))))

-- ---- runs

-- what a run keeps: the memory's sizes, and the form
pub record Sound (s : Server) : Type 0 where
  pub memory : Memory s
  pub form : Formed s

pub group_sound : (s : Server) → Sound s → Sound (run_group s (next_run s))
group_sound s h = record {
  memory = record {
    records = group-long s (next_run s) ∙ h.memory.records;
    log = (way s h.memory h.form).logs.size;
    words = subst Words (sym (group-deps s (next_run s))) h.memory.words;
  };
  form = group-formed s h.memory h.form;
}

pub turns_sound : (n : ℕ) (s : Server) → Sound s → Sound (turns n s)
turns_sound n s h = turns-keep Sound group_sound n s h

-- a run keeps the form, and so do runs until nothing is left
pub run_sound : (s : Server) → Sound s → Sound (run s).server
unfolding run turn
run_sound s h = go (formed s)
  where
    go : (b : Bool) → Sound (cond b (turn s (next_run s)) (ran_none s 13)).server
    go true = group_sound s h
    go false = h

pub run_all_sound : (s : Server) → Sound s → Sound (run_all s).server
unfolding run_all
run_all_sound s h = go (formed s)
  where
    go : (b : Bool) → Sound (cond b (ran_from s (turns 64 s)) (ran_none s 13)).server
    go true = turns_sound 64 s h
    go false = h
