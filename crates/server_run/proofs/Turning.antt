-- Runs one after the other, up to a limit: what holds between two of them.
-- The walk asks the words that were gathered once: no run changes the dependencies or the commits, and what has run grows by what was run. Assumes nothing.
use Prim.Native.Nat.{ℕ, zero, suc, ◌+◌, ◌-◌, ◌^◌, ◌≤◌, ◌<◌}
use mathlib.Core.Path.{◌≡◌, refl, sym, ap, ap₂, ◌∙◌, subst}
use native.Mathlib.Omega.{arith}
use mathlib.Core.Bool.{Bool, true, false, cond}
use mathlib.Core.List.{List}
use lib.ListN.{length}
use Rattle.masks.specs.Bits.{has, union}
use Rattle.masks.specs.Folds.{tab, over, size}
use Rattle.masks.proofs.Laws.{Sub, sub_refl, sub_trans, sub_left}
use Rattle.graph.specs.Walk.{rows_of, next_group}
use Rattle.graph.proofs.Rows.{Words}
use Rattle.graph.proofs.Groups.{Kept}
use Rattle.graph.proofs.NextGroups.{next-keeps, next-adds, next-room}
use Rattle.counters.proofs.PerPiece.{counted_less}
use Rattle.server.specs.declared.Ran.{Ran}
use Rattle.server.specs.declared.Server.{Server}
use Rattle.server.specs.Held.{committed_word, ran_word}
use Rattle.server.specs.Form.{formed}
use Rattle.server.specs.Run.{deps_of, next_run, run_one, run_group, run, run_all, turns, ran_from, ran_none}
use Rattle.server.proofs.FormParts.{formed_parts}
use Rattle.server.proofs.LogGrows.{lined-size}
use Rattle.server.proofs.RunGroups.{over-count, group-long, group-deps, group-committed-word, group-count, group-ran}
use Rattle.server.proofs.RunKeepsForm.{formed-lined, log_kept}
use Rattle.server.proofs.RunTurns.{turns-none, turns-stop, turns_more, turn-once}
use Rattle.server_form.specs.OnePass.{read_log}
use Rattle.server_run.specs.Gathered.{unrun_at}
use Rattle.server_run.specs.Limited.{allowed, refusal_of, ran_up_to}
use Rattle.server_run.proofs.Unrun.{read-log, read-ran, next-unrun}

-- ---- the limit

-- runs are allowed only where the form is kept
pub allowed_form : (form : Bool) (limit r : ℕ) → r ≡ allowed form limit → 0 < r → form ≡ true
unfolding allowed
allowed_form true limit r e h = refl
allowed_form false limit r e h = absurd (omega (arith, e, h))

limited : (b : Bool) (limit : ℕ) (s : Server) → record { refusal = refusal_of b; many = (turns (allowed b limit) s).log.count - s.log.count; server = turns (allowed b limit) s } ≡ cond b (ran_from s (turns limit s)) (ran_none s 13)
unfolding allowed refusal_of
limited true limit s = refl
limited false limit s = rw turns-none (ap (λ (n : ℕ). record { refusal = 13; many = n; server = s }) none)
  where
    none : s.log.count - s.log.count ≡ 0
    none = omega arith

pub up_to : (form : Bool) (limit : ℕ) (s : Server) → form ≡ formed s → (z : Server) → z ≡ turns (allowed form limit) s
    → record { refusal = refusal_of form; many = z.log.count - s.log.count; server = z } ≡ ran_up_to limit s
unfolding ran_up_to
up_to form limit s f z e =
    ap (λ (z : Server). record { refusal = refusal_of form; many = z.log.count - s.log.count; server = z }) e
    ∙ limited form limit s
    ∙ ap (λ (b : Bool). cond b (ran_from s (turns limit s)) (ran_none s 13)) f

-- a run is one of them, and runs until 0 are 64
pub run-once : (s : Server) → ran_up_to 1 s ≡ run s
unfolding ran_up_to run
run-once s = ap (λ (r : Ran). cond (formed s) r (ran_none s 13)) (sym (turn-once s))

pub run-until : (s : Server) → ran_up_to 64 s ≡ run_all s
unfolding ran_up_to run_all
run-until s = refl

-- ---- between two runs

-- what was gathered of s, which keeps its form where there may be a run: the words that the walk asks
pub record Asked (s : Server) (committed : ℕ) (rows : List ℕ) (limit : ℕ) : Type 0 where
  pub fine : 0 < limit → formed s ≡ true
  pub graph : rows ≡ rows_of (tab (unrun_at s) 64)
  pub commits : committed ≡ committed_word s
  pub words : Words (deps_of s)

-- n, with `left` runs to go of the `limit` that began at s
pub record Going (s : Server) (limit ran : ℕ) (n : Server) (left : ℕ) : Type 0 where
  pub few : left ≤ limit
  pub same : turns left n ≡ turns limit s
  pub deps : deps_of n ≡ deps_of s
  pub commits : committed_word n ≡ committed_word s
  pub word : 0 < left → ran ≡ ran_word n
  pub old : 0 < left → Sub (ran_word s) ran
  pub kept : 0 < left → Kept (deps_of s) (committed_word s) ran
  pub count : 0 < left → n.log.count ≡ size ran
  pub long : length n.records ≡ 64

pub going_start : (s : Server) (limit ran : ℕ) → length s.records ≡ 64 → (0 < limit → formed s ≡ true) → ran ≡ (read_log s.log).word → Going s limit ran s limit
going_start s limit ran l f e = record {
  few = omega arith;
  same = refl;
  deps = refl;
  commits = refl;
  word = λ h. e ∙ read-ran s (f h);
  old = λ h. subst (Sub (ran_word s)) (sym (e ∙ read-ran s (f h))) (sub_refl (ran_word s));
  kept = λ h. subst (Kept (deps_of s) (committed_word s)) (sym (e ∙ read-ran s (f h))) (log_kept s (formed_parts s (f h)));
  count = λ h. sym (ap size (e ∙ read-log s (f h)) ∙ lined-size s.log (formed-lined s (formed_parts s (f h))));
  long = l;
}

group-over : (n : Server) (g : ℕ) → run_group n g ≡ over run_one n g 64
unfolding run_group
group-over n g = refl

turns_next : (left : ℕ) (n : Server) → 0 < left → (next_run n ≡ 0 → ⊥) → turns (left - 1) (run_group n (next_run n)) ≡ turns left n
turns_next zero n h ne = absurd (omega (arith, h))
turns_next (suc k) n h ne =
    let e : suc k - 1 ≡ k = omega arith in
    ap (λ (j : ℕ). turns j (run_group n (next_run n))) e ∙ sym (turns_more k n ne)

module _ {s : Server} {limit ran : ℕ} {n : Server} {left : ℕ} (go : Going s limit ran n left) where
  -- no run is left
  pub going_done : left ≡ 0 → n ≡ turns limit s
  going_done e = sym (turns-none n) ∙ ap (λ (k : ℕ). turns k n) (sym e) ∙ go.same

  module _ {committed : ℕ} {rows : List ℕ} (asked : Asked s committed rows limit) (g : ℕ) (found : g ≡ next_group rows committed ran) (h : 0 < left) where
    next_of : g ≡ next_group (rows_of (deps_of s)) (committed_word s) ran
    next_of =
        found
        ∙ ap₂ (λ (r : List ℕ) (c : ℕ). next_group r c ran) asked.graph asked.commits
        ∙ next-unrun s (asked.fine (omega (arith, go.few))) asked.words ran (go.old h)

    next-is : g ≡ next_run n
    unfolding next_run
    next-is = next_of ∙ rw (go.deps, go.commits, go.word h)

    -- nothing is ready
    pub going-idle : g ≡ 0 → n ≡ turns limit s
    going-idle e = sym (turns-stop left n (sym next-is ∙ e)) ∙ go.same

    -- one run more
    pub going_on : g < 2 ^ 64 → (g ≡ 0 → ⊥) → (m : Server) → m ≡ over run_one n g 64 → Going s limit (union ran g) m (left - 1)
    going_on b ne m e =
        let all : m ≡ run_group n g = e ∙ sym (group-over n g) in
        let many = ap (λ (x : Server). x.log.count) all ∙ group-count n g in
        record {
          few = omega (arith, go.few);
          same = ap (turns (left - 1)) (all ∙ ap (run_group n) next-is) ∙ turns_next left n h (λ z. ne (next-is ∙ z)) ∙ go.same;
          deps = ap deps_of all ∙ group-deps n g ∙ go.deps;
          commits = ap committed_word all ∙ group-committed-word n g ∙ go.commits;
          word = λ l. ap (λ (x : ℕ). union x g) (go.word h) ∙ sym (group-ran n g go.long b) ∙ ap ran_word (sym all);
          old = λ l. sub_trans (go.old h) (sub_left ran g);
          kept = λ l. rw next_of (next-keeps (deps_of s) asked.words (committed_word s) ran (go.kept h));
          count = λ l. many ∙ ap (λ (x : ℕ). x + size g) (go.count h) ∙ sym added;
          long = ap (λ (x : Server). length x.records) all ∙ group-long n g ∙ go.long;
        }
      where
        added : size (union ran g) ≡ size ran + size g
        added = rw next_of (next-adds (deps_of s) asked.words (committed_word s) ran (go.kept h))

    room : size ran + size g ≤ 64
    room = rw next_of (next-room (deps_of s) asked.words (committed_word s) ran (go.kept h))

    -- the log has room for the next number of g
    pub going-room : (u : ℕ) → u < 64 → has g u ≡ true → (m : Server) → m ≡ over run_one n g u → m.log.count < 64
    unfolding size
    going-room u l i m e =
        omega (arith, ap (λ (x : Server). x.log.count) e, over-count n g u, go.count h, counted_less (has g) u 64 l i, room)
