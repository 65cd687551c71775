-- Runs one after the other. A run is one turn, and it answers how much longer the log is; 64 turns are enough for every number that is ever ready, and
-- then no closed number is left unrun.
-- Assumes nothing.
use Prim.Native.Nat.{ℕ, zero, suc, ◌+◌, ◌-◌, ◌^◌, ◌≤◌, ◌<◌}
use mathlib.Core.Path.{◌≡◌, refl, sym, ap, subst, ◌∙◌}
use mathlib.Core.Bool.{Bool, true, false, cond, false≢true}
use native.Mathlib.Decide.{ℕ_discrete}
use native.Mathlib.Omega.{arith}
use borrow.Author.Tests.{eq-eqb, ne_eqb}
use lib.ListN.{length}
use Rattle.masks.specs.Bits.{In, has, none, union}
use Rattle.masks.specs.Folds.{size}
use Rattle.masks.proofs.Laws.{has_in, in_or_right, sub_left, empty_word}
use Rattle.masks.proofs.FoldLaws.{over_nothing}
use Rattle.masks.proofs.Counts.{count-full, count_le, size-zero, part_fewer}
use Rattle.graph.specs.Before.{Closed}
use Rattle.graph.specs.Walk.{rows_of, first_ready, group}
use Rattle.graph.proofs.Rows.{Words}
use Rattle.graph.proofs.Groups.{group_self}
use Rattle.graph.proofs.NextGroups.{Runs, next-dec, next-first, next-runs, next-lt, next-none}
use Rattle.server.specs.declared.Server.{Server}
use Rattle.server.specs.Held.{committed_word, ran_word}
use Rattle.server.specs.Form.{formed}
use Rattle.server.specs.Run.{deps_of, next_run, run_group, run_one, ran_none, turn, run, turns, ran_from, run_all}
use Rattle.server.proofs.RunGroups.{committed_lt, group-long, group-deps, group-committed-word, group-count, group-ran}

-- ---- turns

pub turns-none : (s : Server) → turns 0 s ≡ s
unfolding turns
turns-none s = refl

pub turns-stop : (n : ℕ) (s : Server) → next_run s ≡ 0 → turns n s ≡ s
unfolding turns
turns-stop zero s e = refl
turns-stop (suc n) s e =
    ap (λ (b : Bool). cond b s (turns n (run_group s (next_run s)))) (eq-eqb (next_run s) 0 e)

pub turns_more : (n : ℕ) (s : Server) → (next_run s ≡ 0 → ⊥) → turns (suc n) s ≡ turns n (run_group s (next_run s))
unfolding turns
turns_more n s e =
    ap (λ (b : Bool). cond b s (turns n (run_group s (next_run s)))) (ne_eqb (next_run s) 0 e)

-- nothing changes where nothing is run
pub group-nothing : (s : Server) → run_group s none ≡ s
unfolding run_group
group-nothing s = over_nothing run_one s 64

-- a run is one turn, and how many ran is how much longer the log is
module _ (s : Server) where
  one-turn : run_group s (next_run s) ≡ turns 1 s
  one-turn = go (ℕ_discrete (next_run s) 0)
    where
      go : Dec (next_run s ≡ 0) → run_group s (next_run s) ≡ turns 1 s
      go (yes e) = ap (run_group s) e ∙ group-nothing s ∙ sym (turns-stop 1 s e)
      go (no n) = sym (turns_more 0 s n ∙ turns-none (run_group s (next_run s)))

  many_more : size (next_run s) ≡ (run_group s (next_run s)).log.count - s.log.count
  many_more = omega (arith, group-count s (next_run s))

  pub turn-once : turn s (next_run s) ≡ ran_from s (turns 1 s)
  unfolding turn
  turn-once =
      ap (λ (n : ℕ). record { refusal = 0; many = n; server = run_group s (next_run s) }) many_more
      ∙ ap (ran_from s) one-turn

many_case : (b : Bool) (s : Server) → (cond b (turn s (next_run s)) (ran_none s 13)).many ≡ (cond b (turn s (next_run s)) (ran_none s 13)).server.log.count - s.log.count
unfolding turn
many_case true s = many_more s
many_case false s = omega arith

pub run-many : (s : Server) → (run s).many ≡ (run s).server.log.count - s.log.count
unfolding run
run-many s = many_case (formed s) s

-- ---- nothing is left

-- what every server's memory has: 64 records, and words in their committed sets
pub record Sized (s : Server) : Type 0 where
  pub records : length s.records ≡ 64
  pub words : Words (deps_of s)

pub sized_group : (s : Server) (g : ℕ) → Sized s → Sized (run_group s g)
sized_group s g z = record { records = group-long s g ∙ z.records; words = subst Words (sym (group-deps s g)) z.words }

full-word : (w : ℕ) → 64 ≤ size w → (t : ℕ) → t < 64 → In w t
unfolding size
full-word w h t l = has_in (count-full (has w) 64 t (omega (arith, count_le (has w) 64)) l)

-- every closed number has run
abbrev pub AllRun : Server → Type 0
AllRun s = (t : ℕ) → Closed (deps_of s) (committed_word s) t → In (ran_word s) t

module _ (s : Server) (z : Sized s) where
  abbrev pub first : ℕ
  first = first_ready (rows_of (deps_of s)) (committed_word s) (ran_word s)

  abbrev pub FirstRuns : Type 0
  FirstRuns = Runs (deps_of s) (committed_word s) (ran_word s) first

  pub next_word : next_run s < 2 ^ 64
  unfolding next_run
  next_word = next-lt (deps_of s) z.words (committed_word s) (ran_word s)

  runs-first : (u : ℕ) → In (next_run s) u → FirstRuns
  unfolding next_run
  runs-first = next-runs (deps_of s) z.words (committed_word s) (ran_word s)

  -- nothing is left where nothing runs next
  pub quiet : next_run s ≡ 0 → AllRun s
  unfolding next_run
  quiet = next-none (deps_of s) z.words (committed_word s) (ran_word s) (committed_lt s)

  -- what runs next has a number that has not run
  pub runs-new : (next_run s ≡ 0 → ⊥) → FirstRuns
  runs-new ne = go (next-dec (deps_of s) z.words (committed_word s) (ran_word s))
    where
      go : Dec (first < 64) → FirstRuns
      go (yes h) = next-first (deps_of s) z.words (committed_word s) (ran_word s) h
      go (no h) = absurd (ne (empty_word 64 (next_run s) next_word (λ u i. h (runs-first u i).small)))

  runs-whole : FirstRuns → next_run s ≡ group (rows_of (deps_of s)) first
  unfolding next_run
  runs-whole r = r.whole

  -- so more have run after it
  more-ran : (next_run s ≡ 0 → ⊥) → size (ran_word s) < size (ran_word (run_group s (next_run s)))
  more-ran ne =
      let r = runs-new ne in
      let new : In (next_run s) first = subst (λ (x : ℕ). In x first) (sym (runs-whole r)) (group_self (rows_of (deps_of s)) first r.small) in
      subst (λ (x : ℕ). size (ran_word s) < size x) (sym (group-ran s (next_run s) z.records next_word))
      (part_fewer (ran_word s) (union (ran_word s) (next_run s)) first r.small (sub_left (ran_word s) (next_run s)) (in_or_right (ran_word s) new) r.ready.waits)

  -- where all 64 numbers have run, nothing runs next
  full : 64 ≤ size (ran_word s) → next_run s ≡ 0
  full h =
      empty_word 64 (next_run s) next_word
      (λ u i. let r = runs-first u i in
      r.ready.waits (full-word (ran_word s) h first r.small))

-- 64 turns are enough
pub turns_quiet : (n : ℕ) (s : Server) → Sized s → 64 ≤ size (ran_word s) + n → next_run (turns n s) ≡ 0
turns_quiet zero s z h = rw turns-none (full s z (omega arith))
turns_quiet (suc n) s z h = go (ℕ_discrete (next_run s) 0) (λ m. turns_quiet n (run_group s (next_run s)) (sized_group s (next_run s) z) (omega (arith, m)))
  where
    go : Dec (next_run s ≡ 0) → (size (ran_word s) < size (ran_word (run_group s (next_run s))) → next_run (turns n (run_group s (next_run s))) ≡ 0) → next_run (turns (suc n) s) ≡ 0
    go (yes e) next = ap next_run (turns-stop (suc n) s e) ∙ e
    go (no ne) next = ap next_run (turns_more n s ne) ∙ next (more-ran s z ne)

-- what each run keeps, all of them keep
pub turns-keep : (P : Server → Type 0) → ((s : Server) → P s → P (run_group s (next_run s))) → (n : ℕ) (s : Server) → P s → P (turns n s)
turns-keep P keep zero s p = rw turns-none p
turns-keep P keep (suc n) s p = go (ℕ_discrete (next_run s) 0) (turns-keep P keep n (run_group s (next_run s)) (keep s p))
  where
    go : Dec (next_run s ≡ 0) → P (turns n (run_group s (next_run s))) → P (turns (suc n) s)
    go (yes e) next = subst P (sym (turns-stop (suc n) s e)) p
    go (no ne) next = subst P (sym (turns_more n s ne)) next

pub turns_sized : (n : ℕ) (s : Server) → Sized s → Sized (turns n s)
turns_sized = turns-keep Sized (λ s. sized_group s (next_run s))

-- the dependencies and the commits are as they were, so a number is closed after the runs exactly if it was before them
pub turns-deps : (n : ℕ) (s : Server) → deps_of (turns n s) ≡ deps_of s
turns-deps n s = turns-keep (λ x. deps_of x ≡ deps_of s) (λ x p. group-deps x (next_run x) ∙ p) n s refl

pub turns-committed : (n : ℕ) (s : Server) → committed_word (turns n s) ≡ committed_word s
turns-committed n s = turns-keep (λ x. committed_word x ≡ committed_word s) (λ x p. group-committed-word x (next_run x) ∙ p) n s refl

-- ---- document 01: repeated until 0, no closed number is left unrun

all_case : (b : Bool) (s : Server) → Sized s → b ≡ true → AllRun (cond b (ran_from s (turns 64 s)) (ran_none s 13)).server
all_case b s z e =
    subst (λ (b : Bool). AllRun (cond b (ran_from s (turns 64 s)) (ran_none s 13)).server) (sym e)
    (quiet (turns 64 s) (turns_sized 64 s z) (turns_quiet 64 s z (omega arith)))

pub all_closed-run : (s : Server) → Sized s → formed s ≡ true → AllRun (run_all s).server
unfolding run_all
all_closed-run s z e = all_case (formed s) s z e

-- a run that answers 0 has changed nothing
idle_case : (b : Bool) (s : Server) → Sized s → (cond b (turn s (next_run s)) (ran_none s 13)).many ≡ 0 → (cond b (turn s (next_run s)) (ran_none s 13)).server ≡ s
unfolding turn
idle_case true s z h = ap (run_group s) (size-zero (next_run s) (next_word s z) h) ∙ group-nothing s
idle_case false s z h = refl

pub run_idle : (s : Server) → Sized s → (run s).many ≡ 0 → (run s).server ≡ s
unfolding run
run_idle s z h = idle_case (formed s) s z h

-- and of a server in form there was nothing to run
zero_case : (b : Bool) (s : Server) → Sized s → b ≡ true → (cond b (turn s (next_run s)) (ran_none s 13)).many ≡ 0 → next_run s ≡ 0
unfolding turn
zero_case true s z e h = size-zero (next_run s) (next_word s z) h
zero_case false s z e h = absurd (false≢true e)

pub run-zero : (s : Server) → Sized s → formed s ≡ true → (run s).many ≡ 0 → AllRun s
unfolding run
run-zero s z e h = quiet s z (zero_case (formed s) s z e h)
