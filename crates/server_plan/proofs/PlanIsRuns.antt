-- The plan of a server in form is what runs, in order. Assumes nothing.
use Prim.Native.Nat.{ℕ, zero, suc, ◌-◌, ◌^◌, ◌≤◌, ◌<◌}
use mathlib.Core.Path.{◌≡◌, refl, sym, ap, ap₂, ◌∙◌, subst}
use mathlib.Core.Bool.{Bool, true, false, cond}
use mathlib.Core.List.{List}
use native.Mathlib.Decide.{ℕ_discrete}
use native.Mathlib.Omega.{arith}
use borrow.Author.Tests.{lt-ltb}
use lib.ListN.{length}
use Rattle.masks.specs.Bits.{has, union}
use Rattle.masks.specs.Folds.{tab, over}
use Rattle.graph.specs.Walk.{rows_of, next_group}
use Rattle.graph.proofs.NextGroups.{next-lt}
use Rattle.server.specs.declared.Log.{Log}
use Rattle.server.specs.declared.Server.{Server}
use Rattle.server.specs.Held.{committed_word}
use Rattle.server.specs.Form.{formed}
use Rattle.server.specs.Run.{deps_at, deps_of, run_one, turns}
use Rattle.server_form.specs.OnePass.{read_log}
use Rattle.server_run.specs.Gathered.{unrun_at}
use Rattle.server_run.specs.Limited.{allowed}
use Rattle.server_run.proofs.Unrun.{deps-words, next-unrun}
use Rattle.server_run.proofs.Turning.{allowed_form, Asked, Going, going_start, going_done, going-idle, going_on, going-room}
use Rattle.server_plan.specs.Planning.{noted, logged_of, planned_log}
use Rattle.server_plan.proofs.PlanTurns.{planned-stop, planned-more}

one_noted : (n : Server) (u : ℕ) → n.log.count < 64 → noted n.log u ≡ (run_one n u).log
unfolding noted run_one
one_noted n u l = rw (lt-ltb _ _ l)

module _ (s : Server) (limit : ℕ) (records : length s.records ≡ 64) (words : (t : ℕ) → t < 64 → deps_at s t < 2 ^ 64) where
  abbrev most : ℕ
  most = allowed (formed s) limit

  abbrev rows : List ℕ
  rows = rows_of (tab (unrun_at s) 64)

  asked : Asked s (committed_word s) rows most
  asked = record { fine = λ h. allowed_form (formed s) limit most refl h; graph = refl; commits = refl; words = deps-words s words }

  module _ {ran left : ℕ} {n : Server} (go : Going s most ran n left) (h : 0 < left) (g : ℕ) (found : g ≡ next_group rows (committed_word s) ran) where
    same_log : (u : ℕ) → u ≤ 64 → logged_of n.log g u ≡ (over run_one n g u).log
    unfolding logged_of over
    same_log zero l = refl
    same_log (suc u) l = by-has (has g u) refl (same_log u (omega (arith, l)))
      where
        by-has : (b : Bool) → has g u ≡ b → over noted n.log g u ≡ (over run_one n g u).log
            → cond b (noted (over noted n.log g u) u) (over noted n.log g u) ≡ (cond b (run_one (over run_one n g u) u) (over run_one n g u)).log
        by-has true e ih = ap (λ (x : Log). noted x u) ih ∙ one_noted (over run_one n g u) u (going-room go asked g found h u (omega (arith, l)) e (over run_one n g u) refl)
        by-has false e ih = ih

    small : g < 2 ^ 64
    small = subst (λ (x : ℕ). x < 2 ^ 64) (sym (found ∙ next-unrun s (asked.fine (omega (arith, h, go.few))) asked.words ran (go.old h))) (next-lt (deps_of s) asked.words (committed_word s) ran)

    goes_on : (g ≡ 0 → ⊥) → Going s most (union ran g) (over run_one n g 64) (left - 1)
    goes_on ne = going_on go asked g found h small ne (over run_one n g 64) refl

  plan-going : (left ran : ℕ) (n : Server) → Going s most ran n left → planned_log rows (committed_word s) left ran n.log ≡ (turns most s).log
  plan-going zero ran n go = unfold planned_log in ap (λ (x : Server). x.log) (going_done go refl)
  plan-going (suc k) ran n go = by (ℕ_discrete (next_group rows (committed_word s) ran) 0) (λ ne. plan-going k (union ran g) (over run_one n g 64) (subst (Going s most (union ran g) (over run_one n g 64)) (omega arith) (goes_on go (omega arith) g refl ne)))
    where
      g : ℕ
      g = next_group rows (committed_word s) ran

      by : Dec (g ≡ 0) → ((g ≡ 0 → ⊥) → planned_log rows (committed_word s) k (union ran g) (over run_one n g 64).log ≡ (turns most s).log) → planned_log rows (committed_word s) (suc k) ran n.log ≡ (turns most s).log
      by (yes e) ih = planned-stop rows (committed_word s) (suc k) ran g n.log refl e ∙ ap (λ (x : Server). x.log) (going-idle go asked g refl (omega arith) e)
      by (no ne) ih =
          planned-more rows (committed_word s) (suc k) ran g n.log (omega arith) refl ne
          ∙ ap₂ (λ (m : ℕ) (l : Log). planned_log rows (committed_word s) m (union ran g) l) (omega arith) (same_log go (omega arith) g refl 64 (omega arith))
          ∙ ih ne

  pub plan-is : planned_log rows (committed_word s) most (read_log s.log).word s.log ≡ (turns most s).log
  plan-is = plan-going most (read_log s.log).word s (going_start s most (read_log s.log).word records asked.fine refl)
