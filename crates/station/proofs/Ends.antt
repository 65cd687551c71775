-- What a walk of an exported function comes to is what its contract says. Each law is named for the function and for what it shows, and speaks of what the function's calls answer. Assumes nothing.
use Prim.Native.Nat.{ℕ, ◌<◌}
use mathlib.Core.Path.{◌≡◌, refl, ap}
use mathlib.Core.Bool.{Bool, true, false, cond}
use lib.Dec.{ltb}
use borrow.Author.Tests.{ltb-true, lt-leb}
use Rattle.server.specs.declared.Ran.{Ran}
use Rattle.server.specs.declared.Server.{Server}
use Rattle.server.specs.Held.{record_at}
use Rattle.server.specs.Run.{run, run_all, ran_none}
use Rattle.server_step.specs.OneStore.{place_of}
use Rattle.server_step.proofs.StepIsServe.{place_lt}
use Rattle.server.specs.Form.{formed}
use Rattle.server_read.specs.declared.form.Form.{Form}
use Rattle.server_read.specs.InPlace.{form_of, kept as kept_form}
use Rattle.server_plan.specs.declared.Waiting.{Waiting}
use Rattle.server_plan.specs.Planning.{waiting_in, planned_by}
use Rattle.server_run.specs.Limited.{refusal_of, ran_up_to}
use Rattle.server_run.proofs.Turning.{run-once, run-until}
use Rattle.server_lent.specs.Listed.{ran_planned}
use Rattle.server_lent.proofs.RunsInPlace.{planned, planned-refusal, planned-many, planned-server}
use Rattle.door.specs.Told.{counted}
use Rattle.door.specs.Readings.{result_in, result_reading, result_at, no_reading}
use Rattle.server_read.proofs.Sizes.{Told}

-- ---- the runs

pub runs-told : (s : Server) (limit : ℕ) → Told s → record { refusal = (planned s limit).refusal; many = (planned s limit).many } ≡ counted (ran_up_to limit s)
runs-told s limit was = λ j. record { refusal = planned-refusal s limit was j; many = planned-many s limit was j }

pub runs_left : (s : Server) (limit : ℕ) → Told s → ran_planned (planned s limit).plan (planned s limit).log (planned s limit).many s ≡ (ran_up_to limit s).server
runs_left s limit was = planned-server s limit was

-- the plan of the form that was read
module _ (s : Server) (limit : ℕ) (f : Form) (fine : formed s ≡ true) (read : f ≡ form_of s) (d : Waiting) (waits : d ≡ waiting_in s f.word 64) where
  pub plan-so : planned_by (kept_form f) d.deps d.committed s.log limit ≡ planned s limit
  plan-so = rw (waits, read, fine)

  pub plan-fine : 0 ≡ (planned s limit).refusal
  unfolding planned_by refusal_of
  plan-fine = rw fine

pub runs-unformed : (s : Server) (limit : ℕ) → formed s ≡ false → ran_up_to limit s ≡ ran_none s 13
unfolding ran_up_to
runs-unformed s limit e = rw e

module _ (s : Server) where
  pub server-run-told : counted (ran_up_to 1 s) ≡ counted (run s)
  server-run-told = ap counted (run-once s)

  pub server-run-left : (ran_up_to 1 s).server ≡ (run s).server
  server-run-left = ap (λ (r : Ran). r.server) (run-once s)

  pub server-run-all-told : counted (ran_up_to 64 s) ≡ counted (run_all s)
  server-run-all-told = ap counted (run-until s)

  pub server-run-all-left : (ran_up_to 64 s).server ≡ (run_all s).server
  server-run-all-left = ap (λ (r : Ran). r.server) (run-until s)

-- ---- the results

module _ (s : Server) (t place : ℕ) where
  pub server-result-place-of-below : place_of t < 64
  server-result-place-of-below = place_lt t (place_of t) refl

  pub server-result-told : result_at (record_at s (place_of t)) t place ≡ result_reading s t place
  unfolding result_reading result_at place_of
  server-result-told = go (ltb t 64) refl
    where
      go : (b : Bool) → ltb t 64 ≡ b → cond b (result_in (record_at s (place_of t)) place) no_reading ≡ cond b (result_in (record_at s t) place) no_reading
      go true e = rw (lt-leb 64 t (ltb-true t 64 e))
      go false e = refl
