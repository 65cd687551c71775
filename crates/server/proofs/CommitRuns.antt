-- Request 2 of document 02: "The state after the new call is that of the old Commit and its runs." For every server in memory and every message: what a Commit or Done leaves is what the step of document 01 left, with one run
-- after the other until one runs nothing, and its count is the sum of theirs; what is refused, and every other message, does what it did. Assumes nothing.
use Prim.Native.Nat.{ℕ, zero, suc, ◌+◌, ◌-◌, ◌≤◌}
use mathlib.Core.Path.{◌≡◌, sym, ap, ◌∙◌, subst}
use mathlib.Core.Logic.{◌⊎◌, inl, inr, ◌≢◌}
use mathlib.Core.Bool.{true, false}
use native.Mathlib.Decide.{ℕ_discrete}
use native.Mathlib.Omega.{arith}
use borrow.Author.Tests.{eq-eqb, ne_eqb}
use lib.Dec.{eqb}
use Rattle.masks.specs.Folds.{size}
use Rattle.masks.proofs.Bools.{cond_true, cond_false, true_and_false}
use Rattle.masks.proofs.Counts.{size-zero, size_none}
use Rattle.rules.specs.Choice.{◌if◌else◌}
use Rattle.wire.specs.declared.Message.{Message}
use Rattle.wire.specs.Codes.{commits}
use Rattle.wire.specs.Messages.{commit_ok}
use Rattle.wire.specs.Holding.{SetFits}
use Rattle.wire.proofs.Columns.{commit-codes}
use Rattle.server.specs.declared.Changed.{Changed}
use Rattle.server.specs.declared.Ran.{Ran}
use Rattle.server.specs.declared.Server.{Server}
use Rattle.server.specs.declared.Served.{Served}
use Rattle.server.specs.Held.{record_at}
use Rattle.server.specs.Form.{formed}
use Rattle.server.specs.Refusals.{refusal}
use Rattle.server.specs.Run.{next_run, run_group, turn, run, turns, ran_from, run_all}
use Rattle.server.specs.Changes.{committed}
use Rattle.server.specs.Serve.{arrival_for, refused, taken, serve}
use Rattle.server.proofs.StepIs.{ran_after, step-refused, step-and-runs, by-step}
use Rattle.server.proofs.RunGroups.{group-count}
use Rattle.server.proofs.RunTurns.{Sized, next_word, turns-none, turns-stop, turns_more, turns-keep, turns_quiet, group-nothing}
use Rattle.server.proofs.FormParts.{parts_formed}
use Rattle.server.proofs.RunKeepsForm.{Memory, Sound, group_sound}
use Rattle.server.proofs.KeepsForm.{taken-sound}
use Rattle.server.proofs.DoesIs.{at-commit}

-- ---- what stations did before: the step of document 01, and then run after run

-- the step in which a Commit ran nothing. Its CommitOK had no count; here it is 0
unfoldable pub old_serve : Server → Message → Served
old_serve s m = taken s m if eqb (refusal s m) 0 else refused s (refusal s m)

-- runs, one after the other until one runs nothing: n numbers ran in all, and z is left
pub data RanUntilNone : Server → ℕ → Server → Type 0 where
  none : {s : Server} → (run s).refusal ≡ 0 → (run s).many ≡ 0 → RanUntilNone s 0 (run s).server
  more : {s z : Server} {n : ℕ} → (run s).refusal ≡ 0 → (run s).many ≢ 0 → RanUntilNone (run s).server n z → RanUntilNone s ((run s).many + n) z

-- ---- runs until 0 are that

pub sized_of : {s : Server} → Sound s → Sized s
sized_of h = record { records = h.memory.records; words = h.memory.words }

run_in_form : (s : Server) → Sound s → run s ≡ turn s (next_run s)
unfolding run
run_in_form s h = cond_true (formed s) _ _ (parts_formed s h.form)

turns_longer : (n : ℕ) (s : Server) → s.log.count ≤ (turns n s).log.count
turns_longer n s = turns-keep (λ x. s.log.count ≤ x.log.count) (λ x p. omega (arith, p, group-count x (next_run x))) n s (omega arith)

module _ (s : Server) (h : Sound s) where
  stops : next_run s ≡ 0 → RanUntilNone s 0 s
  unfolding turn
  stops e =
      let r = run_in_form s h in
      subst (RanUntilNone s 0) (ap (λ (x : Ran). x.server) r ∙ ap (run_group s) e ∙ group-nothing s)
      (none (ap (λ (x : Ran). x.refusal) r) (ap (λ (x : Ran). x.many) r ∙ ap size e ∙ size_none))

  goes_on : (next_run s ≡ 0 → ⊥) → (z : Server) (n : ℕ) → RanUntilNone (run_group s (next_run s)) n z → RanUntilNone s (size (next_run s) + n) z
  unfolding turn
  goes_on ne z n rest =
      let r = run_in_form s h in
      subst (λ k. RanUntilNone s (k + n) z) (ap (λ (x : Ran). x.many) r)
      (more (ap (λ (x : Ran). x.refusal) r) (λ e. ne (size-zero (next_run s) (next_word s (sized_of h)) (sym (ap (λ (x : Ran). x.many) r) ∙ e)))
      (subst (λ x. RanUntilNone x n z) (sym (ap (λ (x : Ran). x.server) r)) rest))

turns-until : (n : ℕ) (s : Server) → Sound s → next_run (turns n s) ≡ 0 → RanUntilNone s ((turns n s).log.count - s.log.count) (turns n s)
turns-until zero s h e =
    let same = turns-none s in
    subst (λ z. RanUntilNone s (z.log.count - s.log.count) z) (sym same) (subst (λ k. RanUntilNone s k s) (omega arith) (stops s h (ap next_run (sym same) ∙ e)))
turns-until (suc n) s h e = go (ℕ_discrete (next_run s) 0) (turns-until n (run_group s (next_run s)) (group_sound s h))
  where
    go : Dec (next_run s ≡ 0)
        → (next_run (turns n (run_group s (next_run s))) ≡ 0 → RanUntilNone (run_group s (next_run s)) ((turns n (run_group s (next_run s))).log.count - (run_group s (next_run s)).log.count) (turns n (run_group s (next_run s))))
        → RanUntilNone s ((turns (suc n) s).log.count - s.log.count) (turns (suc n) s)
    go (yes q) ih =
        let same = turns-stop (suc n) s q in
        subst (λ z. RanUntilNone s (z.log.count - s.log.count) z) (sym same) (subst (λ k. RanUntilNone s k s) (omega arith) (stops s h q))
    go (no q) ih =
        let same = turns_more n s q in
        let z = turns n (run_group s (next_run s)) in
        subst (λ z. RanUntilNone s (z.log.count - s.log.count) z) (sym same)
        (subst (λ k. RanUntilNone s k z) (omega (arith, group-count s (next_run s), turns_longer n (run_group s (next_run s))))
        (goes_on s h q z _ (ih (ap next_run (sym same) ∙ e))))

pub run_all_in_form : (s : Server) → Sound s → run_all s ≡ ran_from s (turns 64 s)
unfolding run_all
run_all_in_form s h = cond_true (formed s) _ _ (parts_formed s h.form)

-- then nothing runs next, and no closed number is left unrun
pub run_all-rests : (s : Server) → Sound s → next_run (run_all s).server ≡ 0
run_all-rests s h = ap (λ (r : Ran). next_run r.server) (run_all_in_form s h) ∙ turns_quiet 64 s (sized_of h) (omega arith)

pub run_all_is_runs : (s : Server) → Sound s → RanUntilNone s (run_all s).many (run_all s).server
run_all_is_runs s h = subst (λ r. RanUntilNone s r.many r.server) (sym (run_all_in_form s h)) (turns-until 64 s h (turns_quiet 64 s (sized_of h) (omega arith)))

-- ---- the theorem

module _ (s : Server) (m : Message) where
  old-taken : refusal s m ≡ 0 → old_serve s m ≡ taken s m
  unfolding old_serve
  old-taken e = cond_true (eqb (refusal s m) 0) _ _ (eq-eqb (refusal s m) 0 e)

  -- what is refused, and every message but Commit and Done
  pub same_step : (refusal s m ≢ 0) ⊎ (commits m.code ≡ false) → serve s m ≡ old_serve s m
  unfolding old_serve
  same_step (inl n) = step-refused s m n ∙ sym (cond_false (eqb (refusal s m) 0) _ _ (ne_eqb (refusal s m) 0 n))
  same_step (inr c) = by-step s m (λ v. v ≡ old_serve s m)
      (λ n. sym (cond_false (eqb (refusal s m) 0) _ _ (ne_eqb (refusal s m) 0 n)))
      (λ e k. sym (old-taken e))
      (λ e k. absurd (true_and_false k c))

  module _ (e : refusal s m ≡ 0) (c : commits m.code ≡ true) where
    new-step : serve s m ≡ ran_after (old_serve s m)
    new-step = step-and-runs s m e (sym (commit-codes m.code) ∙ c) ∙ ap ran_after (sym (old-taken e))

    -- the answer: T, the server, and the count of what ran
    pub commit-answers : (serve s m).reply ≡ commit_ok m.t s.id (run_all (old_serve s m).server).many
    unfolding taken committed
    commit-answers =
        ap (λ (v : Served). v.reply) new-step
        ∙ ap (λ (x : Message). commit_ok x.t x.server (run_all (old_serve s m).server).many)
        (ap (λ (v : Served). v.reply) (old-taken e) ∙ ap (λ (x : Changed). x.reply) (at-commit s.id (arrival_for s m) (record_at s m.t) m (sym (commit-codes m.code) ∙ c)))

    module _ (mem : Memory s) (fits : SetFits m.set) where
      after-sound : Sound (old_serve s m).server
      after-sound = subst Sound (ap (λ (v : Served). v.server) (sym (old-taken e))) (taken-sound s m mem fits e)

      -- the state is that of the old step and its runs, and the count is the sum of theirs
      pub commit-runs : RanUntilNone (old_serve s m).server (serve s m).reply.ran (serve s m).server
      commit-runs = subst (λ v. RanUntilNone (old_serve s m).server v.reply.ran v.server) (sym new-step) (run_all_is_runs (old_serve s m).server after-sound)

      -- so nothing that is closed is left unrun
      pub commit-rests : next_run (serve s m).server ≡ 0
      commit-rests = ap (λ (v : Served). next_run v.server) new-step ∙ run_all-rests (old_serve s m).server after-sound
