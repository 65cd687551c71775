-- A server's step in the words of document 01 and of request 2: a refused message changes nothing and runs nothing; a Commit (code 2) or a Done (code 20) is taken and then runs until nothing is left, with the count of all
-- that ran in its CommitOK; every other message is taken and runs nothing. All other laws about the step go through these. Assumes nothing.
use mathlib.Core.Path.{◌≡◌, refl, sym, ◌∙◌, subst}
use mathlib.Core.Bool.{Bool, true, false}
use mathlib.Core.List.{[], ◌∷◌}
use borrow.Author.Tests.{eqb-true, eqb-false, eq-eqb, ne_eqb}
use lib.Dec.{eqb}
use Rattle.masks.proofs.Bools.{cond_true, cond_false, not_true_false, true_and_false}
use Rattle.wire.specs.declared.Message.{Message}
use Rattle.wire.specs.Codes.{commits}
use Rattle.wire.specs.Messages.{blank, commit_ok}
use Rattle.wire.proofs.Columns.{one_of, commit-codes}
use Rattle.wire.proofs.FaultsAre.{Of}
use Rattle.server.specs.declared.Server.{Server}
use Rattle.server.specs.declared.Served.{Served}
use Rattle.server.specs.Refusals.{refusal}
use Rattle.server.specs.Run.{run_all}
use Rattle.server.specs.Serve.{refused, taken, then_runs, stepped, serve}

-- taken, and then all that is ready has run
abbrev pub ran_after : Served → Served
ran_after v = record { refusal = 0; reply = commit_ok v.reply.t v.reply.server (run_all v.server).many; server = (run_all v.server).server }

module _ (s : Server) (m : Message) where
  pub step-refused : (refusal s m ≡ 0 → ⊥) → serve s m ≡ record { refusal = refusal s m; reply = blank; server = s }
  unfolding serve
  step-refused n = cond_false (eqb (refusal s m) 0) _ _ (ne_eqb (refusal s m) 0 n)

  not-refused : refusal s m ≡ 0 → serve s m ≡ stepped s m
  unfolding serve
  not-refused e = cond_true (eqb (refusal s m) 0) _ _ (eq-eqb (refusal s m) 0 e)

  pub step-alone : refusal s m ≡ 0 → (Of m (2 ∷ 20 ∷ []) → ⊥) → serve s m ≡ taken s m
  unfolding stepped
  step-alone e n = not-refused e ∙ cond_false (commits m.code) _ _ (commit-codes m.code ∙ not_true_false (one_of m.code (2 ∷ 20 ∷ [])) n)

  pub step-and-runs : refusal s m ≡ 0 → Of m (2 ∷ 20 ∷ []) → serve s m ≡ ran_after (taken s m)
  unfolding stepped then_runs taken
  step-and-runs e c = not-refused e ∙ cond_true (commits m.code) _ _ (commit-codes m.code ∙ c)

  -- so what holds of the three holds of the step
  pub by-step : (P : Served → Type 0) → ((refusal s m ≡ 0 → ⊥) → P (refused s (refusal s m))) → (refusal s m ≡ 0 → commits m.code ≡ false → P (taken s m)) → (refusal s m ≡ 0 → commits m.code ≡ true → P (ran_after (taken s m))) → P (serve s m)
  by-step P f g h = go (eqb (refusal s m) 0) refl (commits m.code) refl
    where
      go : (b : Bool) → eqb (refusal s m) 0 ≡ b → (c : Bool) → commits m.code ≡ c → P (serve s m)
      go true e true k = let z = eqb-true (refusal s m) 0 e in subst P (sym (step-and-runs z (sym (commit-codes m.code) ∙ k))) (h z k)
      go true e false k = let z = eqb-true (refusal s m) 0 e in subst P (sym (step-alone z (λ c. true_and_false (commit-codes m.code ∙ c) k))) (g z k)
      go false e c k = let z = eqb-false (refusal s m) 0 e in subst P (sym (step-refused z)) (f z)
