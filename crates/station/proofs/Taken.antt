-- What a decoded message comes to on a lent server, refused or not, is what `take` says. Assumes nothing.
use Prim.Native.Nat.{ℕ, ◌<◌}
use mathlib.Core.Path.{◌≡◌, refl, sym, ap, ◌∙◌, subst}
use mathlib.Core.List.{List}
use mathlib.Core.Bool.{Bool, true, false}
use lib.Dec.{eqb}
use borrow.Author.Tests.{eqb-true, lt-ltb}
use Rattle.masks.proofs.Bools.{not_yes}
use Rattle.rules.specs.Flags.{there}
use Rattle.rules.specs.declared.refusals.Refusal.{Refusal}
use Rattle.rules.specs.Refusal.{number_of}
use Rattle.wire.specs.declared.Message.{Message}
use Rattle.wire.specs.Codes.{commits}
use Rattle.wire.specs.Encoding.{encode}
use Rattle.wire.specs.Holding.{SetFits}
use Rattle.wire.specs.Messages.{commit_ok}
use Rattle.wire.proofs.Columns.{commit-codes}
use Rattle.server.specs.declared.Changed.{Changed}
use Rattle.server.specs.declared.Served.{Served}
use Rattle.server.specs.declared.Server.{Server}
use Rattle.server.specs.Held.{record_at, put_record}
use Rattle.server.specs.Form.{formed}
use Rattle.server.specs.Refusals.{refusal}
use Rattle.server.specs.Changes.{committed as commits-to, change}
use Rattle.server.specs.Run.{run_all}
use Rattle.server.specs.Serve.{arrival_for, taken, stepped, serve}
use Rattle.server.proofs.Passed.{passed, number_below}
use Rattle.server.proofs.DoesIs.{at-commit, step-runs}
use Rattle.server_step.specs.declared.Considered.{Considered}
use Rattle.server_step.specs.OneStore.{Considering, considered}
use Rattle.server_step.proofs.StepIsServe.{step-alone, considered-taken}
use Rattle.server_read.specs.declared.form.Form.{Form}
use Rattle.server_read.specs.InPlace.{FormRead, form_of, form_read, kept, considered_by}
use Rattle.server_read.proofs.StepInPlace.{considered_by_lem}
use Rattle.server_read.proofs.Sizes.{Told, records-long, counters-long, log-long, words_small}
use Rattle.server_plan.specs.Planning.{PlanTold}
use Rattle.server_lent.specs.Listed.{ran_planned}
use Rattle.server_lent.proofs.CommitInPlace.{commit-many, commit-server}
use Rattle.door.specs.Exchange.{nothing_taken, ends, taking}
use Rattle.door.proofs.Answered.{number-there}
use Rattle.station.specs.Commits.{place_in, plan_for, committed_at, committed}

-- ---- a decoded message

module _ (s : Server) (m : Message) (z : List ℕ) where
  pub refused-so : (n : ℕ) → refusal s m ≡ n → there n ≡ true → taking s m z ≡ nothing_taken s z n
  unfolding taking serve
  refused-so n e h = let no : eqb n 0 ≡ false = not_yes (eqb n 0) h in rw (e, no, no)

  pub unformed : formed s ≡ false → taking s m z ≡ nothing_taken s z 13
  unformed e = refused-so 13 (unfold refusal in rw e) refl

  -- the refusal of the step as it is computed
  refusal-so : (considered s m).refusal ≡ refusal s m
  unfolding taken
  refusal-so = go (eqb (refusal s m) 0) refl
    where
      go : (b : Bool) → eqb (refusal s m) 0 ≡ b → (considered s m).refusal ≡ refusal s m
      go true e = let q = ap (λ (v : Served). v.refusal) (step-alone s m) in let q' : (considered s m).refusal ≡ 0 = rw e at q in q' ∙ sym (eqb-true (refusal s m) 0 e)
      go false e = let q = ap (λ (v : Served). v.refusal) (step-alone s m) in rw e at q

  -- ---- that is not refused

  module _ (e : refusal s m ≡ 0) where
    abbrev o : Changed
    o = change s.id (arrival_for s m) (record_at s m.t) m

    -- what it comes to
    abbrev comes : Considered
    comes = record { place = m.t; after = o.after; reply = o.reply }

    comes-so : let c = considered s m in ◌≡◌ {A = Considered} (record { place = c.place; after = c.after; reply = c.reply }) comes
    comes-so = λ j. let c = considered-taken s m e j in record { place = c.place; after = c.after; reply = c.reply }

    -- no Commit: the one record is stored
    stored-so : commits m.code ≡ false → ends s z (encode o.reply z) (put_record s m.t o.after) ≡ taking s m z
    unfolding taking serve stepped taken
    stored-so k = rw (e, k)

    -- a Commit: and what is ready runs
    module _ (was : Told s) (typed : SetFits m.set) (k : commits m.code ≡ true) where
      abbrev Z : Server
      Z = put_record s m.t o.after

      abbrev p : PlanTold
      p = plan_for s (form_read s) comes m.t

      many-so : p.many ≡ (run_all Z).many
      many-so = commit-many s m (records-long s was) (counters-long s was) (log-long s was) (words_small s was) typed e k

      server-so : ran_planned p.plan p.log p.many Z ≡ (run_all Z).server
      server-so = commit-server s m (records-long s was) (counters-long s was) (log-long s was) (words_small s was) typed e k

      reply-so : o.reply ≡ commit_ok m.t s.id 0
      unfolding commits-to
      reply-so = ap (λ (x : Changed). x.reply) (at-commit s.id (arrival_for s m) (record_at s m.t) m (sym (commit-codes m.code) ∙ k))

      serve-so : serve s m ≡ record { refusal = 0; reply = commit_ok m.t s.id (run_all Z).many; server = (run_all Z).server }
      serve-so = step-runs s m e (sym (commit-codes m.code) ∙ k)

      commit-so : committed_at s (form_read s) comes m.t z ≡ taking s m z
      unfolding taking
      commit-so =
          ap (λ (r : Message). ends s z (encode (commit_ok r.t r.server p.many) z) (ran_planned p.plan p.log p.many Z)) reply-so
          ∙ ap (λ (x : Server). ends s z (encode (commit_ok m.t s.id p.many) z) x) server-so
          ∙ ap (λ (n : ℕ). ends s z (encode (commit_ok m.t s.id n) z) (run_all Z).server) many-so
          ∙ rw serve-so

  -- ---- as it is computed with the form f that was read

  module _ (f : Form) (fine : formed s ≡ true) (read : f ≡ form_of s) where
    pub kept-so : kept f ≡ form_read s
    kept-so = rw (read, fine)

    step : considered_by s (kept f) m ≡ considered s m
    step = ap (λ (x : FormRead). considered_by s x m) kept-so ∙ considered_by_lem s m

    step-refusal : (considered_by s (kept f) m).refusal ≡ refusal s m
    step-refusal = ap (λ (x : Considering). x.refusal) step ∙ refusal-so

    pub step-refused : (r : Refusal) → number_of r ≡ (considered_by s (kept f) m).refusal → taking s m z ≡ nothing_taken s z (number_of r)
    step-refused r e = refused-so (number_of r) (sym (e ∙ step-refusal)) (number-there r)

    module _ (none : 0 ≡ (considered_by s (kept f) m).refusal) (c : Considered) (is : let x = considered_by s (kept f) m in c ≡ record { place = x.place; after = x.after; reply = x.reply }) where
      free : refusal s m ≡ 0
      free = sym (none ∙ step-refusal)

      is-comes : c ≡ comes free
      is-comes = is ∙ (λ j. record { place = (step j).place; after = (step j).after; reply = (step j).reply }) ∙ comes-so free

      pub place-below : c.place < 64
      place-below = subst (λ (x : Considered). x.place < 64) (sym is-comes) (number_below m (passed s m free).numbers)

      place-is : place_in c ≡ c.place
      unfolding place_in
      place-is = rw (lt-ltb c.place 64 place-below)

      pub stored-all : commits m.code ≡ false → ends s z (encode c.reply z) (put_record s c.place c.after) ≡ taking s m z
      stored-all k = ap (λ (x : Considered). ends s z (encode x.reply z) (put_record s x.place x.after)) is-comes ∙ stored-so free k

      pub commit-all : Told s → SetFits m.set → commits m.code ≡ true → committed s (kept f) c z ≡ taking s m z
      commit-all was typed k =
          ap (λ (i : ℕ). committed_at s (kept f) c i z) place-is
          ∙ (λ j. committed_at s (kept-so j) (is-comes j) (is-comes j).place z)
          ∙ commit-so free was typed k
