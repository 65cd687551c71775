-- A step stores one record, that of its number, and what a Commit runs stores results: a part of a record that the message's change leaves there, and results leave, stays in every record. Assumes nothing.
use mathlib.Core.Path.{◌≡◌, refl, sym, ◌∙◌, ap}
use mathlib.Core.Bool.{Bool, true, false, cond, false≢true}
use Prim.Native.Nat.{ℕ}
use lib.Dec.{ltb}
use Rattle.rules.specs.Flags.{there}
use Rattle.wire.specs.declared.Message.{Message}
use Rattle.wire.specs.Messages.{done, behind}
use Rattle.server.specs.declared.Record.{Record}
use Rattle.server.specs.declared.Server.{Server}
use Rattle.server.specs.declared.Changed.{Changed}
use Rattle.server.specs.Held.{no_record, record_at}
use Rattle.server.specs.Changes.{becomes, asked, change}
use Rattle.rules.specs.declared.Values.{Values}
use Rattle.server.specs.Form.{formed}
use Rattle.server.specs.Run.{with_results, next_run, ran_none, ran_from, turns, run_all}
use Rattle.server.specs.Serve.{serve, taken, arrival_for}
use Rattle.server.proofs.StepIs.{by-step}
use Rattle.server.proofs.RunGroups.{group-record}
use Rattle.server.proofs.RunTurns.{turns-keep}
use Rattle.server.proofs.RunLeaves.{set-either}

-- one of two, by a test: what is of both is of it
pub either-part : {A C : Type 0} (part : C → A) (a : A) (b : Bool) (x y : C) → part x ≡ a → part y ≡ a → part (cond b x y) ≡ a
either-part part a true x y p q = p
either-part part a false x y p q = q

-- the first of two, where the test holds
pub first_part : {A C : Type 0} (part : C → A) (a : A) (r : C) (b : Bool) (x y : C) → r ≡ cond b x y → b ≡ true → part x ≡ a → part r ≡ a
first_part part a r true x y q e p = ap part q ∙ p
first_part part a r false x y q e p = absurd (false≢true e)

module _ {A : Type 0} (part : Record → A) where
  -- Done and Behind change nothing
  pub asked-part : (id : ℕ) (v : Record) (m : Message) (c : Changed) → part c.after ≡ part v → part (asked id v m c).after ≡ part v
  unfolding asked
  asked-part id v m c e =
      either-part after (part v) (there v.committed.some) (becomes v (done m.t v.pieces v.committed.set)) _ refl
      (either-part after (part v) (ltb m.ballot v.promise) (becomes v (behind m.t id m.ballot v.promise)) c refl e)
    where
      after : Changed → A
      after c = part c.after

  -- runs leave what results leave
  runs-part : ((r : Values) (v : Record) → part (with_results r v) ≡ part v) → (s : Server) (t : ℕ) → part (record_at (run_all s).server t) ≡ part (record_at s t)
  unfolding run_all
  runs-part h s t = go (formed s)
    where
      go : (b : Bool) → part (record_at (cond b (ran_from s (turns 64 s)) (ran_none s 13)).server t) ≡ part (record_at s t)
      go true = turns-keep (λ x. part (record_at x t) ≡ part (record_at s t)) (λ x p. group-record x (next_run x) part h t ∙ p) 64 s refl
      go false = refl

  -- of the record of the number t, where t is the message's if it has to be
  pub serve-part : ((r : Values) (v : Record) → part (with_results r v) ≡ part v) → (s : Server) (m : Message) (t : ℕ) →
      (t ≡ m.t → part (change s.id (arrival_for s m) (record_at s m.t) m).after ≡ part (record_at s m.t)) →
      part (record_at (serve s m).server t) ≡ part (record_at s t)
  unfolding taken
  serve-part h s m t f = by-step s m (λ v. part (record_at v.server t) ≡ part (record_at s t)) (λ n. refl) (λ e k. alone) (λ e k. runs-part h (taken s m).server t ∙ alone)
    where
      alone : part (record_at (taken s m).server t) ≡ part (record_at s t)
      alone = set-either (λ v. part v ≡ part (record_at s t)) s.records m.t t _ no_record refl (λ e. f e ∙ ap (λ u. part (record_at s u)) (sym e))
