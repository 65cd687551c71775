-- Document 01, "What a server does", PreAccept: once a number's arrival set is fixed at a server, it is fixed for good; no message and no run changes it. Assumes nothing.
use mathlib.Core.Path.{◌≡◌, refl, sym, ap, ◌∙◌}
use mathlib.Core.Bool.{Bool, true, cond}
use Prim.Native.Nat.{ℕ}
use lib.Dec.{eqb}
use Rattle.rules.specs.Flags.{there}
use Rattle.wire.specs.declared.Message.{Message}
use Rattle.wire.specs.Codes.{PreAccept, Accept, Prepare, Inquire, commits}
use Rattle.server.specs.declared.Record.{Record}
use Rattle.server.specs.declared.Server.{Server}
use Rattle.server.specs.declared.Changed.{Changed}
use Rattle.server.specs.Held.{record_at, arrived_at}
use Rattle.server.specs.Changes.{promised, with_committed, asked, arrive, pre_accepted, accepted, prepared, committed, inquired, fetched, change}
use Rattle.server.specs.Serve.{serve, arrival_for}
use Rattle.server.specs.Run.{run, run_all}
use Rattle.server.proofs.RunLeaves.{run-leaves, run_all-leaves}
use Rattle.server.proofs.PartStays.{either-part, first_part, asked-part, serve-part}

-- a second arrival is none
arrive-again : (w : ℕ) (v : Record) → there v.arrival.some ≡ true → (arrive w v).arrival ≡ v.arrival
unfolding arrive
arrive-again w v e = first_part (λ (u : Record). u.arrival) v.arrival (arrive w v) _ _ _ refl e refl

module _ (id w : ℕ) (v : Record) (m : Message) (there_is : there v.arrival.some ≡ true) where
  abbrev Leaves : Changed → Type 0
  Leaves c = c.after.arrival ≡ v.arrival

  asked-leaves : (c : Changed) → Leaves c → Leaves (asked id v m c)
  asked-leaves c e = asked-part (λ v. v.arrival) id v m c e

  pre_accept-leaves : Leaves (pre_accepted id w v m)
  unfolding pre_accepted
  pre_accept-leaves = arrive-again w (promised m v) there_is

  commit-leaves : Leaves (committed id v m)
  unfolding committed
  commit-leaves = either-part (λ (u : Record). u.arrival) v.arrival (there v.committed.some) v (with_committed m v) refl refl

  -- one of two, by a test
  either : (b : Bool) (x y : Changed) → Leaves x → Leaves y → Leaves (cond b x y)
  either b x y p q = either-part (λ (c : Changed). c.after.arrival) v.arrival b x y p q

  change-leaves-arrival : Leaves (change id w v m)
  unfolding change accepted prepared inquired fetched
  change-leaves-arrival =
      either (eqb m.code PreAccept) _ _ (asked-leaves _ pre_accept-leaves)
      (either (eqb m.code Accept) _ _ (asked-leaves (accepted id v m) refl)
      (either (eqb m.code Prepare) _ _ (asked-leaves (prepared id v m) refl)
      (either (commits m.code) _ _ commit-leaves
      (either (eqb m.code Inquire) (inquired id v m) (fetched id v m) refl refl))))

pub arrival-stays : (s : Server) (m : Message) (t : ℕ) → arrived_at s t ≡ true → (record_at (serve s m).server t).arrival ≡ (record_at s t).arrival
arrival-stays s m t h =
    serve-part (λ v. v.arrival) (λ r v. refl) s m t (λ e. change-leaves-arrival s.id (arrival_for s m) (record_at s m.t) m (ap (arrived_at s) (sym e) ∙ h))

pub run-arrival-stays : (s : Server) (t : ℕ) → (record_at (run s).server t).arrival ≡ (record_at s t).arrival
run-arrival-stays s t = ((run-leaves s).held t).arrival

pub run_all-arrival-stays : (s : Server) (t : ℕ) → (record_at (run_all s).server t).arrival ≡ (record_at s t).arrival
run_all-arrival-stays s t = ((run_all-leaves s).held t).arrival
