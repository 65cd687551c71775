-- Document 01, "What a server does", PreAccept: whatever the server has accepted, it holds on to; a PreAccept, first or repeated, refused or not, does not take it away. Assumes nothing.
use mathlib.Core.Path.{◌≡◌, refl, ◌∙◌, ap}
use Prim.Native.Nat.{ℕ}
use lib.Dec.{eqb}
use borrow.Author.Tests.{eq-eqb}
use Rattle.masks.proofs.Bools.{cond_true}
use Rattle.rules.specs.Flags.{there}
use Rattle.wire.specs.declared.Message.{Message}
use Rattle.wire.specs.Codes.{PreAccept}
use Rattle.server.specs.declared.Record.{Record}
use Rattle.server.specs.declared.Server.{Server}
use Rattle.server.specs.declared.Changed.{Changed}
use Rattle.server.specs.Held.{record_at}
use Rattle.server.specs.Changes.{promised, with_arrival, arrive, pre_accepted, change}
use Rattle.server.specs.Serve.{serve, arrival_for}
use Rattle.server.proofs.PartStays.{either-part, asked-part, serve-part}

arrival-leaves-accepted : (w : ℕ) (v : Record) → (arrive w v).accepted ≡ v.accepted
unfolding arrive
arrival-leaves-accepted w v = either-part (λ (u : Record). u.accepted) v.accepted (there v.arrival.some) _ (with_arrival w v) refl refl

module _ (id w : ℕ) (v : Record) (m : Message) where
  pre_accept-leaves-accepted : m.code ≡ PreAccept → (change id w v m).after.accepted ≡ v.accepted
  unfolding change pre_accepted
  pre_accept-leaves-accepted e =
      ap (λ (c : Changed). c.after.accepted) (cond_true (eqb m.code PreAccept) _ _ (eq-eqb m.code PreAccept e))
      ∙ asked-part (λ v. v.accepted) id v m (pre_accepted id w v m) (arrival-leaves-accepted w (promised m v))

pub accepted-stays : (s : Server) (m : Message) → m.code ≡ PreAccept → (t : ℕ) → (record_at (serve s m).server t).accepted ≡ (record_at s t).accepted
accepted-stays s m e t =
    serve-part (λ v. v.accepted) (λ r v. refl) s m t (λ q. pre_accept-leaves-accepted s.id (arrival_for s m) (record_at s m.t) m e)
