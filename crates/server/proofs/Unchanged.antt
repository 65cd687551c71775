-- What leaves the record leaves the server: a step stores the record that it was given back, so Done, Behind, Inquire, Fetch and a repeated Commit change nothing.
-- Assumes nothing.
use Prim.Native.Nat.{ℕ}
use mathlib.Core.Path.{◌≡◌, ap, ◌∙◌}
use lib.Seq.{set-get_or}
use Rattle.server.specs.declared.Record.{Record}
use Rattle.server.specs.declared.Server.{Server}
use Rattle.server.specs.declared.Changed.{Changed}
use Rattle.server.specs.Held.{no_record, record_at, put_record}
use Rattle.server.specs.Serve.{served}

pub nothing_changed : (s : Server) (t : ℕ) (c : Changed) → c.after ≡ record_at s t → (served s t c).server ≡ s
nothing_changed s t c e =
    ap (λ (v : Record). put_record s t v) e
    ∙ λ i. record { id = s.id; records = set-get_or s.records t no_record i; counters = s.counters; log = s.log }
