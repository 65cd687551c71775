-- A server's step as it is computed on a lent server: the form, who came earlier, and what a message comes to.
use Rattle.std.specs.Prelude.{ℕ, Bool, true, ◌&&◌, eqb}
use Rattle.masks.specs.Folds.{mask_of}
use Rattle.rules.specs.Flags.{there}
use Rattle.rules.specs.declared.Keys.{Keys}
use Rattle.rules.specs.Keys.{keys_on, clashes}
use Rattle.wire.specs.declared.Message.{Message}
use Rattle.server.specs.declared.Server.{Server}
use Rattle.server.specs.Held.{record_at, shard}
use Rattle.server.specs.Form.{formed}
use Rattle.server.specs.Serve.{fixes}
use Rattle.server_form.specs.OnePass.{read_log}
use Rattle.server_step.specs.OneStore.{Considering, refusal_by, looked, place_of, change_by}
use Rattle.server_read.specs.declared.form.Form.{Form}

-- ---- the form

-- what is read of a server that keeps its form
abbrev pub form_of : Server → Form
form_of s = record { id = s.id; shard = shard s; word = (read_log s.log).word }

-- the same of any server, with whether it keeps the form
pub record FormRead : Type 0 where
  pub id : ℕ
  pub shard : ℕ
  pub word : ℕ
  pub fine : Bool

abbrev pub form_read : Server → FormRead
form_read s = record { id = s.id; shard = shard s; word = (read_log s.log).word; fine = formed s }

-- of a form that is kept
abbrev pub kept : Form → FormRead
kept f = record { id = f.id; shard = f.shard; word = f.word; fine = true }

-- ---- who came earlier

-- t has arrived, and conflicts with these keys at shard k
abbrev pub came_with : Server → Keys → (k t : ℕ) → Bool
came_with s keys k t = there (record_at s t).arrival.some && clashes keys (keys_on (record_at s t).pieces k)

unfoldable pub earlier_in : Server → Keys → (k n : ℕ) → ℕ
earlier_in s keys k n = mask_of (came_with s keys k) n

-- ---- the step

-- what a message comes to at a server of this form
unfoldable pub considered_by : Server → FormRead → Message → Considering
considered_by s f m =
    let i = place_of m.t in
    let n = refusal_by f.fine f.shard (record_at s i) m in
    let c = change_by n f.id (earlier_in s (keys_on m.pieces f.shard) f.shard (looked (eqb n 0 && fixes (record_at s i) m))) (record_at s i) m in
    record { refusal = n; place = i; after = c.after; reply = c.reply }
