-- Document 02, request 3: what is printed of a capture, from its bytes alone. Its records are played to twelve fresh servers, in the file's order.
use Rattle.std.specs.Prelude.{ℕ, zero, suc, ◌+◌, ◌%◌, ◌^◌, Bool, Some, None, List, [], ◌++◌, length, take, drop, replicate, ◌==◌, nat_le, nat_lt, slice_index_or, slice_set}
use Rattle.masks.specs.Folds.{tab}
use Rattle.rules.specs.Choice.{◌if◌else◌}
use Rattle.rules.specs.Flags.{there}
use Rattle.rules.specs.Cluster.{SERVERS, COORDINATORS}
use Rattle.xdr.specs.Word.{value}
use Rattle.wire.specs.declared.Message.{Message}
use Rattle.wire.specs.Bytes.{decode}
use Rattle.server.specs.declared.Server.{Server}
use Rattle.server.specs.Host.{fresh_server}
use Rattle.door.specs.Exchange.{Exchange}
use Rattle.door.specs.Exchange.{take as taken}
use Rattle.capture.specs.declared.Shown.{Shown}
use Rattle.capture.specs.declared.Shown.TheVariants.{Dash, Code, Refusal}
use Rattle.capture.specs.declared.Told.{Told}
use Rattle.capture.specs.Pcap.{HEADER, HEAD, header, head}
use Rattle.capture.specs.Text.{line, bad_header, cut_record}

-- ---- a record's data: an XDR unsigned int for the destination, 0 to 11 a server and 12 to 19 a coordinator, then one message

unfoldable pub twelve : List Server
twelve = tab fresh_server SERVERS

abbrev pub unread : (refusal : ℕ) → Told
unread n = record { code = None; t = None; answer = Refusal n }

abbrev pub read : Message → Shown → Told
read m answer = record { code = Some m.code; t = Some m.t; answer = answer }

-- a server takes the message's bytes as a host lends them, with room for the longest answer, and the answer begins with its code
abbrev pub room : List ℕ
room = replicate 176 0

unfoldable pub answered : Exchange → Shown
answered e = Refusal e.answer.refusal if there e.answer.refusal else Code (value (take 4 e.output))

-- what its line says, and the servers after it
pub record Played : Type 0 where
  pub told : Told
  pub servers : List Server

unfoldable pub played : List Server → (bytes : List ℕ) → Played
played ss bytes =
    let to = value (take 4 bytes) in
    let m = decode (drop 4 bytes) in
    let e = taken (slice_index_or ss to (fresh_server to)) (drop 4 bytes) room in
    record { told = unread 10; servers = ss } if nat_lt (length bytes) 4
    else record { told = unread 1; servers = ss } if nat_le (SERVERS + COORDINATORS) to
    else record { told = unread m.refusal; servers = ss } if there m.refusal
    else record { told = read m.message Dash; servers = ss } if nat_le SERVERS to
    else record { told = read m.message (answered e); servers = slice_set ss to e.server }

-- ---- the file

-- the lines, and the exit status: 0 where the walk came to the end of the file
pub record Printed : Type 0 where
  pub text : List ℕ
  pub status : ℕ

abbrev pub ended : Printed
ended = record { text = []; status = 0 }

abbrev pub stopped : (line : List ℕ) → Printed
stopped l = record { text = l; status = 1 }

infixr 30 ◌then◌
abbrev pub ◌then◌ : (line : List ℕ) → Printed → Printed
l then p = record { text = l ++ p.text; status = p.status }

-- numbers count in 64 bits: no file has more records
unfoldable pub next : ℕ → ℕ
next n = (n + 1) % 2 ^ 64

-- from record n on. A record has 16 bytes at least: so no more turns are taken than there are bytes
unfoldable pub walk : (turns : ℕ) → (little : Bool) → (n : ℕ) → List Server → (file : List ℕ) → Printed
walk zero little n ss file = ended
walk (suc turns) little n ss file =
    let h = head little (take HEAD file) in
    let o = played ss (take h.captured (drop HEAD file)) in
    ended if length file == 0
    else stopped cut_record if nat_lt (length file) HEAD
    else stopped cut_record if nat_lt (length file) (HEAD + h.captured)
    else line n h.seconds o.told then walk turns little (next n) o.servers (drop (HEAD + h.captured) file)

unfoldable pub records : (little : Bool) → (n : ℕ) → List Server → (file : List ℕ) → Printed
records little n ss file = walk (length file) little n ss file

unfoldable pub opened : List Server → (file : List ℕ) → Printed
opened ss file =
    let h = header (take HEADER file) in
    records h.little 1 ss (drop HEADER file) if h.good else stopped bad_header

unfoldable pub replay : (file : List ℕ) → Printed
replay file = opened twelve file
