-- The same as it is computed, from portions of the file as they come. Only the bytes of a window are kept: a header, a head, or the first bytes of a record's data, no more than decoding can look at.
use Rattle.std.specs.Prelude.{ℕ, zero, suc, ◌+◌, ◌-◌, min, Bool, true, false, not, ◌&&◌, ◌||◌, Option, Some, None, List, [], ◌++◌, length, take, drop, replicate, ◌==◌, nat_le, nat_lt}
use Rattle.std.proofs.Math.Seq.{paste}
use Rattle.rules.specs.Choice.{◌if◌else◌}
use Rattle.rules.specs.Flags.{there}
use Rattle.rules.specs.Cluster.{SERVERS, COORDINATORS}
use Rattle.xdr.specs.Word.{value}
use Rattle.wire.specs.Bytes.{decode}
use Rattle.server.specs.declared.Server.{Server}
use Rattle.door.specs.declared.Answer.{Answer}
use Rattle.capture.specs.declared.Shown.{Shown}
use Rattle.capture.specs.declared.Shown.TheVariants.{Dash, Code, Refusal}
use Rattle.capture.specs.declared.Told.{Told}
use Rattle.capture.specs.Pcap.{HEADER, HEAD, header, head}
use Rattle.capture.specs.Text.{LINE, line, bad_header, cut_record}
use Rattle.player.specs.declared.Walk.{Walk}
use Rattle.player.specs.declared.Look.{Look}
use Rattle.player.specs.declared.Play.{Play}
use Rattle.player.specs.Replay.{unread, read, played, Printed, ended, stopped, next}

-- a destination, the longest message, and a byte more
abbrev pub WINDOW : ℕ
WINDOW = 181

-- what is read: the header, a record's head, its data; or nothing more, since the header is bad
abbrev pub OPENING : ℕ
OPENING = 0

abbrev pub HEADS : ℕ
HEADS = 1

abbrev pub DATA : ℕ
DATA = 2

abbrev pub OVER : ℕ
OVER = 3

unfoldable pub begun : Walk
begun = record { phase = OPENING; little = false; number = 1; seconds = 0; left = HEADER; have = 0; kept = replicate WINDOW 0 }

-- the bytes kept
abbrev pub seen : Walk → List ℕ
seen w = take w.have w.kept

-- there is more to read
unfoldable pub going : Walk → Bool
going w = nat_lt w.phase OVER && nat_lt 0 w.left && nat_le w.have WINDOW

-- ---- one bite: as many of the bytes xs as what is read still lacks

unfoldable pub takes : Walk → List ℕ → ℕ
takes w xs = min w.left (length xs)

-- of these the window has room for
unfoldable pub keeps : Walk → List ℕ → ℕ
keeps w xs = min (takes w xs) (WINDOW - w.have)

unfoldable pub filled : Walk → List ℕ → Walk
filled w xs =
    record {
      phase = w.phase;
      little = w.little;
      number = w.number;
      seconds = w.seconds;
      left = w.left - takes w xs;
      have = w.have + keeps w xs;
      kept = paste w.kept w.have xs (keeps w xs);
    }

abbrev pub reads : Walk → (phase : ℕ) → (little : Bool) → (number seconds left : ℕ) → Walk
reads w phase little number seconds left = record { phase = phase; little = little; number = number; seconds = seconds; left = left; have = 0; kept = w.kept }

-- the header is whole, or a record's head is
unfoldable pub after_header : Walk → Walk
after_header w =
    let h = header (take HEADER w.kept) in
    reads w HEADS h.little w.number 0 HEAD if h.good else reads w OVER false w.number 0 0

unfoldable pub after_head : Walk → Walk
after_head w = let h = head w.little (take HEAD w.kept) in reads w DATA w.little w.number h.seconds h.captured

unfoldable pub turned : Walk → Walk
turned w =
    w if nat_lt 0 w.left
    else after_header w if w.phase == OPENING
    else after_head w if w.phase == HEADS
    else w

-- a record's data is whole: its line is printed, and then the next head is read
unfoldable pub whole : Walk → Bool
whole w = w.phase == DATA && w.left == 0

unfoldable pub after_data : Walk → Walk
after_data w = reads w HEADS w.little (next w.number) 0 HEAD

-- what the data says by itself; where it is for a server, the answer is still to come
abbrev pub looked : Told → Option ℕ → Look
looked o to = record { told = o; to = to }

unfoldable pub look : (bytes : List ℕ) → Look
look bytes =
    let to = value (take 4 bytes) in
    let m = decode (drop 4 bytes) in
    looked (unread 10) None if nat_lt (length bytes) 4
    else looked (unread 1) None if nat_le (SERVERS + COORDINATORS) to
    else looked (unread m.refusal) None if there m.refusal
    else looked (read m.message Dash) None if nat_le SERVERS to
    else looked (read m.message Dash) (Some to)

-- with the answer at the front of the output
unfoldable pub shown_of : Answer → (output : List ℕ) → Shown
shown_of a z = Refusal a.refusal if there a.refusal else Code (value (take 4 z))

unfoldable pub answer_shown : Told → Answer → (output : List ℕ) → Told
answer_shown o a z = record { code = o.code; t = o.t; answer = shown_of a z }

-- what was taken and printed, and what is there then
pub record Chewed : Type 0 where
  pub walk : Walk
  pub servers : List Server
  pub taken : ℕ
  pub text : List ℕ

unfoldable pub bite : Walk → List Server → List ℕ → Chewed
bite w ss xs =
    let v = turned (filled w xs) in
    let o = played ss (seen v) in
    record { walk = after_data v; servers = o.servers; taken = takes w xs; text = line v.number v.seconds o.told } if whole v
    else record { walk = v; servers = ss; taken = takes w xs; text = [] }

abbrev pub unchewed : Walk → List Server → Chewed
unchewed w ss = record { walk = w; servers = ss; taken = 0; text = [] }

abbrev pub more : (taken : ℕ) → (text : List ℕ) → Chewed → Chewed
more k l c = record { walk = c.walk; servers = c.servers; taken = k + c.taken; text = l ++ c.text }

-- bite by bite, while there are bytes, and room for a line
unfoldable pub chew : (turns : ℕ) → Walk → List Server → (portion : List ℕ) → (room : ℕ) → Chewed
chew zero w ss xs room = unchewed w ss
chew (suc turns) w ss xs room =
    let b = bite w ss xs in
    unchewed w ss if not (going w) || length xs == 0 || nat_lt room LINE
    else more b.taken b.text (chew turns b.walk b.servers (drop b.taken xs) (room - length b.text))

unfoldable pub chewed : Walk → List Server → (portion : List ℕ) → (room : ℕ) → Chewed
chewed w ss xs room = chew (length xs) w ss xs room

abbrev pub played_of : Chewed → Play
played_of c = record { walk = c.walk; servers = c.servers; taken = c.taken; made = length c.text }

-- ---- the file has no more bytes

unfoldable pub ending : Walk → Printed
ending w =
    stopped bad_header if w.phase == OPENING || nat_le OVER w.phase
    else ended if w.phase == HEADS && w.have == 0
    else stopped cut_record
