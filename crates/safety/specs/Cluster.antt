-- The cluster of demand 3: its servers, stations that hold at most one live drive each, the ballots taken, and all that was sent.
-- A server from SERVERS on is a learner. A station that lost its disk begins anew as a fresh server of its shard and from then on only listens: it takes Commit, Done, Inquire and Fetch, and runs, but takes no PreAccept, Accept or Prepare, since it does not know what it promised.
-- Learner i is such a further life of server i mod SERVERS, and there may be any number of them. The base has none: what holds of servers and learners holds then too.
-- Each step is a definition of the server or the drive. A Commit, or a Done as one, that is not refused runs what is ready: what it runs enters the order of first runs in its place, as what a run runs does. A refused step changes nothing and sends nothing, as if its message were lost. Messages may be lost, repeated, reordered and misled.
-- What demand 3 takes for granted stands here: each message that arrives was sent (`Reaches`, and the guard of `hears`); each number names one transaction (`World`, in `starts` and `recovers`);
-- each ballot of a number is taken once (`Unused`); no server or live drive forgets (there is no step that does; a drive may vanish whole).
use Rattle.std.specs.Prelude.{ℕ, ◌%◌, ◌<◌, ◌≡◌, true, eqb, length}
use Rattle.std.proofs.Math.Option.{Option, none, some}
use mathlib.Core.List.{List, [], ◌∷◌, Memᴰ}
use Rattle.rules.specs.declared.Pieces.{Pieces}
use Rattle.rules.specs.Choice.{◌if◌else◌}
use Rattle.rules.specs.Cluster.{SERVERS, KEYS, shard_of}
use Rattle.wire.specs.declared.Message.{Message}
use Rattle.wire.specs.Codes.{asks}
use Rattle.wire.specs.Messages.{inquire, fetch}
use Rattle.counters.specs.declared.Counters.{Counters}
use Rattle.server.specs.declared.Server.{Server}
use Rattle.server.specs.declared.Served.{Served}
use Rattle.server.specs.declared.Ran.{Ran}
use Rattle.server.specs.Host.{fresh_server}
use Rattle.server.specs.Serve.{serve}
use Rattle.server.specs.Run.{run, run_all}
use Rattle.drive.specs.declared.Drive.{Drive}
use Rattle.drive.specs.declared.Moved.{Moved}
use Rattle.drive.specs.declared.Sending.{Sending}
use Rattle.drive.specs.Hear.{hear}
use Rattle.drive.specs.Host.{start, recover, again, move_on}
use Rattle.drive.specs.Due.{due}
use Rattle.safety.specs.Orders.{entries, firsts}

-- ---- what is given: each number names one transaction, and the three servers of a shard begin with the same counters

pub record World : Type 0 where
  pub pieces : ℕ → Pieces
  pub counters : ℕ → Counters
  -- as many as a shard has: what the type of the counters says
  pub sixteen : (k : ℕ) → length (counters k).list ≡ KEYS

-- ---- what there is at each time

-- a ballot that was taken for a number
pub record Taken : Type 0 where
  pub number : ℕ
  pub ballot : ℕ

pub record Cluster : Type 0 where
  -- those below SERVERS, and the learners
  pub servers : ℕ → Server
  pub stations : ℕ → Option Drive
  pub taken : List Taken
  -- grows only, the last in front
  pub sent : List Message
  -- the numbers in the order in which each first ran anywhere
  pub order : List ℕ

-- f, with a at i
unfoldable pub put : {A : Type 0} → (ℕ → A) → ℕ → A → ℕ → A
put f i a j = a if eqb j i else f j

-- the id that i has: its own number, or for a learner that of the server whose further life it is
abbrev pub id_of : ℕ → ℕ
id_of i = i % SERVERS

-- its shard
abbrev pub home_of : ℕ → ℕ
home_of i = shard_of (id_of i)

unfoldable pub first_server : World → ℕ → Server
first_server w i =
    record { id = id_of i; records = (fresh_server (id_of i)).records; counters = w.counters (home_of i); log = (fresh_server (id_of i)).log }

unfoldable pub at_first : World → Cluster
at_first w = record { servers = first_server w; stations = λ j. none; taken = []; sent = []; order = [] }

-- ---- what a step makes of it

-- the server i took a message: its answer is sent, and what it ran, if it was a Commit, enters the order
unfoldable pub answered : Cluster → ℕ → Served → Cluster
answered c i r =
    record { servers = put c.servers i r.server; stations = c.stations; taken = c.taken; sent = (r.reply ∷ c.sent) if eqb r.refusal 0 else c.sent; order = firsts c.order (entries r.server.log) }

-- the server i ran
unfoldable pub ran : Cluster → ℕ → Ran → Cluster
ran c i r =
    record { servers = put c.servers i r.server; stations = c.stations; taken = c.taken; sent = c.sent; order = firsts c.order (entries r.server.log) }

-- a station sent the message due
unfoldable pub asked : Cluster → Sending → Cluster
asked c r =
    record { servers = c.servers; stations = c.stations; taken = c.taken; sent = (r.message ∷ c.sent) if eqb r.refusal 0 else c.sent; order = c.order }

-- the drive at the station j moved
unfoldable pub moved : Cluster → ℕ → Moved → Cluster
moved c j r =
    record { servers = c.servers; stations = put c.stations j (some r.drive); taken = c.taken; sent = c.sent; order = c.order }

-- the ballot that a drive has
abbrev pub ballot_of : Drive → Taken
ballot_of d = record { number = d.t; ballot = d.ballot }

-- a drive took a ballot, at the station j
unfoldable pub began : Cluster → ℕ → Moved → Cluster
began c j r =
    record { servers = c.servers; stations = put c.stations j (some r.drive); taken = ballot_of r.drive ∷ c.taken; sent = c.sent; order = c.order }
    if eqb r.refusal 0
    else c

-- the drive at the station j is gone
unfoldable pub vanished : Cluster → ℕ → Cluster
vanished c j = record { servers = c.servers; stations = put c.stations j none; taken = c.taken; sent = c.sent; order = c.order }

-- ---- the guards

-- a message that may reach a server: whatever was sent, to whomever, however often; or a host's question
pub data Reaches (c : Cluster) (m : Message) : Type 0 where
  sent : Memᴰ m c.sent → Reaches c m
  inquires : (t : ℕ) → m ≡ inquire t → Reaches c m
  fetches : (t : ℕ) → m ≡ fetch t → Reaches c m

-- a learner takes no PreAccept, Accept or Prepare
abbrev pub MayTake : ℕ → Message → Type 0
MayTake i m = asks m.code ≡ true → i < SERVERS

-- each ballot is taken once for a number
abbrev pub Unused : Cluster → Moved → Type 0
Unused c r = r.refusal ≡ 0 → Memᴰ (ballot_of r.drive) c.taken → ⊥

-- ---- the steps

pub data Next (w : World) (c : Cluster) : Cluster → Type 0 where
  -- a server or a learner takes a message, by which it runs what is ready if it is a Commit or Done; or it runs, or runs until nothing is left
  takes : (i : ℕ) (m : Message) → MayTake i m → Reaches c m → Next w c (answered c i (serve (c.servers i) m))
  runs : (i : ℕ) → Next w c (ran c i (run (c.servers i)))
  runs_out : (i : ℕ) → Next w c (ran c i (run_all (c.servers i)))
  -- a station sends the message due
  sends : (j : ℕ) (d : Drive) → c.stations j ≡ some d → Next w c (asked c (due d))
  -- a live drive hears what was sent, or is told to move on
  hears : (j : ℕ) (d : Drive) (m : Message) → c.stations j ≡ some d → Memᴰ m c.sent → Next w c (moved c j (hear d m))
  moves_on : (j : ℕ) (d : Drive) → c.stations j ≡ some d → Next w c (moved c j (move_on d))
  -- a ballot is taken at a station, whatever it is lent; by Again its live drive takes it
  starts : (j : ℕ) (lent : Drive) (q t : ℕ) → Unused c (start lent q t (w.pieces t)) → Next w c (began c j (start lent q t (w.pieces t)))
  recovers : (j : ℕ) (lent : Drive) (q t floor : ℕ) → Unused c (recover lent q t (w.pieces t) floor) → Next w c (began c j (recover lent q t (w.pieces t) floor))
  tries_again : (j : ℕ) (d : Drive) → c.stations j ≡ some d → Unused c (again d) → Next w c (began c j (again d))
  -- a drive is gone
  vanishes : (j : ℕ) → Next w c (vanished c j)

pub data Reached (w : World) : Cluster → Type 0 where
  fresh : Reached w (at_first w)
  then : {c c' : Cluster} → Reached w c → Next w c c' → Reached w c'
