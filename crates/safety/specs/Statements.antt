-- What holds of every cluster that is reached: demand 3. It is said of every server, and of every learner as of a server of its shard.
use Rattle.std.specs.Prelude.{ℕ, ◌^◌, ◌<◌, ◌≡◌, ◌⊎◌, ◌≢◌, true, length}
use Rattle.std.proofs.Math.Option.{some}
use mathlib.Core.List.{List, ◌++◌, Memᴰ}
use Rattle.masks.specs.Bits.{In}
use Rattle.rules.specs.declared.Set.{Set}
use Rattle.rules.specs.Cluster.{NUMBERS, SHARDS}
use Rattle.rules.specs.Pieces.{touches}
use Rattle.rules.specs.Conflict.{conflict}
use Rattle.rules.specs.Sets.{word}
use Rattle.wire.specs.declared.Message.{Message}
use Rattle.graph.specs.Before.{Closed}
use Rattle.server.specs.Held.{record_at, committed_at, ran_at, committed_word}
use Rattle.server.specs.Form as S
use Rattle.server.specs.Serve.{serve}
use Rattle.server.specs.Run.{deps_of, ran_none, run, run_all}
use Rattle.drive.specs.declared.Drive.{Drive}
use Rattle.drive.specs.Form as D
use Rattle.drive.specs.Hear.{hear}
use Rattle.drive.specs.Host.{again, move_on}
use Rattle.drive.specs.Due.{due}
use Rattle.safety.specs.Orders.{entries, Earlier, completed}
use Rattle.safety.specs.Cluster.{World, Cluster, home_of, Reaches, Next, Reached}

-- the server s holds t as committed, with the set v
pub record Committed (c : Cluster) (s t : ℕ) (v : Set) : Type 0 where
  pub holds : committed_at (c.servers s) t ≡ true
  pub is : (record_at (c.servers s) t).committed.set ≡ v

-- the numbers that the server s ran
abbrev pub log_of : Cluster → ℕ → List ℕ
log_of c s = entries (c.servers s).log

-- 1: any two servers that hold a number as committed hold the same set for it
abbrev pub Agreement : Cluster → Type 0
Agreement c = (s s' t : ℕ) (v v' : Set) → Committed c s t v → Committed c s' t v' → v ≡ v'

-- 2: of two committed numbers in conflict at a shard, one is in the other's word there
abbrev pub Coverage : World → Cluster → Type 0
Coverage w c =
    (s s' t u k : ℕ) (v v' : Set) → Committed c s t v → Committed c s' u v' → t ≢ u → conflict k (w.pieces t) (w.pieces u) ≡ true →
    In (word v k) u ⊎ In (word v' k) t

-- 3: one order of all numbers and of nothing else, in which every server ran its pairs in conflict: first the numbers that ran anywhere, as they first did, then the others, rising
pub record OneOrder (w : World) (c : Cluster) : Type 0 where
  pub all : (t : ℕ) → t < NUMBERS → Memᴰ t (completed c.order NUMBERS)
  pub only : (t : ℕ) → Memᴰ t (completed c.order NUMBERS) → t < NUMBERS
  pub once : (t : ℕ) → Earlier t t (completed c.order NUMBERS) → ⊥
  pub ran : (s t : ℕ) → Memᴰ t (log_of c s) → Memᴰ t c.order
  pub runs : (s t u k : ℕ) → Earlier t u (log_of c s) → conflict k (w.pieces t) (w.pieces u) ≡ true → Earlier t u (completed c.order NUMBERS)

-- and what ran stays where it is: the order of first runs grows at its end alone
abbrev pub OrderGrows : World → Type 0
OrderGrows w = (c c' : Cluster) → Reached w c → Next w c c' → (l : List ℕ) × (c'.order ≡ c.order ++ l)

-- the servers s and s' ran the same numbers of those that have pieces on shard k
pub record SameRan (w : World) (c : Cluster) (k s s' : ℕ) : Type 0 where
  pub here : (t : ℕ) → touches (w.pieces t) k ≡ true → Memᴰ t (log_of c s) → Memᴰ t (log_of c s')
  pub there : (t : ℕ) → touches (w.pieces t) k ≡ true → Memᴰ t (log_of c s') → Memᴰ t (log_of c s)

-- 4: two servers of a shard that ran the same numbers with pieces there show the same counters, their full marks too, and the same results
pub record SameShown (w : World) (c : Cluster) (k s s' : ℕ) : Type 0 where
  pub counters : (c.servers s).counters ≡ (c.servers s').counters
  pub results : (t : ℕ) → Memᴰ t (log_of c s) → Memᴰ t (log_of c s') → (record_at (c.servers s) t).values ≡ (record_at (c.servers s') t).values

abbrev pub EqualCounters : World → Cluster → Type 0
EqualCounters w c = (k s s' : ℕ) → home_of s ≡ k → home_of s' ≡ k → SameRan w c k s s' → SameShown w c k s s'

-- 5: every server and every live drive is in form; a server has a record for each number, its log has as many places, and the words of its committed sets have as many digits, as their types say
pub record InForm (c : Cluster) : Type 0 where
  pub servers : (s : ℕ) → S.formed (c.servers s) ≡ true
  pub records : (s : ℕ) → length (c.servers s).records ≡ NUMBERS
  pub places : (s : ℕ) → length (c.servers s).log.list ≡ NUMBERS
  pub words : (s t k : ℕ) → committed_at (c.servers s) t ≡ true → k < SHARDS → word (record_at (c.servers s) t).committed.set k < 2 ^ NUMBERS
  pub drives : (j : ℕ) (d : Drive) → c.stations j ≡ some d → D.formed d ≡ true

-- so that 13 is never given
pub record Never13 (c : Cluster) : Type 0 where
  pub takes : (s : ℕ) (m : Message) → (serve (c.servers s) m).refusal ≢ 13
  pub runs : (s : ℕ) → (run (c.servers s)).refusal ≢ 13
  pub runs_out : (s : ℕ) → (run_all (c.servers s)).refusal ≢ 13
  pub sends : (j : ℕ) (d : Drive) → c.stations j ≡ some d → (due d).refusal ≢ 13
  pub hears : (j : ℕ) (d : Drive) (m : Message) → c.stations j ≡ some d → (hear d m).refusal ≢ 13
  pub moves_on : (j : ℕ) (d : Drive) → c.stations j ≡ some d → (move_on d).refusal ≢ 13
  pub tries_again : (j : ℕ) (d : Drive) → c.stations j ≡ some d → (again d).refusal ≢ 13

-- nor 5 or 6 to a message that reaches a server: its pieces are those held, its set the committed one
pub record NeverOther (c : Cluster) : Type 0 where
  pub pieces : (s : ℕ) (m : Message) → Reaches c m → (serve (c.servers s) m).refusal ≢ 5
  pub sets : (s : ℕ) (m : Message) → Reaches c m → (serve (c.servers s) m).refusal ≢ 6

-- 6: nothing is left to run. At no server is there a closed number that has not run; and so a run answers 0 and leaves the server as it is, and so do runs until 0, as a station does at start-up
pub record NothingLeft (c : Cluster) : Type 0 where
  pub closed : (s t : ℕ) → Closed (deps_of (c.servers s)) (committed_word (c.servers s)) t → ran_at (c.servers s) t ≡ true
  pub runs : (s : ℕ) → run (c.servers s) ≡ ran_none (c.servers s) 0
  pub runs_out : (s : ℕ) → run_all (c.servers s) ≡ ran_none (c.servers s) 0

-- ---- demand 3

pub record Safe (w : World) (c : Cluster) : Type 0 where
  pub agreement : Agreement c
  pub coverage : Coverage w c
  pub one_order : OneOrder w c
  pub equal_counters : EqualCounters w c
  pub in_form : InForm c
  pub never13 : Never13 c
  pub never_other : NeverOther c
  pub nothing_left : NothingLeft c

pub record Safety (w : World) : Type 0 where
  pub always : (c : Cluster) → Reached w c → Safe w c
  pub order_grows : OrderGrows w
