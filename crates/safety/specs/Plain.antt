-- Demand 3 in plain numbers, for one who takes no word of Statements on trust: servers 0 to 11, numbers 0 to 63, shards 0 to 3, keys 0 to 15; a log is read place by place below its count, a word digit by digit, results up to their count.
-- Each sentence follows from the theorem of Statements and from nothing else of its proof. So a statement there that has a hypothesis too many, stops one short or leaves a part out is found out here.
-- `record_at`, `entry_at`, `counter_at` and `piece_at` are the element of an array at a place.
use Rattle.std.specs.Prelude.{ℕ, ◌/◌, ◌%◌, ◌^◌, ◌≤◌, ◌<◌, ◌≡◌, ◌⊎◌, ◌≢◌, length, get_or}
use Rattle.std.proofs.Math.Option.{some}
use mathlib.Core.List.{List, [], ◌∷◌, Memᴰ}
use Rattle.rules.specs.declared.Set.{Set}
use Rattle.rules.specs.declared.Value.{Value}
use Rattle.rules.specs.declared.Values.{Values}
use Rattle.rules.specs.Pieces.{piece_at}
use Rattle.rules.specs.Values.{no_value}
use Rattle.wire.specs.declared.Message.{Message}
use Rattle.wire.specs.Messages.{inquire, fetch}
use Rattle.counters.specs.Effects.{counter_at}
use Rattle.server.specs.Held.{record_at, entry_at}
use Rattle.server.specs.Serve.{serve}
use Rattle.server.specs.Run.{run, run_all}
use Rattle.drive.specs.declared.Drive.{Drive}
use Rattle.drive.specs.Hear.{hear}
use Rattle.drive.specs.Host.{again, move_on}
use Rattle.drive.specs.Due.{due}
use Rattle.safety.specs.Cluster.{World, Cluster, Next, Reached}

-- ---- what is read

-- the set that the server s holds as committed for t
abbrev pub set_at : Cluster → ℕ → ℕ → Set
set_at c s t = (record_at (c.servers s) t).committed.set

-- the results that it holds for t, and one of them
abbrev pub results_at : Cluster → ℕ → ℕ → Values
results_at c s t = (record_at (c.servers s) t).values

abbrev pub result_at : Cluster → ℕ → ℕ → ℕ → Value
result_at c s t n = get_or (results_at c s t).list n no_value

-- the word of shard k, of the four
abbrev pub word_at : Set → ℕ → ℕ
word_at v k = get_or (v.w0 ∷ v.w1 ∷ v.w2 ∷ v.w3 ∷ []) k 0

-- the binary digit of a word at t
abbrev pub digit : ℕ → ℕ → ℕ
digit w t = w / 2 ^ t % 2

-- the server s holds t as committed: the flag is not 0
abbrev pub HeldAt : Cluster → ℕ → ℕ → Type 0
HeldAt c s t = (record_at (c.servers s) t).committed.some ≢ 0

-- t stands in the log of the server s
pub record LoggedAt (c : Cluster) (s t : ℕ) : Type 0 where
  pub place : ℕ
  pub counted : place < (c.servers s).log.count
  pub is : entry_at (c.servers s).log place ≡ t

-- t stands before u in the log of the server s
pub record LoggedBefore (c : Cluster) (s t u : ℕ) : Type 0 where
  pub first : ℕ
  pub second : ℕ
  pub rises : first < second
  pub counted : second < (c.servers s).log.count
  pub is_first : entry_at (c.servers s).log first ≡ t
  pub is_second : entry_at (c.servers s).log second ≡ u

-- the piece a of t is on shard k
pub record PieceOn (w : World) (t a k : ℕ) : Type 0 where
  pub below : a < 8
  pub counted : a < (w.pieces t).count
  pub shard : (piece_at (w.pieces t) a).shard ≡ k

-- the piece a of t and the piece b of u are on one key of shard k, and not both of them read it
pub record OneKey (w : World) (k t a u b : ℕ) : Type 0 where
  pub first : PieceOn w t a k
  pub second : PieceOn w u b k
  pub below : (piece_at (w.pieces t) a).key < 16
  pub key : (piece_at (w.pieces t) a).key ≡ (piece_at (w.pieces u) b).key
  pub writes : (piece_at (w.pieces t) a).kind ≡ 0 → (piece_at (w.pieces u) b).kind ≡ 0 → ⊥

-- ---- the sentences, of a cluster that is reached

-- Two servers that hold a number as committed hold the same four words for it.
abbrev pub SameWords : Cluster → Type 0
SameWords c =
    (s s' t : ℕ) → s < 12 → s' < 12 → t < 64 → HeldAt c s t → HeldAt c s' t →
    ((set_at c s t).w0 ≡ (set_at c s' t).w0) × ((set_at c s t).w1 ≡ (set_at c s' t).w1) × ((set_at c s t).w2 ≡ (set_at c s' t).w2) × ((set_at c s t).w3 ≡ (set_at c s' t).w3)

-- Of two committed numbers on one key that do not both read it, one has the other's digit in its word of that shard, wherever each is held.
abbrev pub OneHasTheOther : World → Cluster → Type 0
OneHasTheOther w c =
    (s s' k t a u b : ℕ) → s < 12 → s' < 12 → k < 4 → t < 64 → u < 64 → t ≢ u → OneKey w k t a u b → HeldAt c s t → HeldAt c s' u →
    (digit (word_at (set_at c s t) k) u ≡ 1) ⊎ (digit (word_at (set_at c s' u) k) t ≡ 1)

-- Where one server has t before u in its log, and they are on one key and do not both read it, no server has u before t.
abbrev pub NeverTurned : World → Cluster → Type 0
NeverTurned w c = (s s' k t a u b : ℕ) → s < 12 → s' < 12 → k < 4 → t < 64 → u < 64 → OneKey w k t a u b → LoggedBefore c s t u → LoggedBefore c s' u t → ⊥

-- One list has each of the 64 numbers once, and every server ran all such pairs in its order. It begins with the numbers that ran anywhere, as each first did.
pub record OneList (w : World) (c : Cluster) : Type 0 where
  pub list : List ℕ
  pub long : length list ≡ 64
  pub all : (t : ℕ) → t < 64 → (p : ℕ) × (p < 64) × (get_or list p 64 ≡ t)
  pub once : (p q : ℕ) → p < q → q < 64 → get_or list p 64 ≢ get_or list q 64
  pub pairs : (s k t a u b : ℕ) → s < 12 → k < 4 → t < 64 → u < 64 → OneKey w k t a u b → LoggedBefore c s t u →
      (p : ℕ) × (q : ℕ) × (p < q) × (q < 64) × (get_or list p 64 ≡ t) × (get_or list q 64 ≡ u)
  pub ran : (s t : ℕ) → s < 12 → LoggedAt c s t → (p : ℕ) × (p < length c.order) × (get_or c.order p 64 ≡ t)
  pub begins : (p : ℕ) → p < length c.order → get_or list p 64 ≡ get_or c.order p 64

-- Two servers of a shard that ran the same numbers, of those with a piece there, hold the same value and the same full mark at every key, and for each number that both ran equally many results, of the same values and with the same kept marks.
pub record RanTheSame (w : World) (c : Cluster) (k s s' : ℕ) : Type 0 where
  pub here : (t a : ℕ) → t < 64 → PieceOn w t a k → LoggedAt c s t → LoggedAt c s' t
  pub there : (t a : ℕ) → t < 64 → PieceOn w t a k → LoggedAt c s' t → LoggedAt c s t

pub record ShowTheSame (c : Cluster) (s s' : ℕ) : Type 0 where
  pub keys : (x : ℕ) → x < 16 → (counter_at (c.servers s).counters x).value ≡ (counter_at (c.servers s').counters x).value
  pub marks : (x : ℕ) → x < 16 → (counter_at (c.servers s).counters x).full ≡ (counter_at (c.servers s').counters x).full
  pub counts : (t : ℕ) → t < 64 → LoggedAt c s t → LoggedAt c s' t → (results_at c s t).count ≡ (results_at c s' t).count
  pub values : (t n : ℕ) → t < 64 → LoggedAt c s t → LoggedAt c s' t → n < (results_at c s t).count → (result_at c s t n).value ≡ (result_at c s' t n).value
  pub kept : (t n : ℕ) → t < 64 → LoggedAt c s t → LoggedAt c s' t → n < (results_at c s t).count → (result_at c s t n).kept ≡ (result_at c s' t n).kept

abbrev pub SameShown : World → Cluster → Type 0
SameShown w c = (k s s' : ℕ) → k < 4 → s < 12 → s' < 12 → s / 3 ≡ k → s' / 3 ≡ k → RanTheSame w c k s s' → ShowTheSame c s s'

-- No message that was sent, and no question of a host, is refused by 5, 6 or 13 at any server.
abbrev pub NotRefused : Cluster → ℕ → Message → Type 0
NotRefused c s m = ((serve (c.servers s) m).refusal ≢ 5) × ((serve (c.servers s) m).refusal ≢ 6) × ((serve (c.servers s) m).refusal ≢ 13)

pub record SentIsTaken (c : Cluster) : Type 0 where
  pub sent : (s : ℕ) (m : Message) → s < 12 → Memᴰ m c.sent → NotRefused c s m
  pub inquired : (s t : ℕ) → s < 12 → NotRefused c s (inquire t)
  pub fetched : (s t : ℕ) → s < 12 → NotRefused c s (fetch t)

-- No message at all, no run and no event of a live drive is refused by 13.
pub record NoBadForm (c : Cluster) : Type 0 where
  pub takes : (s : ℕ) (m : Message) → s < 12 → (serve (c.servers s) m).refusal ≢ 13
  pub runs : (s : ℕ) → s < 12 → (run (c.servers s)).refusal ≢ 13
  pub runs_out : (s : ℕ) → s < 12 → (run_all (c.servers s)).refusal ≢ 13
  pub sends : (j : ℕ) (d : Drive) → c.stations j ≡ some d → (due d).refusal ≢ 13
  pub hears : (j : ℕ) (d : Drive) (m : Message) → c.stations j ≡ some d → (hear d m).refusal ≢ 13
  pub moves_on : (j : ℕ) (d : Drive) → c.stations j ≡ some d → (move_on d).refusal ≢ 13
  pub tries_again : (j : ℕ) (d : Drive) → c.stations j ≡ some d → (again d).refusal ≢ 13

-- A server has 64 records, words of 64 digits in the sets that it holds as committed, and a log of 64 places, of which the count uses at most all; at each place used stands a number below 64 that is committed at the server and marked as run, and no number stands twice.
pub record ServerKept (c : Cluster) (s : ℕ) : Type 0 where
  pub records : length (c.servers s).records ≡ 64
  pub words : (t k : ℕ) → t < 64 → k < 4 → HeldAt c s t → word_at (set_at c s t) k < 2 ^ 64
  pub places : length (c.servers s).log.list ≡ 64
  pub count : (c.servers s).log.count ≤ 64
  pub below : (i : ℕ) → i < (c.servers s).log.count → entry_at (c.servers s).log i < 64
  pub held : (i : ℕ) → i < (c.servers s).log.count → HeldAt c s (entry_at (c.servers s).log i)
  pub ran : (i : ℕ) → i < (c.servers s).log.count → (record_at (c.servers s) (entry_at (c.servers s).log i)).ran ≢ 0
  pub once : (i j : ℕ) → i < j → j < (c.servers s).log.count → entry_at (c.servers s).log i ≢ entry_at (c.servers s).log j

-- Whatever numbers a server holds as committed, if their sets name none but each other, have all run there. And a run answers 0, refuses nothing and leaves the server as it is, and so do runs until 0.
pub record NothingWaits (c : Cluster) (s : ℕ) : Type 1 where
  pub closed : (C : ℕ → Type 0) → ((t : ℕ) → C t → t < 64) → ((t : ℕ) → C t → HeldAt c s t) → ((t u k : ℕ) → C t → u < 64 → k < 4 → digit (word_at (set_at c s t) k) u ≡ 1 → C u) →
      (t : ℕ) → C t → LoggedAt c s t
  pub runs : ((run (c.servers s)).refusal ≡ 0) × ((run (c.servers s)).many ≡ 0) × ((run (c.servers s)).server ≡ c.servers s)
  pub runs_out : ((run_all (c.servers s)).refusal ≡ 0) × ((run_all (c.servers s)).many ≡ 0) × ((run_all (c.servers s)).server ≡ c.servers s)

-- A live drive is of a number below 64 and a coordinator below 8, in a phase up to 3, with 1 to 8 pieces.
pub record DriveKept (d : Drive) : Type 0 where
  pub number : d.t < 64
  pub coordinator : d.coordinator < 8
  pub phase : d.phase ≤ 3
  pub least : 1 ≤ d.pieces.count
  pub most : d.pieces.count ≤ 8

-- ---- and of a later one

pub data Later (w : World) (c : Cluster) : Cluster → Type 0 where
  same : Later w c c
  then : {c' c'' : Cluster} → Later w c c' → Next w c' c'' → Later w c c''

-- What ran stays where it is: the order of first runs begins with what it was.
pub record OrderStays (c c' : Cluster) : Type 0 where
  pub longer : length c.order ≤ length c'.order
  pub same : (p : ℕ) → p < length c.order → get_or c'.order p 64 ≡ get_or c.order p 64

-- ---- all of them

pub record Plain (w : World) : Type 1 where
  pub same_words : (c : Cluster) → Reached w c → SameWords c
  pub one_has_the_other : (c : Cluster) → Reached w c → OneHasTheOther w c
  pub never_turned : (c : Cluster) → Reached w c → NeverTurned w c
  pub one_list : (c : Cluster) → Reached w c → OneList w c
  pub same_shown : (c : Cluster) → Reached w c → SameShown w c
  pub sent_is_taken : (c : Cluster) → Reached w c → SentIsTaken c
  pub no_bad_form : (c : Cluster) → Reached w c → NoBadForm c
  pub server_kept : (c : Cluster) → Reached w c → (s : ℕ) → s < 12 → ServerKept c s
  pub nothing_waits : (c : Cluster) → Reached w c → (s : ℕ) → s < 12 → NothingWaits c s
  pub drive_kept : (c : Cluster) → Reached w c → (j : ℕ) (d : Drive) → c.stations j ≡ some d → DriveKept d
  pub order_stays : (c c' : Cluster) → Reached w c → Later w c c' → OrderStays c c'
