-- A history written as a list of events: where each event's guard holds, the cluster that it leads to is reached. Assumes nothing.
use mathlib.Core.Path.{◌≡◌, refl, sym, ap, subst}
use mathlib.Core.Bool.{Bool, true, false, cond, not, ◌&&◌, ◌||◌, true≢false}
use mathlib.Core.Option.{Option, none, some, some-injective, none-ne-some}
use mathlib.Core.List.{List, [], ◌∷◌, Memᴰ}
use Prim.Native.Nat.{ℕ, zero, suc, ◌-◌, ◌<◌}
use native.Mathlib.Omega.{arith}
use borrow.Author.Tests.{ltb-true, eq-eqb}
use lib.Dec.{ltb, eqb}
use lib.ListN.{length, get_or, take}
use Rattle.masks.proofs.Bools.{and_yes, and_yes-l, and_yes_r, or_yes-l, or_yes_r, then_yes, true_and_false, not_yes}
use Rattle.rules.specs.declared.Value.{Value}
use Rattle.rules.specs.Flags.{implies}
use Rattle.rules.specs.Pieces.{no_pieces}
use Rattle.wire.specs.declared.Message.{Message}
use Rattle.wire.specs.Codes.{asks}
use Rattle.wire.specs.Messages.{blank, inquire, fetch}
use Rattle.counters.specs.declared.Counter.{Counter}
use Rattle.server.specs.Held.{record_at}
use Rattle.server.specs.Serve.{serve}
use Rattle.server.specs.Run.{run, run_all}
use Rattle.drive.specs.declared.Drive.{Drive}
use Rattle.drive.specs.declared.Moved.{Moved}
use Rattle.drive.specs.Hear.{hear}
use Rattle.drive.specs.Host.{start, recover, again, move_on}
use Rattle.drive.specs.Due.{due}
use Rattle.drive.specs.Held.{began as beginning}
use Rattle.cases.specs.Computes.{computes}
use Rattle.safety.specs.Orders.{entries, listed, noting, firsts}
use Rattle.safety.specs.Statements.{log_of}
use Rattle.safety.specs.Cluster.{World, Cluster, Taken, put, first_server, at_first, ballot_of, answered, ran, asked, moved, began, vanished, Reaches, MayTake, Unused, Next, Reached, fresh, then}

-- a station by its number, a server or learner by its number, a message by how many were sent before it
pub data Event : Type 0 where
  takes : (server message : ℕ) → Event
  inquires : (server number : ℕ) → Event
  fetches : (server number : ℕ) → Event
  runs : (server : ℕ) → Event
  runs_out : (server : ℕ) → Event
  sends : (station : ℕ) → Event
  hears : (station message : ℕ) → Event
  moves_on : (station : ℕ) → Event
  starts : (station coordinator number : ℕ) → Event
  recovers : (station coordinator number floor : ℕ) → Event
  tries_again : (station : ℕ) → Event
  vanishes : (station : ℕ) → Event

-- the message with n sent before it
unfoldable pub sent_as : Cluster → ℕ → Message
sent_as c n = get_or c.sent (length c.sent - suc n) blank

unfoldable pub was_sent : Cluster → ℕ → Bool
was_sent c n = ltb n (length c.sent)

-- what asks is for the servers below 12
unfoldable pub may_take : ℕ → Message → Bool
may_take i m = implies (asks m.code) (ltb i 12)

unfoldable pub is_taken : Taken → List Taken → Bool
is_taken b [] = false
is_taken b (x ∷ l) = (eqb b.number x.number && eqb b.ballot x.ballot) || is_taken b l

unfoldable pub only_if : Bool → Cluster → Option Cluster
only_if b c = cond b (some c) none

unfoldable pub with_drive : Option Drive → (Drive → Option Cluster) → Option Cluster
with_drive none f = none
with_drive (some d) f = f d

-- where a station holds no drive, a blank one is lent
abbrev pub blank_drive : Drive
blank_drive = beginning 0 0 0 0 no_pieces 0

unfoldable pub begins : Cluster → ℕ → Moved → Option Cluster
begins c j r = only_if (not (is_taken (ballot_of r.drive) c.taken)) (began c j r)

-- what an event makes of the cluster, or none where its guard fails
unfoldable pub after : World → Cluster → Event → Option Cluster
after w c (takes i n) = only_if (may_take i (sent_as c n) && was_sent c n) (answered c i (serve (c.servers i) (sent_as c n)))
after w c (inquires i t) = some (answered c i (serve (c.servers i) (inquire t)))
after w c (fetches i t) = some (answered c i (serve (c.servers i) (fetch t)))
after w c (runs i) = some (ran c i (run (c.servers i)))
after w c (runs_out i) = some (ran c i (run_all (c.servers i)))
after w c (sends j) = with_drive (c.stations j) (λ d. some (asked c (due d)))
after w c (hears j n) = with_drive (c.stations j) (λ d. only_if (was_sent c n) (moved c j (hear d (sent_as c n))))
after w c (moves_on j) = with_drive (c.stations j) (λ d. some (moved c j (move_on d)))
after w c (starts j q t) = begins c j (start blank_drive q t (w.pieces t))
after w c (recovers j q t floor) = begins c j (recover blank_drive q t (w.pieces t) floor)
after w c (tries_again j) = with_drive (c.stations j) (λ d. begins c j (again d))
after w c (vanishes j) = some (vanished c j)

unfoldable pub onward : Option Cluster → (Cluster → Option Cluster) → Option Cluster
onward none f = none
onward (some c) f = f c

unfoldable pub play : World → List Event → Cluster → Option Cluster
play w [] c = some c
play w (e ∷ es) c = onward (after w c e) (play w es)

-- ---- what is shown at the end

-- a server shows its log, its counters and its results of a number
pub record Shown : Type 0 where
  pub log : List ℕ
  pub counters : List Counter
  pub results : List Value

-- the server s, and its results of t
unfoldable pub shown_at : Cluster → (s t : ℕ) → Shown
shown_at c s t = record {
  log = log_of c s;
  counters = (c.servers s).counters.list;
  results = take (record_at (c.servers s) t).values.count (record_at (c.servers s) t).values.list;
}

-- what f shows of the cluster, if no guard failed
unfoldable pub on_end : {A : Type 0} → (Cluster → A) → Option Cluster → Option A
on_end f none = none
on_end f (some c) = some (f c)

-- every definition that a script computes with
unfoldable pub scripts : Unit {0}
unfolding computes entries listed noting firsts put first_server at_first answered ran asked moved began vanished sent_as was_sent may_take is_taken only_if with_drive begins after onward play shown_at on_end
scripts = tt

-- ---- it is reached

only_if_lem : (b : Bool) (c c' : Cluster) → only_if b c ≡ some c' → (b ≡ true) × (c ≡ c')
unfolding only_if
only_if_lem true c c' e = (refl, some-injective c c' e)
only_if_lem false c c' e = absurd (none-ne-some c' e)

with_drive_lem : (o : Option Drive) (f : Drive → Option Cluster) (c' : Cluster) → with_drive o f ≡ some c' → (d : Drive) × (o ≡ some d) × (f d ≡ some c')
unfolding with_drive
with_drive_lem none f c' e = absurd (none-ne-some c' e)
with_drive_lem (some d) f c' e = (d, refl, e)

get_mem : (l : List Message) (i : ℕ) → i < length l → Memᴰ (get_or l i blank) l
get_mem [] i h = absurd (omega arith)
get_mem (x ∷ l) zero h = Memᴰ.head refl
get_mem (x ∷ l) (suc i) h = Memᴰ.tail (get_mem l i (omega arith))

was_sent_lem : (c : Cluster) (n : ℕ) → was_sent c n ≡ true → Memᴰ (sent_as c n) c.sent
unfolding was_sent sent_as
was_sent_lem c n e = let h = ltb-true n (length c.sent) e in get_mem c.sent (length c.sent - suc n) (omega arith)

may_take_lem : (i : ℕ) (m : Message) → may_take i m ≡ true → MayTake i m
unfolding may_take
may_take_lem i m e a = ltb-true i 12 (then_yes (asks m.code) (ltb i 12) e a)

taken_is : (b : Taken) (l : List Taken) → Memᴰ b l → is_taken b l ≡ true
unfolding is_taken
taken_is b [] x' = elim x' [ ]
taken_is b (x ∷ l) (Memᴰ.head e) = or_yes-l (eqb b.number x.number && eqb b.ballot x.ballot) (is_taken b l) (and_yes (eqb b.number x.number) (eqb b.ballot x.ballot) (eq-eqb b.number x.number (ap (λ (y : Taken). y.number) e)) (eq-eqb b.ballot x.ballot (ap (λ (y : Taken). y.ballot) e)))
taken_is b (x ∷ l) (Memᴰ.tail k) = or_yes_r (eqb b.number x.number && eqb b.ballot x.ballot) (is_taken b l) (taken_is b l k)

unused : (c : Cluster) (r : Moved) → not (is_taken (ballot_of r.drive) c.taken) ≡ true → Unused c r
unused c r e z k = true_and_false (taken_is (ballot_of r.drive) c.taken k) (not_yes (is_taken (ballot_of r.drive) c.taken) e)

module _ (w : World) (c : Cluster) where
  to : {z c' : Cluster} → z ≡ c' → Next w c z → Next w c c'
  to e n = subst (Next w c) e n

  next_of : (e : Event) (c' : Cluster) → after w c e ≡ some c' → Next w c c'
  unfolding after begins
  next_of (takes i n) c' h =
      let p = only_if_lem (may_take i (sent_as c n) && was_sent c n) (answered c i (serve (c.servers i) (sent_as c n))) c' h in
      to p.1 (Next.takes i (sent_as c n) (may_take_lem i (sent_as c n) (and_yes-l (may_take i (sent_as c n)) (was_sent c n) p.0)) (Reaches.sent (was_sent_lem c n (and_yes_r (may_take i (sent_as c n)) (was_sent c n) p.0))))
  next_of (inquires i t) c' h = to (some-injective _ _ h) (Next.takes i (inquire t) (λ e. absurd (true≢false (sym e))) (Reaches.inquires t refl))
  next_of (fetches i t) c' h = to (some-injective _ _ h) (Next.takes i (fetch t) (λ e. absurd (true≢false (sym e))) (Reaches.fetches t refl))
  next_of (runs i) c' h = to (some-injective _ _ h) (Next.runs i)
  next_of (runs_out i) c' h = to (some-injective _ _ h) (Next.runs_out i)
  next_of (sends j) c' h = let p = with_drive_lem (c.stations j) (λ d. some (asked c (due d))) c' h in to (some-injective _ _ p.2) (Next.sends j p.0 p.1)
  next_of (hears j n) c' h =
      let p = with_drive_lem (c.stations j) (λ d. only_if (was_sent c n) (moved c j (hear d (sent_as c n)))) c' h in
      let q = only_if_lem (was_sent c n) (moved c j (hear p.0 (sent_as c n))) c' p.2 in
      to q.1 (Next.hears j p.0 (sent_as c n) p.1 (was_sent_lem c n q.0))
  next_of (moves_on j) c' h = let p = with_drive_lem (c.stations j) (λ d. some (moved c j (move_on d))) c' h in to (some-injective _ _ p.2) (Next.moves_on j p.0 p.1)
  next_of (starts j q t) c' h =
      let r = start blank_drive q t (w.pieces t) in
      let p = only_if_lem (not (is_taken (ballot_of r.drive) c.taken)) (began c j r) c' h in
      to p.1 (Next.starts j blank_drive q t (unused c r p.0))
  next_of (recovers j q t floor) c' h =
      let r = recover blank_drive q t (w.pieces t) floor in
      let p = only_if_lem (not (is_taken (ballot_of r.drive) c.taken)) (began c j r) c' h in
      to p.1 (Next.recovers j blank_drive q t floor (unused c r p.0))
  next_of (tries_again j) c' h =
      let p = with_drive_lem (c.stations j) (λ d. only_if (not (is_taken (ballot_of (again d).drive) c.taken)) (began c j (again d))) c' h in
      let q = only_if_lem (not (is_taken (ballot_of (again p.0).drive) c.taken)) (began c j (again p.0)) c' p.2 in
      to q.1 (Next.tries_again j p.0 p.1 (unused c (again p.0) q.0))
  next_of (vanishes j) c' h = to (some-injective _ _ h) (Next.vanishes j)

played : (w : World) (es : List Event) (c : Cluster) → Reached w c → (c' : Cluster) → play w es c ≡ some c' → Reached w c'
unfolding play onward
played w [] c r c' h = subst (Reached w) (some-injective c c' h) r
played w (e ∷ es) c r c' h = go (after w c e) refl h (played w es)
  where
    go : (o : Option Cluster) → after w c e ≡ o → onward o (play w es) ≡ some c' → ((z : Cluster) → Reached w z → (c' : Cluster) → play w es z ≡ some c' → Reached w c') → Reached w c'
    go none k q ih = absurd (none-ne-some c' q)
    go (some z) k q ih = ih z (then r (next_of w c e z k)) c' q

-- the end of a script is reached
pub ends_with : {A : Type 0} (w : World) (es : List Event) (f : Cluster → A) (a : A) → on_end f (play w es (at_first w)) ≡ some a → (c : Cluster) × Reached w c × (f c ≡ a)
unfolding on_end
ends_with {A} w es f a e = go (play w es (at_first w)) refl e
  where
    go : (o : Option Cluster) → play w es (at_first w) ≡ o → on_end f o ≡ some a → (c : Cluster) × Reached w c × (f c ≡ a)
    go none k q = absurd (none-ne-some a q)
    go (some c) k q = (c, played w es (at_first w) fresh c k, some-injective (f c) a q)
