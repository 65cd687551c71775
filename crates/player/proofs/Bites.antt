-- A portion is chewed bite by bite: turns are never short, since each bite takes a byte. And what code does with a record's data is what is played.
use Rattle.std.proofs.Common.{length-append, ◌≡◌, ℕ, zero, suc, ◌+◌, ◌-◌, ◌<◌, ◌≤◌, Bool, true, false, not, ◌&&◌, ◌||◌, eqb, ltb, leb, Some, None, List, [], ◌++◌, length, get_or, take, drop, set, sym, refl, ap, ◌∙◌, true≢false, zero-add, add-zero, add_assoc, subst, append_assoc, append-nil, arith, length-take, length-drop, drop-drop, ltb-true, ltb-false, leb-true, le-ltb, lt-ltb, ne_eqb}
use native.Mathlib.Decide.{dec_le}
use Rattle.std.proofs.lemmas.Bool.{eqb-false}
use Rattle.std.proofs.lemmas.Option.{none-some, same_Some}
use Rattle.std.proofs.lemmas.List.{drop-take, get_or_default}
use Rattle.rules.specs.Choice.{◌if◌else◌}
use Rattle.rules.specs.Flags.{there}
use Rattle.rules.specs.Cluster.{SERVERS, COORDINATORS}
use Rattle.xdr.specs.Word.{value}
use Rattle.xdr.specs.Over.{over, Put, written-put, put-none}
use Rattle.wire.specs.declared.Decoded.{Decoded}
use Rattle.wire.specs.Bytes.{decode}
use Rattle.server.specs.declared.Server.{Server}
use Rattle.server.specs.Host.{fresh_server}
use Rattle.door.specs.Exchange.{Exchange}
use Rattle.door.specs.Exchange.{take as taken}
use Rattle.capture.specs.declared.Shown.TheVariants.{Dash}
use Rattle.capture.specs.Text.{LINE, line}
use Rattle.capture.proofs.Lengths.{line_short}
use Rattle.door.specs.declared.Answer.{Answer}
use Rattle.capture.specs.declared.Told.{Told}
use Rattle.player.specs.declared.Walk.{Walk}
use Rattle.player.specs.declared.Look.{Look}
use Rattle.player.specs.declared.Play.{Play}
use Rattle.player.specs.Replay.{unread, read, room, answered, Played, played}
use Rattle.player.specs.Walking.{WINDOW, OVER, seen, going, takes, filled, turned, whole, after_data, looked, look, shown_of, answer_shown, Chewed, bite, unchewed, more, chew, chewed, played_of}

-- ---- turns

pub stops : Walk → List ℕ → ℕ → Bool
stops w xs r = not (going w) || eqb (length xs) 0 || ltb r LINE

both_are : (a b c : Bool) → a && b && c ≡ true → (b ≡ true) × (c ≡ true)
both_are true true true e = (refl, refl)
both_are true true false e = absurd (true≢false (sym e))
both_are true false c e = absurd (true≢false (sym e))
both_are false b c e = absurd (true≢false (sym e))

-- a walk that goes on lacks a byte
going_left : (w : Walk) → going w ≡ true → 1 ≤ w.left
unfolding going
going_left w e = ltb-true 0 w.left (both_are (ltb w.phase OVER) (ltb 0 w.left) (leb w.have WINDOW) e).0

-- and has room in the window
pub going_has : (w : Walk) → going w ≡ true → w.have ≤ WINDOW
unfolding going
going_has w e = leb-true w.have WINDOW (both_are (ltb w.phase OVER) (ltb 0 w.left) (leb w.have WINDOW) e).1

module _ (w : Walk) (ss : List Server) (xs : List ℕ) where
  abbrev v : Walk
  v = turned (filled w xs)

  abbrev o : Played
  o = played ss (seen v)

  pub bite_whole : whole v ≡ true → bite w ss xs ≡ record { walk = after_data v; servers = o.servers; taken = takes w xs; text = line v.number v.seconds o.told }
  unfolding bite
  bite_whole e = rw e

  pub bite_not : whole v ≡ false → bite w ss xs ≡ record { walk = v; servers = ss; taken = takes w xs; text = [] }
  unfolding bite
  bite_not e = rw e

  bite_takes : (bite w ss xs).taken ≡ takes w xs
  bite_takes = go (whole v) refl
    where
      go : (b : Bool) → whole v ≡ b → (bite w ss xs).taken ≡ takes w xs
      go true e = rw (bite_whole e)
      go false e = rw (bite_not e)

-- what is left after a bite is shorter
bite_shorter : (w : Walk) (ss : List Server) (xs : List ℕ) (t : ℕ) → going w ≡ true → length xs ≤ suc t → length (drop (bite w ss xs).taken xs) ≤ t
unfolding takes
bite_shorter w ss xs t e h = omega (arith, length-drop (bite w ss xs).taken xs, bite_takes w ss xs, going_left w e)

module _ (t : ℕ) (w : Walk) (ss : List Server) (xs : List ℕ) (r : ℕ) where
  chew_stops : stops w xs r ≡ true → chew (suc t) w ss xs r ≡ unchewed w ss
  unfolding chew stops
  chew_stops e = rw e

  chew_goes : stops w xs r ≡ false
      → (let b = bite w ss xs in chew (suc t) w ss xs r ≡ more b.taken b.text (chew t b.walk b.servers (drop b.taken xs) (r - length b.text)))
  unfolding chew stops
  chew_goes e = rw e

pub none_stops : (w : Walk) (xs : List ℕ) (r : ℕ) → length xs ≡ 0 → stops w xs r ≡ true
unfolding stops
none_stops w xs r e = go (not (going w))
  where
    go : (a : Bool) → a || eqb (length xs) 0 || ltb r LINE ≡ true
    go true = refl
    go false = rw e

pub no_going : (w : Walk) (xs : List ℕ) (r : ℕ) → going w ≡ false → stops w xs r ≡ true
unfolding stops
no_going w xs r e = rw e

pub no_room : (w : Walk) (xs : List ℕ) (r : ℕ) → r < LINE → stops w xs r ≡ true
unfolding stops
no_room w xs r e = go (not (going w)) (eqb (length xs) 0)
  where
    go : (a b : Bool) → a || b || ltb r LINE ≡ true
    go true b = refl
    go false true = refl
    go false false = lt-ltb r LINE e

not_stopped : (a b c : Bool) → not a || b || c ≡ false → (a ≡ true) × ((b ≡ false) × (c ≡ false))
not_stopped true false false e = (refl, (refl, refl))
not_stopped true false true e = absurd (true≢false e)
not_stopped true true c e = absurd (true≢false e)
not_stopped false b c e = absurd (true≢false e)

-- what does not stop goes on, has a byte, and has room for a line
pub record Goes (w : Walk) (xs : List ℕ) (r : ℕ) : Type 0 where
  pub going : going w ≡ true
  pub bytes : 1 ≤ length xs
  pub room : LINE ≤ r

goes_on : (w : Walk) (xs : List ℕ) (r : ℕ) → stops w xs r ≡ false → Goes w xs r
unfolding stops
goes_on w xs r e =
    let f = not_stopped (going w) (eqb (length xs) 0) (ltb r LINE) e in
    record { going = f.0; bytes = omega (arith, eqb-false (length xs) 0 f.1.0); room = ltb-false r LINE f.1.1 }

pub goes_not_stops : (w : Walk) (xs : List ℕ) (r : ℕ) → Goes w xs r → stops w xs r ≡ false
unfolding stops
goes_not_stops w xs r g = rw (g.going, ne_eqb (length xs) 0 (λ e. absurd (omega (arith, g.bytes, e))), le-ltb r LINE g.room)

chew_none : (u : ℕ) (w : Walk) (ss : List Server) (xs : List ℕ) (r : ℕ) → length xs ≡ 0 → chew u w ss xs r ≡ unchewed w ss
unfolding chew
chew_none zero w ss xs r e = refl
chew_none (suc u) w ss xs r e = chew_stops u w ss xs r (none_stops w xs r e)

chew_enough : (t u : ℕ) (w : Walk) (ss : List Server) (xs : List ℕ) (r : ℕ) → length xs ≤ t → length xs ≤ u → chew t w ss xs r ≡ chew u w ss xs r
chew_enough zero u w ss xs r h k = chew_none zero w ss xs r (omega arith) ∙ sym (chew_none u w ss xs r (omega arith))
chew_enough (suc t) zero w ss xs r h k = chew_none (suc t) w ss xs r (omega arith) ∙ sym (chew_none zero w ss xs r (omega arith))
chew_enough (suc t) (suc u) w ss xs r h k =
    let b = bite w ss xs in
    go (stops w xs r) refl (λ g. chew_enough t u b.walk b.servers (drop b.taken xs) (r - length b.text) (bite_shorter w ss xs t g h) (bite_shorter w ss xs u g k))
  where
    b : Chewed
    b = bite w ss xs

    Same : Type 0
    Same = going w ≡ true → chew t b.walk b.servers (drop b.taken xs) (r - length b.text) ≡ chew u b.walk b.servers (drop b.taken xs) (r - length b.text)

    go : (q : Bool) → stops w xs r ≡ q → Same → chew (suc t) w ss xs r ≡ chew (suc u) w ss xs r
    go true e f = chew_stops t w ss xs r e ∙ sym (chew_stops u w ss xs r e)
    go false e f = chew_goes t w ss xs r e ∙ ap (more b.taken b.text) (f (goes_on w xs r e).going) ∙ sym (chew_goes u w ss xs r e)

-- ---- a portion, bite by bite

pub chewed_stops : (w : Walk) (ss : List Server) (xs : List ℕ) (r : ℕ) → stops w xs r ≡ true → chewed w ss xs r ≡ unchewed w ss
unfolding chewed
chewed_stops w ss xs r e = chew_enough (length xs) (suc (length xs)) w ss xs r (omega arith) (omega arith) ∙ chew_stops (length xs) w ss xs r e

pub chewed_goes : (w : Walk) (ss : List Server) (xs : List ℕ) (r : ℕ) → Goes w xs r
    → (let b = bite w ss xs in chewed w ss xs r ≡ more b.taken b.text (chewed b.walk b.servers (drop b.taken xs) (r - length b.text)))
unfolding chewed
chewed_goes w ss xs r g =
    let b = bite w ss xs in
    let ys = drop b.taken xs in
    chew_enough (length xs) (suc (length xs)) w ss xs r (omega arith) (omega arith)
    ∙ chew_goes (length xs) w ss xs r (goes_not_stops w xs r g)
    ∙ ap (more b.taken b.text) (chew_enough (length xs) (length ys) b.walk b.servers ys (r - length b.text) (omega (arith, length-drop b.taken xs)) (omega arith))

-- ---- a record's data

-- what the data says by itself decides what is played
look_short : (xs : List ℕ) → length xs < 4 → (look xs).to ≡ None
unfolding look
look_short xs h = rw (lt-ltb (length xs) 4 h)

pub fed_long : (xs : List ℕ) (n : ℕ) → (look xs).to ≡ Some n → 4 ≤ length xs
fed_long xs n e = go (dec_le 4 (length xs))
  where
    go : Dec (4 ≤ length xs) → 4 ≤ length xs
    go (yes h) = h
    go (no h) = absurd (none-some n (sym (look_short xs (omega (arith, h))) ∙ e))

module _ (ss : List Server) (xs : List ℕ) where
  abbrev to : ℕ
  to = value (take 4 xs)

  abbrev m : Decoded
  m = decode (drop 4 xs)

  abbrev sees : (a b c d : Bool) → Look
  sees a b c d =
      looked (unread 10) None if a
      else looked (unread 1) None if b
      else looked (unread m.refusal) None if c
      else looked (read m.message Dash) None if d
      else looked (read m.message Dash) (Some to)

  abbrev plays : (e : Exchange) → (a b c d : Bool) → Played
  plays e a b c d =
      record { told = unread 10; servers = ss } if a
      else record { told = unread 1; servers = ss } if b
      else record { told = unread m.refusal; servers = ss } if c
      else record { told = read m.message Dash; servers = ss } if d
      else record { told = read m.message (answered e); servers = set ss to e.server }

  pub not_fed : (look xs).to ≡ None → played ss xs ≡ record { told = (look xs).told; servers = ss }
  unfolding look played
  not_fed = go (taken (get_or ss to (fresh_server to)) (drop 4 xs) room) (ltb (length xs) 4) (leb (SERVERS + COORDINATORS) to) (there m.refusal) (leb SERVERS to)
    where
      go : (e : Exchange) (a b c d : Bool) → (sees a b c d).to ≡ None → plays e a b c d ≡ record { told = (sees a b c d).told; servers = ss }
      go e true b c d f = refl
      go e false true c d f = refl
      go e false false true d f = refl
      go e false false false true f = refl
      go e false false false false f = absurd (none-some to (sym f))

  pub is_fed : (n : ℕ) → (look xs).to ≡ Some n → (let e = taken (get_or ss n (fresh_server n)) (drop 4 xs) room in
      played ss xs ≡ record { told = answer_shown (look xs).told e.answer e.output; servers = set ss n e.server })
  unfolding look played answer_shown shown_of answered
  is_fed n = go (ltb (length xs) 4) (leb (SERVERS + COORDINATORS) to) (there m.refusal) (leb SERVERS to)
    where
      go : (a b c d : Bool) → (sees a b c d).to ≡ Some n → (let e = taken (get_or ss n (fresh_server n)) (drop 4 xs) room in
          plays (taken (get_or ss to (fresh_server to)) (drop 4 xs) room) a b c d ≡ record { told = answer_shown (sees a b c d).told e.answer e.output; servers = set ss n e.server })
      go true b c d f = absurd (none-some n f)
      go false true c d f = absurd (none-some n f)
      go false false true d f = absurd (none-some n f)
      go false false false true f = absurd (none-some n f)
      go false false false false f = rw (same_Some to n f) refl

-- ---- the loop over a portion

-- of a portion that is chewed from the walk w and the servers ss, with z for the lines: here the walk v and the servers vs are left, `at` bytes are taken, and lines of m bytes are made, which stand at the front of z'
pub record SoFar (w : Walk) (ss : List Server) (xs z : List ℕ) (v : Walk) (vs : List Server) (at m : ℕ) (z' : List ℕ) : Type 0 where
  pub text : List ℕ
  pub made : m ≡ length text
  pub bytes : z' ≡ over text z
  pub taken : at ≤ length xs
  pub room : m ≤ length z
  pub long : length vs ≡ 12
  pub all : chewed w ss xs (length z) ≡ more at text (chewed v vs (drop at xs) (length z - m))

-- nothing is chewed yet
pub so_far_none : (w : Walk) (ss : List Server) (xs z : List ℕ) → length ss ≡ 12 → SoFar w ss xs z w ss 0 0 z
unfolding over
so_far_none w ss xs z e = record { text = []; made = refl; bytes = refl; taken = omega arith; room = omega arith; long = e; all = sym (more_none (chewed w ss xs (length z))) ∙ ap (λ (k : ℕ). more 0 [] (chewed w ss xs k)) (let n : length z ≡ length z - 0 = omega arith in n) }
  where
    more_none : (c : Chewed) → more 0 [] c ≡ c
    more_none c = rw zero-add refl

more_more : (a k : ℕ) (s t : List ℕ) (c : Chewed) → more a s (more k t c) ≡ more (a + k) (s ++ t) c
more_more a k s t c = rw (add_assoc a k c.taken, append_assoc s t c.text)

bite_short : (w : Walk) (ss : List Server) (xs : List ℕ) → length (bite w ss xs).text ≤ LINE
bite_short w ss xs = go (whole (turned (filled w xs))) refl
  where
    n : Walk
    n = turned (filled w xs)

    go : (b : Bool) → whole n ≡ b → length (bite w ss xs).text ≤ LINE
    go true e = rw (bite_whole w ss xs e) (line_short n.number n.seconds (played ss (seen n)).told)
    go false e = rw (bite_not w ss xs e) (omega arith)

takes_le : (w : Walk) (xs : List ℕ) → takes w xs ≤ length xs
unfolding takes
takes_le w xs = omega arith

pub takes_some : (w : Walk) (xs : List ℕ) (r : ℕ) → Goes w xs r → 1 ≤ takes w xs
unfolding takes
takes_some w xs r g = omega (arith, going_left w g.going, g.bytes)

pub takes_within : (w : Walk) (xs : List ℕ) (at : ℕ) → at ≤ length xs → at + takes w (drop at xs) ≤ length xs
takes_within w xs at h = omega (arith, takes_le w (drop at xs), length-drop at xs)

module _ {w : Walk} {ss : List Server} {xs z : List ℕ} {v : Walk} {vs : List Server} {at m : ℕ} {z' : List ℕ} (s : SoFar w ss xs z v vs at m z') where
  abbrev ys : List ℕ
  ys = drop at xs

  -- one bite more, whose text is written after the last
  so_far_bite : Goes v ys (length z - m) → length (bite v vs ys).servers ≡ 12 → (r : ℕ) (z'' : List ℕ) → (let b = bite v vs ys in Put m b.text z' r z'' → SoFar w ss xs z b.walk b.servers (at + b.taken) r z'')
  so_far_bite g f r z'' p =
      let b = bite v vs ys in
      let q = written-put s.text b.text z (record { at = s.made; bytes = s.bytes }) p in
      let n : (length z - m) - length b.text ≡ length z - r = omega (arith, p.next) in
      record {
        text = s.text ++ b.text;
        made = q.at;
        bytes = q.bytes;
        taken = omega (arith, bite_takes v vs ys, takes_within v xs at s.taken);
        room = omega (arith, p.next, bite_short v vs ys, s.room, g.room);
        long = f;
        all =
            s.all
            ∙ ap (more at s.text) (chewed_goes v vs ys (length z - m) g)
            ∙ more_more at b.taken s.text b.text _
            ∙ ap (λ (k : ℕ). more (at + b.taken) (s.text ++ b.text) (chewed b.walk b.servers (drop b.taken ys) k)) n
            ∙ ap (λ (l : List ℕ). more (at + b.taken) (s.text ++ b.text) (chewed b.walk b.servers l (length z - r))) (drop-drop b.taken at xs);
      }

  pub so_far_whole : Goes v ys (length z - m) → (n : Walk) (o : Played) (r : ℕ) (z'' : List ℕ)
      → n ≡ turned (filled v ys) → whole n ≡ true → played vs (seen n) ≡ o → length o.servers ≡ 12 → Put m (line n.number n.seconds o.told) z' r z''
      → SoFar w ss xs z (after_data n) o.servers (at + takes v ys) r z''
  so_far_whole g n o r z'' e h d f p =
      let b : Chewed = record { walk = after_data n; servers = o.servers; taken = takes v ys; text = line n.number n.seconds o.told } in
      let same : bite v vs ys ≡ b =
      bite_whole v vs ys (rw e at h)
      ∙ ap (λ (k : Walk). record { walk = after_data k; servers = (played vs (seen k)).servers; taken = takes v ys; text = line k.number k.seconds (played vs (seen k)).told }) (sym e)
      ∙ ap (λ (q : Played). record { walk = after_data n; servers = q.servers; taken = takes v ys; text = line n.number n.seconds q.told }) d in
      subst (λ (k : Chewed). SoFar w ss xs z k.walk k.servers (at + k.taken) r z'') same
      (so_far_bite g (rw same f) r z'' (rw same p))

  pub so_far_rest : Goes v ys (length z - m) → (n : Walk) → n ≡ turned (filled v ys) → whole n ≡ false → SoFar w ss xs z n vs (at + takes v ys) m z'
  so_far_rest g n e h =
      let b : Chewed = record { walk = n; servers = vs; taken = takes v ys; text = [] } in
      let same : bite v vs ys ≡ b =
      bite_not v vs ys (rw e at h)
      ∙ ap (λ (k : Walk). record { walk = k; servers = vs; taken = takes v ys; text = [] }) (sym e) in
      subst (λ (k : Chewed). SoFar w ss xs z k.walk k.servers (at + k.taken) m z') same
      (so_far_bite g (rw same s.long) m z' (rw same (put-none m z')))

  pub so_far_ends : stops v ys (length z - m) ≡ true
      → (let c = chewed w ss xs (length z) in (record { walk = v; servers = vs; taken = at; made = m } ≡ played_of c) × (z' ≡ over c.text z))
  so_far_ends e =
      let same : chewed w ss xs (length z) ≡ record { walk = v; servers = vs; taken = at; text = s.text } =
      s.all ∙ ap (more at s.text) (chewed_stops v vs ys (length z - m) e) ∙ rw (append-nil, add-zero) in
      (rw (same, s.made), rw same s.bytes)

-- ---- a record's data as code plays it

-- a server of the twelve took the message, which follows the destination in the window
pub fed_plays : (vs : List Server) (n : Walk) (l : Look) (to : ℕ) (d : Server) (r : Answer) (s : Server) (out : List ℕ) (told : Told)
    → length vs ≡ 12 → l ≡ look (seen n) → to < 12 → l.to ≡ Some to
    → (let x = taken (get_or vs to d) (take (n.have - 4) (drop 4 n.kept)) room in
    (r ≡ x.answer) × (s ≡ x.server) × (out ≡ x.output) → told ≡ answer_shown l.told r out → played vs (seen n) ≡ record { told = told; servers = set vs to s })
fed_plays vs n l to d r s out told long is below fed t a =
    let four : 4 ≤ n.have = omega (arith, fed_long (seen n) to (rw is at fed), length-take n.have n.kept) in
    let m : n.have ≡ 4 + (n.have - 4) = omega arith in
    let part : drop 4 (seen n) ≡ take (n.have - 4) (drop 4 n.kept) = ap (λ (k : ℕ). drop 4 (take k n.kept)) m ∙ drop-take 4 (n.have - 4) n.kept in
    let from : get_or vs to (fresh_server to) ≡ get_or vs to d = get_or_default vs to (fresh_server to) d (omega arith) in
    is_fed vs (seen n) to (rw is at fed) ∙ rw (from, part, ← is, a, t.2, t.1, t.0) refl

pub unfed_plays : (vs : List Server) (n : Walk) (l : Look) → l ≡ look (seen n) → l.to ≡ None → played vs (seen n) ≡ record { told = l.told; servers = vs }
unfed_plays vs n l is e = not_fed vs (seen n) (rw is at e) ∙ rw (← is) refl

-- ---- what a caller needs of it

chew_taken : (t : ℕ) (w : Walk) (ss : List Server) (xs : List ℕ) (r : ℕ) → (chew t w ss xs r).taken ≤ length xs
unfolding chew
chew_taken zero w ss xs r = omega arith
chew_taken (suc t) w ss xs r =
    let b = bite w ss xs in
    go (chew_taken t b.walk b.servers (drop b.taken xs) (r - length b.text)) (stops w xs r) refl
  where
    b : Chewed
    b = bite w ss xs

    go : (chew t b.walk b.servers (drop b.taken xs) (r - length b.text)).taken ≤ length (drop b.taken xs) → (q : Bool) → stops w xs r ≡ q → (chew (suc t) w ss xs r).taken ≤ length xs
    go h true e = rw (chew_stops t w ss xs r e) (omega arith)
    go h false e = rw (chew_goes t w ss xs r e) (omega (arith, h, length-drop b.taken xs, bite_takes w ss xs, takes_le w xs))

-- no more is taken than the portion has
pub chewed_taken : (w : Walk) (ss : List Server) (xs : List ℕ) (r : ℕ) → (chewed w ss xs r).taken ≤ length xs
unfolding chewed
chewed_taken w ss xs r = chew_taken (length xs) w ss xs r

-- the lines that stand at the front of an output are within it
pub front_fits : (text z : List ℕ) → length (over text z) ≡ length z → length text ≤ length z
unfolding over
front_fits text z e = omega (arith, length-append text (drop (length text) z), length-drop (length text) z, e)

module _ (w : Walk) (ss : List Server) (xs z : List ℕ) (p : Play) where
  pub made_fits : (z' : List ℕ) → (p ≡ played_of (chewed w ss xs (length z))) × (z' ≡ over (chewed w ss xs (length z)).text z) → length z' ≡ length z → p.made ≤ length z'
  made_fits z' e f =
      let fits : length (chewed w ss xs (length z)).text ≤ length z = front_fits (chewed w ss xs (length z)).text z (rw e.1 at f) in
      rw (e.0, f) fits

  pub took_within : p ≡ played_of (chewed w ss xs (length z)) → p.taken ≤ length xs
  took_within e = rw e (chewed_taken w ss xs (length z))

pub end_fits : (m : ℕ) (text z z' : List ℕ) → m ≡ length text → z' ≡ over text z → length z' ≡ length z → m ≤ length z'
end_fits m text z z' a b f = rw (a, f) (front_fits text z (rw b at f))
