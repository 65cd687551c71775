-- However the file is cut into portions, and whatever room there is for lines, the calls print what the definition says of the whole file. Assumes nothing.
use Rattle.std.proofs.Common.{◌≡◌, ℕ, zero, suc, ◌-◌, ◌<◌, ◌≤◌, Bool, true, false, not, ◌||◌, eqb, ltb, List, [], ◌∷◌, ◌++◌, length, take, drop, sym, refl, ap, ◌∙◌, true≢false, append_assoc, append-nil, arith, length-drop, take-append-drop, length-take, drop-drop, lt-ltb, eq-eqb, ne_eqb, le-leb}
use native.Mathlib.Decide.{dec_le}
use lib.Seq.{drop-append-le}
use Rattle.rules.specs.Choice.{◌if◌else◌}
use Rattle.server.specs.declared.Server.{Server}
use Rattle.capture.specs.Pcap.{HEADER, HEAD, header}
use Rattle.capture.specs.Text.{LINE, line, bad_header, cut_record}
use Rattle.player.specs.declared.Walk.{Walk}
use Rattle.player.specs.Replay.{played, Printed, ended, stopped, ◌then◌, records, opened, replay}
use Rattle.player.specs.Walking.{WINDOW, OPENING, HEADS, DATA, OVER, begun, seen, going, takes, filled, turned, whole, after_data, Chewed, bite, unchewed, more, chew, chewed, ending}
use Rattle.player.specs.Portions.{Stage, at_first, Call, call, calls, Finished, no_more, nothing_read, printed}
use Rattle.player.proofs.RecordsAre.{records_is}
use Rattle.player.proofs.Resting.{rest, Holds, rest-opens, rest-heads, rest-data, rest_over, filled-holds, filled-rest, Phase, opens, heading, in_data, over, phase_of}
use Rattle.player.proofs.Rests.{Rests, Turned, a-record, a-rest, turned_is, data_rests}
use Rattle.player.proofs.Turning.{seen-length, data-whole, turned-rest}

-- a line, and then a line, and then what follows
then_then : (l m : List ℕ) (p : Printed) → (l then (m then p)) ≡ ((l ++ m) then p)
then_then l m p = ap (λ (t : List ℕ). record { text = t; status = p.status }) (sym (append_assoc l m p.text))

module _ (w : Walk) (ss : List Server) (xs : List ℕ) (h : Holds w) where
  abbrev v : Walk
  v = turned (filled w xs)

  bite-whole : whole v ≡ true → bite w ss xs ≡ record { walk = after_data v; servers = (played ss (seen v)).servers; taken = takes w xs; text = line v.number v.seconds (played ss (seen v)).told }
  unfolding bite
  bite-whole e = rw e

  bite-rest : whole v ≡ false → bite w ss xs ≡ record { walk = v; servers = ss; taken = takes w xs; text = [] }
  unfolding bite
  bite-rest e = rw e

  is_whole : v.phase ≡ DATA → v.left ≡ 0 → whole v ≡ true
  unfolding whole
  is_whole p e = rw (eq-eqb v.phase DATA p, eq-eqb v.left 0 e)

  -- the state after a bite is one between two bites
  pub bite-rests : Rests (bite w ss xs).walk
  bite-rests = go (turned_is (filled w xs) (filled-holds w xs h))
    where
      go : Turned v → Rests (bite w ss xs).walk
      go (a-record k p e) = rw (bite-whole (is_whole p e)) (data_rests v k)
      go (a-rest r e) = rw (bite-rest e) r

  pub bite-taken : (bite w ss xs).taken ≡ takes w xs
  bite-taken = go (whole v) refl
    where
      go : (b : Bool) → whole v ≡ b → (bite w ss xs).taken ≡ takes w xs
      go true e = rw (bite-whole e)
      go false e = rw (bite-rest e)

  pub bite-prints : (ys : List ℕ) → (let b = bite w ss xs in rest w ss (xs ++ ys) ≡ (b.text then rest b.walk b.servers (drop b.taken xs ++ ys)))
  bite-prints ys = filled-rest w xs h ss ys ∙ turned-rest (filled w xs) (filled-holds w xs h) ss zs ∙ go (turned_is (filled w xs) (filled-holds w xs h))
    where
      zs : List ℕ
      zs = drop (takes w xs) xs ++ ys

      go : Turned v → rest v ss zs ≡ ((bite w ss xs).text then rest (bite w ss xs).walk (bite w ss xs).servers (drop (bite w ss xs).taken xs ++ ys))
      go (a-record k p e) = rw (bite-whole (is_whole p e)) (data-whole v k ss zs p e)
      go (a-rest r e) = rw (bite-rest e) refl

-- ---- a portion

stops : Walk → List ℕ → ℕ → Bool
stops w xs room = not (going w) || eqb (length xs) 0 || ltb room LINE

module _ (t : ℕ) (w : Walk) (ss : List Server) (xs : List ℕ) (room : ℕ) where
  chew-stops : stops w xs room ≡ true → chew (suc t) w ss xs room ≡ unchewed w ss
  unfolding chew stops
  chew-stops e = rw e

  chew-goes : stops w xs room ≡ false
      → (let b = bite w ss xs in chew (suc t) w ss xs room ≡ more b.taken b.text (chew t b.walk b.servers (drop b.taken xs) (room - length b.text)))
  unfolding chew stops
  chew-goes e = rw e

-- what a portion leaves, and what it prints
pub record Chews (w : Walk) (ss : List Server) (xs : List ℕ) (c : Chewed) : Type 0 where
  pub rests : Rests c.walk
  pub within : c.taken ≤ length xs
  pub prints : (ys : List ℕ) → rest w ss (xs ++ ys) ≡ (c.text then rest c.walk c.servers (drop c.taken xs ++ ys))

unchewed_chews : (w : Walk) (ss : List Server) (xs : List ℕ) → Rests w → Chews w ss xs (unchewed w ss)
unchewed_chews w ss xs r = record { rests = r; within = omega arith; prints = λ ys. refl }

takes_le : (w : Walk) (xs : List ℕ) → takes w xs ≤ length xs
unfolding takes
takes_le w xs = omega arith

bite_chews : (w : Walk) (ss : List Server) (xs : List ℕ) → Rests w → (c : Chewed) → (let b = bite w ss xs in Chews b.walk b.servers (drop b.taken xs) c → Chews w ss xs (more b.taken b.text c))
bite_chews w ss xs r c k =
    let b = bite w ss xs in
    record {
      rests = k.rests;
      within = omega (arith, k.within, length-drop b.taken xs, bite-taken w ss xs r.holds, takes_le w xs);
      prints = λ ys.
          bite-prints w ss xs r.holds ys
          ∙ ap (λ (p : Printed). b.text then p) (k.prints ys)
          ∙ then_then b.text c.text _
          ∙ ap (λ (zs : List ℕ). (b.text ++ c.text) then rest c.walk c.servers (zs ++ ys)) (drop-drop c.taken b.taken xs);
    }

chew_chews : (t : ℕ) (w : Walk) (ss : List Server) (xs : List ℕ) (room : ℕ) → Rests w → Chews w ss xs (chew t w ss xs room)
unfolding chew
chew_chews zero w ss xs room r = unchewed_chews w ss xs r
chew_chews (suc t) w ss xs room r =
    let b = bite w ss xs in
    go (chew_chews t b.walk b.servers (drop b.taken xs) (room - length b.text) (bite-rests w ss xs r.holds)) (stops w xs room) refl
  where
    go : (let b = bite w ss xs in Chews b.walk b.servers (drop b.taken xs) (chew t b.walk b.servers (drop b.taken xs) (room - length b.text)))
        → (q : Bool) → stops w xs room ≡ q → Chews w ss xs (chew (suc t) w ss xs room)
    go k true e = rw (chew-stops t w ss xs room e) (unchewed_chews w ss xs r)
    go k false e = rw (chew-goes t w ss xs room e) (bite_chews w ss xs r _ k)

pub chewed_chews : (w : Walk) (ss : List Server) (xs : List ℕ) (room : ℕ) → Rests w → Chews w ss xs (chewed w ss xs room)
unfolding chewed
chewed_chews w ss xs room r = chew_chews (length xs) w ss xs room r

-- ---- the calls

-- what is printed so far, and then what the walk prints of the bytes that are left
abbrev says : Stage → Printed
says s = s.text then rest s.walk s.servers s.left

call-rests : (k : Call) (s : Stage) → Rests s.walk → Rests (call k s).walk
unfolding call
call-rests k s r = (chewed_chews s.walk s.servers (take k.portion s.left) k.room r).rests

call-says : (k : Call) (s : Stage) → Rests s.walk → says s ≡ says (call k s)
unfolding call
call-says k s r =
    let xs = take k.portion s.left in
    let ys = drop k.portion s.left in
    let c = chewed s.walk s.servers xs k.room in
    let p = chewed_chews s.walk s.servers xs k.room r in
    ap (λ (l : List ℕ). s.text then rest s.walk s.servers l) (sym (take-append-drop k.portion s.left))
    ∙ ap (λ (q : Printed). s.text then q) (p.prints ys)
    ∙ then_then s.text c.text _
    ∙ ap (λ (l : List ℕ). (s.text ++ c.text) then rest c.walk c.servers l) (sym (drop-append-le c.taken xs ys p.within) ∙ ap (drop c.taken) (take-append-drop k.portion s.left))

calls_say : (ks : List Call) (s : Stage) → Rests s.walk → (says s ≡ says (calls ks s)) × Rests (calls ks s).walk
unfolding calls
calls_say [] s r = (refl, r)
calls_say (k ∷ ks) s r =
    let p = calls_say ks (call k s) (call-rests k s r) in
    (call-says k s r ∙ p.0, p.1)

-- ---- the beginning and the end

begun-rests : Rests begun
unfolding begun
begun-rests = record { holds = record { kept = refl; have = omega arith; opening = λ e. (refl, refl); heads = λ e. absurd (omega (arith, e)) }; comes = λ k. omega arith }

first_rests : (file : List ℕ) → Rests (at_first file).walk
unfolding at_first
first_rests file = begun-rests

first_says : (file : List ℕ) → says (at_first file) ≡ replay file
unfolding at_first begun rest replay
first_says file = refl

header_short : (xs : List ℕ) → length xs < HEADER → (header xs).good ≡ false
unfolding header
header_short xs k = rw (lt-ltb (length xs) HEADER k)

ending-rests : (w : Walk) (ss : List Server) → Rests w → rest w ss [] ≡ ending w
unfolding ending opened
ending-rests w ss r = go (phase_of w)
  where
    h : Holds w
    h = r.holds

    l : length (seen w) ≡ w.have
    l = seen-length w h

    n : length (seen w ++ []) ≡ w.have
    n = ap length (append-nil (seen w)) ∙ l

    opening : w.phase ≡ OPENING → opened ss (seen w ++ []) ≡ stopped bad_header
    opening p = rw (header_short (take HEADER (seen w ++ [])) (omega (arith, length-take HEADER (seen w ++ []), n, (h.opening p).0, r.comes (omega (arith, p)))))

    heads : w.phase ≡ HEADS → records w.little w.number ss (seen w ++ []) ≡ (ended if eqb w.have 0 else stopped cut_record)
    heads p =
        records_is w.little w.number ss (seen w ++ [])
        ∙ rw (n, lt-ltb w.have HEAD (omega (arith, h.heads p, r.comes (omega (arith, p)))))

    go : Phase w → rest w ss [] ≡ ending w
    go (opens p) = rest-opens w ss [] p ∙ opening p ∙ rw (eq-eqb w.phase OPENING p)
    go (heading p) = rest-heads w ss [] p ∙ heads p ∙ rw p
    go (in_data p) = rest-data w ss [] p ∙ rw (p, lt-ltb 0 w.left (r.comes (omega (arith, p))))
    go (over a b c) = rest_over w ss [] a b c ∙ rw (ne_eqb w.phase OPENING a, le-leb OVER w.phase (omega (arith, a, b, c)))

-- nothing is read any more: the header was bad
over-rests : (w : Walk) → Rests w → going w ≡ false → OVER ≤ w.phase
unfolding going
over-rests w r e = go (dec_le OVER w.phase)
  where
    go : Dec (OVER ≤ w.phase) → OVER ≤ w.phase
    go (yes k) = k
    go (no k) =
        let p : w.phase < OVER = omega (arith, k) in
        absurd (true≢false (rw (lt-ltb w.phase OVER p, lt-ltb 0 w.left (r.comes p), le-leb w.have WINDOW r.holds.have) at e))

over-ends : (w : Walk) (ss : List Server) (ys : List ℕ) → OVER ≤ w.phase → rest w ss ys ≡ ending w
unfolding ending
over-ends w ss ys k =
    rest_over w ss ys (λ e. absurd (omega (arith, k, e))) (λ e. absurd (omega (arith, k, e))) (λ e. absurd (omega (arith, k, e)))
    ∙ rw (ne_eqb w.phase OPENING (λ e. absurd (omega (arith, k, e))), le-leb OVER w.phase k)

pub any_portions : (file : List ℕ) (ks : List Call) → Finished (calls ks (at_first file)) → printed (calls ks (at_first file)) ≡ replay file
unfolding printed
any_portions file ks f = go f ∙ sym p.0 ∙ first_says file
  where
    s : Stage
    s = calls ks (at_first file)

    p : (says (at_first file) ≡ says s) × Rests s.walk
    p = calls_say ks (at_first file) (first_rests file)

    go : Finished s → (s.text then ending s.walk) ≡ says s
    go (no_more e) = ap (λ (q : Printed). s.text then q) (sym (ending-rests s.walk s.servers p.1) ∙ ap (rest s.walk s.servers) (sym e))
    go (nothing_read e) = ap (λ (q : Printed). s.text then q) (sym (over-ends s.walk s.servers s.left (over-rests s.walk p.1 e)))
