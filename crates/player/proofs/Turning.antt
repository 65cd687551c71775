-- Where a header, a head or a record's data is whole, what the walk turns to prints the same of the bytes to come. Assumes nothing.
use Rattle.std.proofs.Common.{◌≡◌, ℕ, ◌+◌, ◌≤◌, Bool, true, false, ltb, List, ◌++◌, length, take, drop, sym, refl, ap, ◌∙◌, append-nil, arith, length-append, length-take-le, take_all, drop-drop, take_at, drop_at, le-ltb, lt-ltb, eq-eqb, ne_eqb}
use native.Mathlib.Decide.{dec_le}
use Rattle.rules.specs.Choice.{◌if◌else◌}
use Rattle.server.specs.declared.Server.{Server}
use Rattle.capture.specs.Pcap.{HEADER, HEAD, header, head}
use Rattle.capture.specs.Text.{line, bad_header, cut_record}
use Rattle.capture.specs.declared.Header.{Header}
use Rattle.capture.specs.declared.Head.{Head}
use Rattle.player.specs.declared.Walk.{Walk}
use Rattle.player.specs.Replay.{Played, played, Printed, stopped, ◌then◌, next, records, opened}
use Rattle.player.specs.Walking.{WINDOW, OPENING, HEADS, DATA, OVER, seen, reads, after_header, after_head, turned, after_data}
use Rattle.player.proofs.RecordsAre.{records_is}
use Rattle.player.proofs.WindowPlays.{window-plays}
use Rattle.player.proofs.Resting.{lined, data_by, rest, Holds, rest-opens, rest-heads, rest-data, Phase, opens, heading, in_data, over, phase_of}

ltb-add : (k a b : ℕ) → ltb (k + a) (k + b) ≡ ltb a b
ltb-add k a b = go (dec_le b a)
  where
    go : Dec (b ≤ a) → ltb (k + a) (k + b) ≡ ltb a b
    go (yes h) = le-ltb (k + a) (k + b) (omega (arith, h)) ∙ sym (le-ltb a b h)
    go (no h) = lt-ltb (k + a) (k + b) (omega (arith, h)) ∙ sym (lt-ltb a b (omega (arith, h)))

module _ (w : Walk) where
  pub turned_more : 1 ≤ w.left → turned w ≡ w
  unfolding turned
  turned_more k = rw (lt-ltb 0 w.left k)

  pub turned-header : w.left ≡ 0 → w.phase ≡ OPENING → turned w ≡ after_header w
  unfolding turned
  turned-header e p = rw (le-ltb 0 w.left (omega (arith, e)), eq-eqb w.phase OPENING p)

  pub turned-head : w.left ≡ 0 → w.phase ≡ HEADS → turned w ≡ after_head w
  unfolding turned
  turned-head e p = rw (le-ltb 0 w.left (omega (arith, e)), ne_eqb w.phase OPENING (λ q. absurd (omega (arith, p, q))), eq-eqb w.phase HEADS p)

  pub turned_none : w.left ≡ 0 → (w.phase ≡ OPENING → ⊥) → (w.phase ≡ HEADS → ⊥) → turned w ≡ w
  unfolding turned
  turned_none e a b = rw (le-ltb 0 w.left (omega (arith, e)), ne_eqb w.phase OPENING a, ne_eqb w.phase HEADS b)

module _ (w : Walk) (h : Holds w) where
  pub seen-length : length (seen w) ≡ w.have
  seen-length = length-take-le w.have w.kept (omega (arith, h.have, h.kept))

  module _ (ss : List Server) (ys : List ℕ) where
    -- ---- the header

    abbrev opened_by : Header → List ℕ → Printed
    opened_by r zs = records r.little 1 ss zs if r.good else stopped bad_header

    header-turns : w.number ≡ 1 → opened_by (header (take HEADER w.kept)) ys ≡ rest (after_header w) ss ys
    unfolding after_header rest
    header-turns n = go r.good
      where
        r : Header
        r = header (take HEADER w.kept)

        go : (b : Bool) → (records r.little 1 ss ys if b else stopped bad_header) ≡ rest (reads w HEADS r.little w.number 0 HEAD if b else reads w OVER false w.number 0 0) ss ys
        go true = ap (λ (k : ℕ). records r.little k ss ys) (sym n)
        go false = refl

    header-whole : w.have ≡ HEADER → w.number ≡ 1 → opened ss (seen w ++ ys) ≡ rest (after_header w) ss ys
    unfolding opened
    header-whole e n =
        let l : length (seen w) ≡ HEADER = seen-length ∙ e in
        (λ i. opened_by (header (take_at (seen w) ys HEADER l i)) (drop_at (seen w) ys HEADER l i))
        ∙ ap (λ (k : ℕ). opened_by (header (take k w.kept)) ys) e
        ∙ header-turns n

    -- ---- a record's head

    abbrev turned_by : Head → Bool → Played → List ℕ → Printed
    turned_by d short o zs = stopped cut_record if short else line w.number d.seconds o.told then records w.little (next w.number) o.servers zs

    head-turns : (d : Head) → d ≡ head w.little (take HEAD w.kept) → turned_by d (ltb (length ys) d.captured) (played ss (take d.captured ys)) (drop d.captured ys) ≡ rest (after_head w) ss ys
    unfolding after_head rest
    head-turns d e =
        ap (λ (o : Played). turned_by d (ltb (length ys) d.captured) o (drop d.captured ys)) (window-plays ss (take d.captured ys))
        ∙ ap (λ (x : Head). turned_by x (ltb (length ys) x.captured) (played ss (take WINDOW (take x.captured ys))) (drop x.captured ys)) e

    -- the records' turn, where the head is there
    headed-turn : (file : List ℕ) → HEAD ≤ length file → (let d = head w.little (take HEAD file) in
        records w.little w.number ss file ≡ turned_by d (ltb (length file) (HEAD + d.captured)) (played ss (take d.captured (drop HEAD file))) (drop d.captured (drop HEAD file)))
    headed-turn file k =
        let d = head w.little (take HEAD file) in
        let o = played ss (take d.captured (drop HEAD file)) in
        records_is w.little w.number ss file
        ∙ rw (ne_eqb (length file) 0 (λ e. absurd (omega (arith, e, k))), le-ltb (length file) HEAD k, drop-drop d.captured HEAD file)

    head-whole : w.have ≡ HEAD → records w.little w.number ss (seen w ++ ys) ≡ rest (after_head w) ss ys
    head-whole e =
        let l : length (seen w) ≡ HEAD = seen-length ∙ e in
        let file = seen w ++ ys in
        let d = head w.little (take HEAD w.kept) in
        let t : take HEAD file ≡ take HEAD w.kept = take_at (seen w) ys HEAD l ∙ ap (λ (k : ℕ). take k w.kept) e in
        let m : length file ≡ HEAD + length ys = length-append (seen w) ys ∙ ap (λ (k : ℕ). k + length ys) l in
        headed-turn file (omega (arith, m))
        ∙ (λ i. let x = head w.little (t i) in let zs = drop_at (seen w) ys HEAD l i in turned_by x (ltb (m i) (HEAD + x.captured)) (played ss (take x.captured zs)) (drop x.captured zs))
        ∙ ap (λ (b : Bool). turned_by d b (played ss (take d.captured ys)) (drop d.captured ys)) (ltb-add HEAD (length ys) d.captured)
        ∙ head-turns d refl

    -- ---- a record's data

    pub data-whole : w.phase ≡ DATA → w.left ≡ 0 → rest w ss ys ≡ line w.number w.seconds (played ss (seen w)).told then rest (after_data w) (played ss (seen w)).servers ys
    unfolding after_data rest
    data-whole p e =
        rest-data w ss ys p
        ∙ (λ i. data_by w ss (ltb (length ys) (e i)) (take WINDOW (seen w ++ take (e i) ys)) (drop (e i) ys))
        ∙ (λ i. data_by w ss (le-ltb (length ys) 0 (omega arith) i) (take WINDOW (append-nil (seen w) i)) ys)
        ∙ ap (λ (xs : List ℕ). lined w (played ss xs) ys) (take_all WINDOW (seen w) (omega (arith, seen-length, h.have)))

    -- ---- whichever it is

    pub turned-rest : rest w ss ys ≡ rest (turned w) ss ys
    turned-rest = go (dec_le 1 w.left)
      where
        by-phase : w.left ≡ 0 → Phase w → rest w ss ys ≡ rest (turned w) ss ys
        by-phase e (opens p) = rest-opens w ss ys p ∙ header-whole (omega (arith, (h.opening p).0, e)) (h.opening p).1 ∙ ap (λ (v : Walk). rest v ss ys) (sym (turned-header w e p))
        by-phase e (heading p) = rest-heads w ss ys p ∙ head-whole (omega (arith, h.heads p, e)) ∙ ap (λ (v : Walk). rest v ss ys) (sym (turned-head w e p))
        by-phase e (in_data p) = ap (λ (v : Walk). rest v ss ys) (sym (turned_none w e (λ q. absurd (omega (arith, p, q))) (λ q. absurd (omega (arith, p, q)))))
        by-phase e (over a b c) = ap (λ (v : Walk). rest v ss ys) (sym (turned_none w e a b))

        go : Dec (1 ≤ w.left) → rest w ss ys ≡ rest (turned w) ss ys
        go (yes k) = ap (λ (v : Walk). rest v ss ys) (sym (turned_more w k))
        go (no k) = by-phase (omega (arith, k)) (phase_of w)
