-- Demand 3 in plain numbers, from the theorem of demand 3 alone and from laws of lists, words and forms. Assumes nothing.
use mathlib.Core.Path.{◌≡◌, refl, sym, ◌∙◌, ap, subst}
use mathlib.Core.Logic.{◌⊎◌, inl, inr, ◌≢◌}
use mathlib.Core.Bool.{true, not, ◌&&◌}
use mathlib.Core.Option.{some}
use mathlib.Core.List.{List, ◌++◌, Memᴰ}
use Prim.Native.Nat.{ℕ, zero, suc, ◌^◌, ◌≤◌, ◌<◌}
use native.Mathlib.Omega.{arith}
use borrow.Author.Tests.{leb-true, leb-false, ne_eqb}
use lib.Dec.{leb}
use lib.ListN.{length, get_or, length-append, get_or-append}
use Rattle.masks.specs.Bits.{bit, In}
use Rattle.masks.proofs.Bools.{and_yes-l, and_yes_r, true_and_false, not_yes}
use Rattle.masks.proofs.Laws.{in_lt}
use Rattle.masks.proofs.FoldLaws.{any_at}
use Rattle.rules.specs.declared.Set.{Set}
use Rattle.rules.specs.declared.Values.{Values}
use Rattle.rules.specs.Cluster.{PIECES, bad_number, bad_coordinator}
use Rattle.rules.specs.Flags.{there}
use Rattle.rules.specs.Pieces.{on_shard, touches}
use Rattle.rules.specs.Values.{no_value}
use Rattle.rules.specs.Sets.{word}
use Rattle.rules.specs.Conflict.{conflict}
use Rattle.rules.proofs.PiecesKept.{kept-is}
use Rattle.rules.proofs.SetLaws.{in_members}
use Rattle.rules.proofs.ConflictIs.{on-is, shares-conflict}
use Rattle.wire.specs.Messages.{inquire, fetch}
use Rattle.wire.specs.declared.Message.{Message}
use Rattle.counters.specs.declared.Counters.{Counters}
use Rattle.counters.specs.Effects.{counter_at}
use Rattle.graph.specs.Before.{Before, direct, behind}
use Rattle.server.specs.Held.{record_at, entry_at, committed_word}
use Rattle.server.specs.Run.{deps_of}
use Rattle.server.proofs.FormParts.{Formed, formed_parts, logged-some, some-logged}
use Rattle.server.proofs.RunKeepsForm.{deps-committed, committed_in_lem}
use Rattle.drive.specs.declared.Drive.{Drive}
use Rattle.drive.specs.Form.{numbers_formed}
use Rattle.drive.proofs.FormParts as D
use Rattle.safety.specs.Orders.{entries, Earlier, completed}
use Rattle.safety.specs.Cluster.{World, Cluster, Reaches, Reached, then}
use Rattle.safety.specs.Statements.{Committed, log_of, SameRan, Safe}
use Rattle.safety.specs.Plain as P
use Rattle.safety.specs.Plain.{set_at, word_at, digit, HeldAt, LoggedAt, LoggedBefore, PieceOn, OneKey, SameWords, OneHasTheOther, NeverTurned, OneList, RanTheSame, NotRefused, SentIsTaken, NoBadForm, ServerKept, NothingWaits, DriveKept, Later, OrderStays, Plain}
use Rattle.safety.proofs.Lists.{completed-grows}
use Rattle.safety.proofs.Places.{mem-place, earlier-places, one_place, take-mem, mem-take, take-earlier, all_numbers}
use Rattle.safety.proofs.Theorem.{safety}

-- ---- the words of the statements in numbers

flagged : {n : ℕ} → n ≢ 0 → there n ≡ true
flagged {n} h = ap not (ne_eqb n 0 h)

not_zero : {n : ℕ} → there n ≡ true → n ≢ 0
not_zero h e = true_and_false h (ap there e)

committed : (c : Cluster) (s t : ℕ) → HeldAt c s t → Committed c s t (set_at c s t)
committed c s t h = record { holds = flagged h; is = refl }

word_at_lem : (v : Set) (k : ℕ) → k < 4 → word v k ≡ word_at v k
unfolding word
word_at_lem v zero l = refl
word_at_lem v (suc zero) l = refl
word_at_lem v (suc (suc zero)) l = refl
word_at_lem v (suc (suc (suc zero))) l = refl
word_at_lem v (suc (suc (suc (suc k)))) l = absurd (omega arith)

digit_of : (v : Set) (k t : ℕ) → k < 4 → In (word v k) t → digit (word_at v k) t ≡ 1
unfolding bit
digit_of v k t l i = subst (λ x. digit x t ≡ 1) (word_at_lem v k l) i.is

conflicts : (w : World) (k t a u b : ℕ) → OneKey w k t a u b → conflict k (w.pieces t) (w.pieces u) ≡ true
conflicts w k t a u b h = shares-conflict k (w.pieces t) (w.pieces u) a b (record {
  first = record { below = h.first.below; counted = h.first.counted; shard = h.first.shard };
  second = record { below = h.second.below; counted = h.second.counted; shard = h.second.shard };
  key = h.below;
  shared = h.key;
  writes = h.writes;
})

turned : {w : World} {k t a u b : ℕ} → OneKey w k t a u b → OneKey w k u b t a
turned h = record { first = h.second; second = h.first; below = omega (arith, h.below, h.key); key = sym h.key; writes = λ p q. h.writes q p }

touched : (w : World) (t k : ℕ) → touches (w.pieces t) k ≡ true → (a : ℕ) × PieceOn w t a k
unfolding touches
touched w t k e =
    let f = any_at (on_shard (w.pieces t) k) PIECES e in
    let o = on-is (w.pieces t) k f.0 f.1 f.2 in
    (f.0, record { below = o.below; counted = o.counted; shard = o.shard })

module _ (w : World) (c : Cluster) (r : Reached w c) where
  pub safe : Safe w c
  safe = (safety w).always c r

  -- ---- the logs

  form : (s : ℕ) → Formed (c.servers s)
  form s = formed_parts (c.servers s) (safe.in_form.servers s)

  -- a place below the count is a place of the array
  within : (s i : ℕ) → i < (c.servers s).log.count → i < length (c.servers s).log.list
  within s i l = let n = (form s).count in omega (arith, safe.in_form.places s)

  logged-in : (s t : ℕ) → LoggedAt c s t → Memᴰ t (log_of c s)
  unfolding entries
  logged-in s t h = subst (λ x. Memᴰ x (log_of c s)) h.is (mem-take (c.servers s).log.list (c.servers s).log.count h.place h.counted (within s h.place h.counted))

  in-logged : (s t : ℕ) → Memᴰ t (log_of c s) → LoggedAt c s t
  unfolding entries
  in-logged s t m = let p = take-mem (c.servers s).log.list (c.servers s).log.count t m in record { place = p.0; counted = p.1; is = p.3 }

  logged-small : (s t : ℕ) → LoggedAt c s t → t < 64
  logged-small s t h = let l = ((form s).entries h.place h.counted).small in let e = h.is in omega arith

  logged-earlier : (s t u : ℕ) → LoggedBefore c s t u → Earlier t u (log_of c s)
  unfolding entries
  logged-earlier s t u h =
      subst (λ x. Earlier x u (log_of c s)) h.is_first
      (subst (λ x. Earlier (entry_at (c.servers s).log h.first) x (log_of c s)) h.is_second
      (take-earlier (c.servers s).log.list (c.servers s).log.count h.first h.second h.rises h.counted (within s h.second h.counted)))

  -- ---- the order of all numbers

  abbrev W : List ℕ
  W = completed c.order 64

  whole : length W ≡ 64
  whole = all_numbers W 64 safe.one_order.all safe.one_order.only safe.one_order.once

  same_place : (p q : ℕ) → p < 64 → q < 64 → get_or W p 64 ≡ get_or W q 64 → p ≡ q
  same_place p q h k = one_place W safe.one_order.once 64 p q (omega (arith, whole)) (omega (arith, whole))

  -- a pair that a server ran has its places there
  pair : (s k t a u b : ℕ) → OneKey w k t a u b → LoggedBefore c s t u → (p : ℕ) × (q : ℕ) × (p < q) × (q < 64) × (get_or W p 64 ≡ t) × (get_or W q 64 ≡ u)
  pair s k t a u b o h =
      let r = earlier-places W 64 t u (safe.one_order.runs s t u k (logged-earlier s t u h) (conflicts w k t a u b o)) in
      let l = r.3 in
      (r.0, r.1, r.2, omega (arith, whole), r.4, r.5)

  -- ---- the sentences

  pub same-words : SameWords c
  same-words s s' t l l' n h h' =
      let e = safe.agreement s s' t _ _ (committed c s t h) (committed c s' t h') in
      (ap (λ (v : Set). v.w0) e, ap (λ (v : Set). v.w1) e, ap (λ (v : Set). v.w2) e, ap (λ (v : Set). v.w3) e)

  pub one-has-the-other : OneHasTheOther w c
  one-has-the-other s s' k t a u b l l' q n n' ne o h h' = go (safe.coverage s s' t u k _ _ (committed c s t h) (committed c s' u h') ne (conflicts w k t a u b o))
    where
      go : In (word (set_at c s t) k) u ⊎ In (word (set_at c s' u) k) t → (digit (word_at (set_at c s t) k) u ≡ 1) ⊎ (digit (word_at (set_at c s' u) k) t ≡ 1)
      go (inl i) = inl (digit_of (set_at c s t) k u q i)
      go (inr i) = inr (digit_of (set_at c s' u) k t q i)

  pub never-turned : NeverTurned w c
  never-turned s s' k t a u b l l' q n n' o h h' =
      let x = pair s k t a u b o h in
      let y = pair s' k u b t a (turned o) h' in
      let rx = x.2 in
      let ry = y.2 in
      let bx = x.3 in
      let by = y.3 in
      let e = same_place x.0 y.1 (omega arith) by (x.4 ∙ sym y.5) in
      let e' = same_place x.1 y.0 bx (omega arith) (x.5 ∙ sym y.4) in
      omega arith

  pub one_list : OneList w c
  one_list = record {
    list = W;
    long = whole;
    all = λ t l. let p = mem-place W 64 t (safe.one_order.all t l) in let h = p.1 in (p.0, omega (arith, whole), p.2);
    once = λ p q h k e. let z = same_place p q (omega arith) k e in omega arith;
    pairs = λ s k t a u b l q n n' o h. pair s k t a u b o h;
    ran = λ s t l h. mem-place c.order 64 t (safe.one_order.ran s t (logged-in s t h));
    begins = λ p h. let g = completed-grows c.order 64 in ap (λ (z : List ℕ). get_or z p 64) g.1 ∙ get_or-append c.order g.0 64 p h;
  }

  ran-the-same : (k s s' : ℕ) → RanTheSame w c k s s' → SameRan w c k s s'
  ran-the-same k s s' h = record {
    here = λ t e m. let p = touched w t k e in let l = in-logged s t m in logged-in s' t (h.here t p.0 (logged-small s t l) p.1 l);
    there = λ t e m. let p = touched w t k e in let l = in-logged s' t m in logged-in s t (h.there t p.0 (logged-small s' t l) p.1 l);
  }

  pub same-shown : P.SameShown w c
  same-shown k s s' q l l' e e' h = record {
    keys = λ x i. ap (λ (z : Counters). (counter_at z x).value) both.counters;
    marks = λ x i. ap (λ (z : Counters). (counter_at z x).full) both.counters;
    counts = λ t n a b. ap (λ (v : Values). v.count) (results t a b);
    values = λ t n i a b j. ap (λ (v : Values). (get_or v.list n no_value).value) (results t a b);
    kept = λ t n i a b j. ap (λ (v : Values). (get_or v.list n no_value).kept) (results t a b);
  }
    where
      both : Rattle.safety.specs.Statements.SameShown w c k s s'
      both = safe.equal_counters k s s' (omega arith) (omega arith) (ran-the-same k s s' h)

      results : (t : ℕ) → LoggedAt c s t → LoggedAt c s' t → (record_at (c.servers s) t).values ≡ (record_at (c.servers s') t).values
      results t a b = both.results t (logged-in s t a) (logged-in s' t b)

  not-refused : (s : ℕ) (m : Message) → Reaches c m → NotRefused c s m
  not-refused s m h = (safe.never_other.pieces s m h, safe.never_other.sets s m h, safe.never13.takes s m)

  pub sent-is-taken : SentIsTaken c
  sent-is-taken = record {
    sent = λ s m l h. not-refused s m (Reaches.sent h);
    inquired = λ s t l. not-refused s (inquire t) (Reaches.inquires t refl);
    fetched = λ s t l. not-refused s (fetch t) (Reaches.fetches t refl);
  }

  pub no-bad-form : NoBadForm c
  no-bad-form = record {
    takes = λ s m l. safe.never13.takes s m;
    runs = λ s l. safe.never13.runs s;
    runs_out = λ s l. safe.never13.runs_out s;
    sends = safe.never13.sends;
    hears = safe.never13.hears;
    moves_on = safe.never13.moves_on;
    tries_again = safe.never13.tries_again;
  }

  pub server-kept : (s : ℕ) → s < 12 → ServerKept c s
  server-kept s l = record {
    records = safe.in_form.records s;
    words = λ t k n q h. subst (λ x. x < 2 ^ 64) (word_at_lem (set_at c s t) k q) (safe.in_form.words s t k (flagged h) q);
    places = safe.in_form.places s;
    count = (form s).count;
    below = λ i h. let e = ((form s).entries i h).small in omega arith;
    held = λ i h. not_zero ((form s).entries i h).committed;
    ran = λ i h. let e = ((form s).entries i h).small in not_zero (((form s).results (entry_at (c.servers s).log i) (omega arith)).ran ∙ some-logged (c.servers s).log (c.servers s).log.count _ i h refl e);
    once = λ i j h k e. true_and_false (some-logged (c.servers s).log j _ i h e ((form s).entries j k).small) ((form s).entries j k).new;
  }

  -- numbers that are held as committed at s and name none but each other
  module _ (s : ℕ) (C : ℕ → Type 0) (small : (t : ℕ) → C t → t < 64) (held : (t : ℕ) → C t → HeldAt c s t) (named : (t u k : ℕ) → C t → u < 64 → k < 4 → digit (word_at (set_at c s t) k) u ≡ 1 → C u) where
    names : (t u : ℕ) → C t → In (get_or (deps_of (c.servers s)) t 0) u → C u
    names t u q i =
        let h = flagged (held t q) in
        let m = in_members (set_at c s t) u (subst (λ x. In x u) (deps-committed (c.servers s) t (small t q) h) i) in
        named t u m.0 q (in_lt 64 (safe.in_form.words s t m.0 h m.1) m.2) m.1 (digit_of (set_at c s t) m.0 u m.1 m.2)

    before : (t u : ℕ) → C t → Before (deps_of (c.servers s)) u t → C u
    before t u q (direct i) = names t u q i
    before t u q (behind {v = v} i b) = before v u (names t v q i) b

    too : (t : ℕ) → C t → In (committed_word (c.servers s)) t
    too t q = committed_in_lem (c.servers s) t (small t q) (flagged (held t q))

    pub all-ran : (t : ℕ) → C t → LoggedAt c s t
    all-ran t q =
        let e = safe.nothing_left.closed s t (record { self = too t q; all = λ u b. too u (before t u q b) }) in
        let p = logged-some (c.servers s).log (c.servers s).log.count t (sym ((form s).results t (small t q)).ran ∙ e) in
        record { place = p.0; counted = p.1; is = p.2 }

  pub drive-kept : (j : ℕ) (d : Drive) → c.stations j ≡ some d → DriveKept d
  unfolding numbers_formed
  drive-kept j d at =
      let f = D.formed_parts d (safe.in_form.drives j d at) in
      let p = kept-is d.pieces f.pieces in
      let e = and_yes-l (not (bad_number d.t) && not (bad_coordinator d.coordinator)) (leb d.phase 3) f.numbers in
      record {
        number = leb-false 64 d.t (not_yes (bad_number d.t) (and_yes-l (not (bad_number d.t)) (not (bad_coordinator d.coordinator)) e));
        coordinator = leb-false 8 d.coordinator (not_yes (bad_coordinator d.coordinator) (and_yes_r (not (bad_number d.t)) (not (bad_coordinator d.coordinator)) e));
        phase = leb-true d.phase 3 (and_yes_r (not (bad_number d.t) && not (bad_coordinator d.coordinator)) (leb d.phase 3) f.numbers);
        least = p.some;
        most = p.few;
      }

-- ---- a later cluster

module _ (w : World) (c : Cluster) (r : Reached w c) where
  reached-later : {c' : Cluster} → Later w c c' → Reached w c'
  reached-later P.same = r
  reached-later (P.then l n) = then (reached-later l) n

  pub order-stays : {c' : Cluster} → Later w c c' → OrderStays c c'
  order-stays P.same = record { longer = omega arith; same = λ p h. refl }
  order-stays (P.then {c' = d} {c'' = d'} l n) = more (order-stays l) ((safety w).order_grows d d' (reached-later l) n)
    where
      more : OrderStays c d → (l : List ℕ) × (d'.order ≡ d.order ++ l) → OrderStays c d'
      more h g =
          let a = h.longer in
          record {
            longer = subst (λ (z : List ℕ). length c.order ≤ length z) (sym g.1) (omega (arith, length-append d.order g.0));
            same = λ p q. ap (λ (z : List ℕ). get_or z p 64) g.1 ∙ get_or-append d.order g.0 64 p (omega arith) ∙ h.same p q;
          }
