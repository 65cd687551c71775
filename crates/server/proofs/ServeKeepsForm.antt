-- A message keeps the form, before anything runs. Assumes nothing.
use mathlib.Core.Path.{◌≡◌, refl, sym, ◌∙◌, ap, subst}
use mathlib.Core.Logic.{◌⊎◌, inl, inr}
use mathlib.Core.Bool.{Bool, true, false, not, cond, ◌&&◌, ◌||◌}
use Prim.Native.Nat.{ℕ, ◌<◌}
use native.Mathlib.Omega.{arith}
use borrow.Author.Tests.{eqb-true, ne_eqb, leb-true}
use lib.Dec.{eqb, leb}
use lib.ListN.{length}
use Rattle.masks.specs.Bits.{has, within}
use Rattle.masks.specs.Folds.{all_below}
use Rattle.masks.proofs.Bools.{and_yes-l, and_no_l, or_no_l, or_no_r, or_yes, not_no, true_and_false, one_no}
use Rattle.masks.proofs.FoldLaws.{has_mask_below}
use Rattle.rules.specs.declared.Pieces.{Pieces}
use Rattle.rules.specs.Flags.{there}
use Rattle.rules.specs.Cluster.{bad_server, bad_number}
use Rattle.rules.specs.Ballots.{bad_ballot}
use Rattle.rules.specs.Pieces.{any_pieces, pieces_kept, same_pieces, shards_of, entry_kept}
use Rattle.rules.specs.Sets.{bad_word, bad_set, members}
use Rattle.rules.proofs.SamePieces.{same-shards}
use Rattle.rules.proofs.SetLaws.{kept_word}
use Rattle.wire.specs.declared.Message.{Message}
use Rattle.wire.specs.Codes.{shape_of, asks, PreAccept, Accept, Prepare, Commit, Done, commits}
use Rattle.wire.specs.Faults.{bad_numbers, bad_pieces, bad_sets}
use Rattle.server.specs.declared.Record.{Record}
use Rattle.server.specs.declared.Server.{Server}
use Rattle.server.specs.declared.Changed.{Changed}
use Rattle.server.specs.Held.{no_record, record_at, put_record, shard, committed_at, arrived_at, entry_at}
use Rattle.server.specs.Form.{logged}
use Rattle.server.specs.Refusals.{untouched, other_pieces, refusal}
use Rattle.server.specs.Changes.{change}
use Rattle.server.specs.Serve.{came_earlier, arrival_set, fixes, arrival_for, taken}
use Rattle.server.proofs.Passed.{Passed, passed, number_below}
use Rattle.server.proofs.Did.{Did, tells, is_done, pre_accepts_first, pre_accepts_again, accepts, prepares, commits_first, Open, change-did}
use Rattle.server.proofs.RunLeaves.{set-either}
use Rattle.server.proofs.FormParts.{RecordForm, EntryForm, ResultForm, Formed, formed_parts, logged-committed}

-- ---- what the refusals leave of a message

ballot-number : (m : Message) → bad_numbers m ≡ false → (shape_of m.code).ballot ≡ true → bad_ballot m.ballot ≡ false
unfolding bad_numbers
ballot-number m e h =
    one_no (shape_of m.code).ballot (bad_ballot m.ballot)
    (or_no_r (bad_number m.t || ((shape_of m.code).server && bad_server m.server)) ((shape_of m.code).ballot && bad_ballot m.ballot)
    (or_no_l _ ((shape_of m.code).promise && bad_ballot m.promise)
    (or_no_l _ ((shape_of m.code).prepared && there m.accepted.some && bad_ballot m.accepted.ballot)
    (or_no_l _ (eqb m.code Prepare && eqb m.ballot 0) e)))) h

message-pieces : (m : Message) → bad_pieces m ≡ false → (shape_of m.code).pieces ≡ true → pieces_kept m.pieces ≡ true
unfolding bad_pieces
message-pieces m e h = not_no (pieces_kept m.pieces) (one_no (shape_of m.code).pieces (not (pieces_kept m.pieces)) e h)

message-set : (n : ℕ) (m : Message) → bad_sets n m ≡ false → (shape_of m.code).set ≡ true → bad_set m.t n m.set ≡ false
unfolding bad_sets
message-set n m e h =
    one_no (shape_of m.code).set (bad_set m.t n m.set)
    (or_no_l _ ((shape_of m.code).word && has m.word m.t)
    (or_no_l _ ((shape_of m.code).prepared && there m.arrival.some && has m.arrival.word m.t)
    (or_no_l _ ((shape_of m.code).prepared && there m.accepted.some && bad_set m.t n m.accepted.set) e))) h

pub kept_any : (ps : Pieces) → pieces_kept ps ≡ true → any_pieces ps ≡ true
unfolding pieces_kept
kept_any ps e = ap not (ne_eqb ps.count 0 (λ z. let l = leb-true 1 ps.count (and_yes-l (leb 1 ps.count) (leb ps.count 8) (and_yes-l (leb 1 ps.count && leb ps.count 8) (all_below (entry_kept ps) ps.count) e)) in omega arith))

same_held : (v : Record) (m : Message) → other_pieces v m ≡ false → (shape_of m.code).pieces ≡ true → any_pieces v.pieces ≡ true → shards_of v.pieces ≡ shards_of m.pieces
unfolding other_pieces
same_held v m e h a = same-shards v.pieces m.pieces (not_no (same_pieces v.pieces m.pieces) (one_no (any_pieces v.pieces) (not (same_pieces v.pieces m.pieces)) (one_no (shape_of m.code).pieces (any_pieces v.pieces && not (same_pieces v.pieces m.pieces)) (assoc (shape_of m.code).pieces (any_pieces v.pieces) (not (same_pieces v.pieces m.pieces)) e) h) a))
  where
    assoc : (a b c : Bool) → (a && b && c) ≡ false → (a && (b && c)) ≡ false
    assoc true b c e = e
    assoc false b c e = refl

-- ---- the record after it

module _ (s : Server) (m : Message) (p : Passed s m) (f : RecordForm (shard s) m.t (record_at s m.t)) where
  abbrev R : Record
  R = record_at s m.t

  abbrev K : ℕ
  K = shard s

  abbrev T : ℕ
  T = m.t

  -- what was held stays in form with the message's pieces
  module _ (h : (shape_of m.code).pieces ≡ true) where
    kept : pieces_kept m.pieces ≡ true
    kept = message-pieces m p.pieces h

    old-arrival : there R.arrival.some ≡ true → bad_word T (shards_of m.pieces) K R.arrival.word ≡ false
    old-arrival e = subst (λ n. bad_word T n K R.arrival.word ≡ false) (same_held R m p.same h (f.arrival_has e)) (f.arrival e)

    old-accepted : there R.accepted.some ≡ true → bad_set T (shards_of m.pieces) R.accepted.set ≡ false
    old-accepted e = subst (λ n. bad_set T n R.accepted.set ≡ false) (same_held R m p.same h (f.accepted_has e)) (f.accepted e)

  -- the new arrival word hasn't its own number, and its shard is touched
  new-arrival : m.code ≡ PreAccept → there R.arrival.some ≡ false → T < 64 → bad_word T (shards_of m.pieces) K (arrival_for s m) ≡ false
  unfolding arrival_for arrival_set came_earlier untouched
  new-arrival e n l =
      kept_word T (shards_of m.pieces) K (arrival_for s m) (record {
        own = subst (λ (b : Bool). has (cond b (arrival_set s m.pieces) 0) T ≡ false) (sym fixed) (has_mask_below (came_earlier s m.pieces) 64 T l ∙ and_no_l (arrived_at s T) _ n);
        untouched = λ z. absurd (true_and_false (not_no (has (shards_of m.pieces) K) (one_no (asks m.code) (not (has (shards_of m.pieces) K)) p.shard (subst (λ k. asks k ≡ true) (sym e) refl))) z);
      })
    where
      fixed : fixes R m ≡ true
      fixed = subst (λ k. (eqb k PreAccept && not (there R.arrival.some)) ≡ true) (sym e) (ap not n)

  no-commit : {A : Type 0} → Open R m → there R.committed.some ≡ true → A
  no-commit op e = absurd (true_and_false e op.uncommitted)

  -- the shape of a code
  of : (k : ℕ) (g : ℕ → Bool) → m.code ≡ k → g k ≡ true → g m.code ≡ true
  of k g e h = subst (λ k. g k ≡ true) (sym e) h

  abbrev has_pieces : ℕ → Bool
  has_pieces k = (shape_of k).pieces

  abbrev has_ballot : ℕ → Bool
  has_ballot k = (shape_of k).ballot

  abbrev has_set : ℕ → Bool
  has_set k = (shape_of k).set

  commit-shape : (g : ℕ → Bool) → g Commit ≡ true → g Done ≡ true → commits m.code ≡ true → g m.code ≡ true
  commit-shape g a b e = go (or_yes (eqb m.code Commit) (eqb m.code Done) e)
    where
      go : (eqb m.code Commit ≡ true) ⊎ (eqb m.code Done ≡ true) → g m.code ≡ true
      go (inl z) = of Commit g (eqb-true m.code Commit z) a
      go (inr z) = of Done g (eqb-true m.code Done z) b

  pub did-record : {o : Changed} → T < 64 → Did s.id (arrival_for s m) R m o → RecordForm K T o.after
  unfolding shape_of
  did-record l (tells r q) = f
  did-record l (is_done e) = f
  did-record l (pre_accepts_first k op n) =
      let h : has_pieces m.code ≡ true = of PreAccept has_pieces k refl in
      let a = kept_any m.pieces (kept h) in
      record {
        pieces = λ z. kept h;
        promise = ballot-number m p.numbers (of PreAccept has_ballot k refl);
        ballot = f.ballot;
        arrival_has = λ z. a;
        accepted_has = λ z. a;
        committed_has = λ z. a;
        arrival = λ z. new-arrival k n l;
        accepted = old-accepted h;
        committed = λ z. no-commit op z;
      }
  did-record l (pre_accepts_again k op n) =
      let h : has_pieces m.code ≡ true = of PreAccept has_pieces k refl in
      let a = kept_any m.pieces (kept h) in
      record {
        pieces = λ z. kept h;
        promise = ballot-number m p.numbers (of PreAccept has_ballot k refl);
        ballot = f.ballot;
        arrival_has = λ z. a;
        accepted_has = λ z. a;
        committed_has = λ z. a;
        arrival = old-arrival h;
        accepted = old-accepted h;
        committed = λ z. no-commit op z;
      }
  did-record l (accepts k op) =
      let h : has_pieces m.code ≡ true = of Accept has_pieces k refl in
      let a = kept_any m.pieces (kept h) in
      let b = ballot-number m p.numbers (of Accept has_ballot k refl) in
      record {
        pieces = λ z. kept h;
        promise = b;
        ballot = λ z. b;
        arrival_has = λ z. a;
        accepted_has = λ z. a;
        committed_has = λ z. a;
        arrival = old-arrival h;
        accepted = λ z. message-set (shards_of m.pieces) m p.sets (of Accept has_set k refl);
        committed = λ z. no-commit op z;
      }
  did-record l (prepares k op) =
      let h : has_pieces m.code ≡ true = of Prepare has_pieces k refl in
      let a = kept_any m.pieces (kept h) in
      record {
        pieces = λ z. kept h;
        promise = ballot-number m p.numbers (of Prepare has_ballot k refl);
        ballot = f.ballot;
        arrival_has = λ z. a;
        accepted_has = λ z. a;
        committed_has = λ z. a;
        arrival = old-arrival h;
        accepted = old-accepted h;
        committed = λ z. no-commit op z;
      }
  did-record l (commits_first j k n) =
      let h : has_pieces m.code ≡ true = commit-shape has_pieces refl refl k in
      let a = kept_any m.pieces (kept h) in
      record {
        pieces = λ z. kept h;
        promise = f.promise;
        ballot = f.ballot;
        arrival_has = λ z. a;
        accepted_has = λ z. a;
        committed_has = λ z. a;
        arrival = old-arrival h;
        accepted = old-accepted h;
        committed = λ z. message-set (shards_of m.pieces) m p.sets (commit-shape has_set refl refl k);
      }

-- a committed number's record stays, and nothing runs by a message
pub did_committed : {id w : ℕ} {v : Record} {m : Message} {o : Changed} → Did id w v m o → there v.committed.some ≡ true → o.after ≡ v
did_committed (tells r q) e = refl
did_committed (is_done h) e = refl
did_committed (pre_accepts_first k op n) e = absurd (true_and_false e op.uncommitted)
did_committed (pre_accepts_again k op n) e = absurd (true_and_false e op.uncommitted)
did_committed (accepts k op) e = absurd (true_and_false e op.uncommitted)
did_committed (prepares k op) e = absurd (true_and_false e op.uncommitted)
did_committed (commits_first j k n) e = absurd (true_and_false e n)

pub did_ran : {id w : ℕ} {v : Record} {m : Message} {o : Changed} → Did id w v m o → o.after.ran ≡ v.ran
did_ran (tells r q) = refl
did_ran (is_done h) = refl
did_ran (pre_accepts_first k op n) = refl
did_ran (pre_accepts_again k op n) = refl
did_ran (accepts k op) = refl
did_ran (prepares k op) = refl
did_ran (commits_first j k n) = refl

-- ---- the server after it

module _ (s : Server) (m : Message) (o : Changed) (p : Passed s m) (did : Did s.id (arrival_for s m) (record_at s m.t) m o) (size : length s.records ≡ 64) where
  form : Formed s
  form = formed_parts s p.form

  small : m.t < 64
  small = number_below m p.numbers

  abbrev Z : Server
  Z = put_record s m.t o.after

  at : (P : ℕ → Record → Type 0) → P m.t o.after → (u : ℕ) → P u (record_at s u) → P u (record_at Z u)
  at P h u q = set-either (P u) s.records m.t u o.after no_record q (λ e. subst (λ u. P u o.after) (sym e) h)

  pub after-form : Formed Z
  after-form = record {
    id = form.id;
    records = λ t l. at (λ t v. RecordForm (shard s) t v) (did-record s m p (form.records m.t small) small did) t (form.records t l);
    count = form.count;
    entries = λ i l. entry i (form.entries i l);
    results = λ t l. at (λ t v. ResultForm (shard s) (has (logged s.log s.log.count) t) v) result t (form.results t l);
  }
    where
      -- a committed record is the same one
      same : (u : ℕ) → committed_at s u ≡ true → record_at Z u ≡ record_at s u
      same u e = set-either (λ v. v ≡ record_at s u) s.records m.t u o.after no_record refl
          (λ z. did_committed did (subst (λ u. committed_at s u ≡ true) z e) ∙ ap (record_at s) (sym z))

      entry : (i : ℕ) → EntryForm s i → EntryForm Z i
      entry i e = record {
        small = e.small;
        new = e.new;
        committed = subst (λ (v : Record). there v.committed.some ≡ true) (sym (same (entry_at s.log i) e.committed)) e.committed;
        behind = subst (λ (v : Record). within (members v.committed.set) (logged s.log s.log.count) ≡ true) (sym (same (entry_at s.log i) e.committed)) e.behind;
      }

      result : ResultForm (shard s) (has (logged s.log s.log.count) m.t) o.after
      result = go (there (record_at s m.t).ran) refl
        where
          old : ResultForm (shard s) (has (logged s.log s.log.count) m.t) (record_at s m.t)
          old = form.results m.t small

          go : (b : Bool) → there (record_at s m.t).ran ≡ b → ResultForm (shard s) (has (logged s.log s.log.count) m.t) o.after
          go true e = subst (ResultForm (shard s) (has (logged s.log s.log.count) m.t)) (sym (did_committed did (logged-committed s form m.t (sym old.ran ∙ e)))) old
          go false e = record { ran = ap there (did_ran did) ∙ old.ran; count = λ z. absurd (true_and_false z (ap there (did_ran did) ∙ e)) }

-- a message that is not refused keeps the form, whatever it is, before anything runs
pub taken_form : (s : Server) (m : Message) → length s.records ≡ 64 → refusal s m ≡ 0 → Formed (taken s m).server
unfolding taken
taken_form s m size e = after-form s m (change s.id (arrival_for s m) (record_at s m.t) m) (passed s m e) (change-did s.id (arrival_for s m) (record_at s m.t) m) size
