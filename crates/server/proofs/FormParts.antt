-- A server's form, part by part. Assumes nothing.
use mathlib.Core.Path.{◌≡◌, refl, sym, ◌∙◌, ap, subst}
use mathlib.Core.Logic.{◌⊎◌, inl, inr}
use mathlib.Core.Bool.{Bool, true, false, not, cond, ◌&&◌, ◌||◌, false≢true}
use Prim.Native.Nat.{ℕ, zero, suc, ◌≤◌, ◌<◌}
use native.Mathlib.Omega.{arith}
use native.Mathlib.Decide.{ℕ_discrete}
use borrow.Author.Tests.{eqb-true, eq-eqb, leb-true, le-leb}
use lib.Dec.{eqb, leb}
use Rattle.masks.specs.Bits.{has, insert, within}
use Rattle.masks.specs.Folds.{all_below, iter}
use Rattle.masks.proofs.Bools.{and_yes, and_yes-l, and_yes_r, or_yes, or_yes-l, or_yes_r, not_yes, true_and_false, then_yes, yes_then}
use Rattle.masks.proofs.Laws.{has-insert, has-none}
use Rattle.masks.proofs.FoldLaws.{all_at, all_of}
use Rattle.rules.specs.Flags.{there, implies}
use Rattle.rules.specs.Cluster.{bad_server}
use Rattle.rules.specs.Ballots.{bad_ballot}
use Rattle.rules.specs.Pieces.{any_pieces, pieces_kept, pieces_on, shards_of}
use Rattle.rules.specs.Sets.{bad_word, bad_set, members}
use Rattle.server.specs.declared.Record.{Record}
use Rattle.server.specs.declared.Log.{Log}
use Rattle.server.specs.declared.Server.{Server}
use Rattle.server.specs.Held.{record_at, shard, committed_at, entry_at}
use Rattle.server.specs.Form.{pieces_formed, ballots_formed, sets_formed, sets_have_pieces, record_formed, record_formed_at, noted, logged, entry_formed, log_formed, results_formed, results_formed_at, formed}

-- ---- one record

pub record RecordForm (k t : ℕ) (v : Record) : Type 0 where
  pub pieces : any_pieces v.pieces ≡ true → pieces_kept v.pieces ≡ true
  pub promise : bad_ballot v.promise ≡ false
  pub ballot : there v.accepted.some ≡ true → bad_ballot v.accepted.ballot ≡ false
  pub arrival_has : there v.arrival.some ≡ true → any_pieces v.pieces ≡ true
  pub accepted_has : there v.accepted.some ≡ true → any_pieces v.pieces ≡ true
  pub committed_has : there v.committed.some ≡ true → any_pieces v.pieces ≡ true
  pub arrival : there v.arrival.some ≡ true → bad_word t (shards_of v.pieces) k v.arrival.word ≡ false
  pub accepted : there v.accepted.some ≡ true → bad_set t (shards_of v.pieces) v.accepted.set ≡ false
  pub committed : there v.committed.some ≡ true → bad_set t (shards_of v.pieces) v.committed.set ≡ false

module _ (k t : ℕ) (v : Record) where
  abbrev A : Bool
  A = there v.arrival.some

  abbrev B : Bool
  B = there v.accepted.some

  abbrev C : Bool
  C = there v.committed.some

  abbrev P : Bool
  P = any_pieces v.pieces

  any_left : (a b c : Bool) → (a || b || c) ≡ true → (a ≡ true) ⊎ ((b ≡ true) ⊎ (c ≡ true))
  any_left true b c e = inl refl
  any_left false true c e = inr (inl refl)
  any_left false false c e = inr (inr e)

  any-of3 : (a b c : Bool) → (a ≡ true) ⊎ ((b ≡ true) ⊎ (c ≡ true)) → (a || b || c) ≡ true
  any-of3 true b c p = refl
  any-of3 false true c p = refl
  any-of3 false false c (inl e) = absurd (false≢true e)
  any-of3 false false c (inr (inl e)) = absurd (false≢true e)
  any-of3 false false c (inr (inr e)) = e

  pub record-parts : record_formed k t v ≡ true → RecordForm k t v
  unfolding record_formed pieces_formed ballots_formed sets_have_pieces sets_formed
  record-parts e =
      let W = not (bad_word t (shards_of v.pieces) k v.arrival.word) in
      let X = not (bad_set t (shards_of v.pieces) v.accepted.set) in
      let Y = not (bad_set t (shards_of v.pieces) v.committed.set) in
      let e3 = and_yes-l (pieces_formed v && ballots_formed v && sets_have_pieces v) (sets_formed k t v) e in
      let es = and_yes_r (pieces_formed v && ballots_formed v && sets_have_pieces v) (sets_formed k t v) e in
      let e2 = and_yes-l (pieces_formed v && ballots_formed v) (sets_have_pieces v) e3 in
      let eh = and_yes_r (pieces_formed v && ballots_formed v) (sets_have_pieces v) e3 in
      let ep = and_yes-l (pieces_formed v) (ballots_formed v) e2 in
      let eb = and_yes_r (pieces_formed v) (ballots_formed v) e2 in
      let ex = and_yes-l (implies A W && implies B X) (implies C Y) es in
      record {
        pieces = then_yes P (pieces_kept v.pieces) ep;
        promise = not_yes (bad_ballot v.promise) (and_yes-l (not (bad_ballot v.promise)) (implies B (not (bad_ballot v.accepted.ballot))) eb);
        ballot = λ h. not_yes (bad_ballot v.accepted.ballot) (then_yes B (not (bad_ballot v.accepted.ballot)) (and_yes_r (not (bad_ballot v.promise)) (implies B (not (bad_ballot v.accepted.ballot))) eb) h);
        arrival_has = λ h. then_yes (A || B || C) P eh (any-of3 A B C (inl h));
        accepted_has = λ h. then_yes (A || B || C) P eh (any-of3 A B C (inr (inl h)));
        committed_has = λ h. then_yes (A || B || C) P eh (any-of3 A B C (inr (inr h)));
        arrival = λ h. not_yes (bad_word t (shards_of v.pieces) k v.arrival.word) (then_yes A W (and_yes-l (implies A W) (implies B X) ex) h);
        accepted = λ h. not_yes (bad_set t (shards_of v.pieces) v.accepted.set) (then_yes B X (and_yes_r (implies A W) (implies B X) ex) h);
        committed = λ h. not_yes (bad_set t (shards_of v.pieces) v.committed.set) (then_yes C Y (and_yes_r (implies A W && implies B X) (implies C Y) es) h);
      }

  pub parts-record : RecordForm k t v → record_formed k t v ≡ true
  unfolding record_formed pieces_formed ballots_formed sets_have_pieces sets_formed
  parts-record f =
      and_yes _ _
      (and_yes _ _
      (and_yes _ _ (yes_then P (pieces_kept v.pieces) f.pieces)
      (and_yes _ _ (ap not f.promise) (yes_then B (not (bad_ballot v.accepted.ballot)) (λ h. ap not (f.ballot h)))))
      (yes_then (A || B || C) P (λ h. held (any_left A B C h))))
      (and_yes _ _
      (and_yes _ _ (yes_then A (not (bad_word t (shards_of v.pieces) k v.arrival.word)) (λ h. ap not (f.arrival h))) (yes_then B (not (bad_set t (shards_of v.pieces) v.accepted.set)) (λ h. ap not (f.accepted h))))
      (yes_then C (not (bad_set t (shards_of v.pieces) v.committed.set)) (λ h. ap not (f.committed h))))
    where
      held : (A ≡ true) ⊎ ((B ≡ true) ⊎ (C ≡ true)) → P ≡ true
      held (inl h) = f.arrival_has h
      held (inr (inl h)) = f.accepted_has h
      held (inr (inr h)) = f.committed_has h

-- ---- the log

-- the numbers of the first n entries
pub logged-some : (l : Log) (n t : ℕ) → has (logged l n) t ≡ true → (i : ℕ) × (i < n) × (entry_at l i ≡ t)
unfolding logged noted iter
logged-some l zero t e = absurd (true_and_false e (has-none t))
logged-some l (suc n) t e = go (leb (entry_at l n) 63) e (logged-some l n t)
  where
    old : ((i : ℕ) × (i < n) × (entry_at l i ≡ t)) → (i : ℕ) × (i < suc n) × (entry_at l i ≡ t)
    old (i, h, z) = (i, omega arith, z)

    pick : (has (logged l n) t ≡ true) ⊎ (eqb (entry_at l n) t ≡ true) → (has (logged l n) t ≡ true → (i : ℕ) × (i < n) × (entry_at l i ≡ t)) → (i : ℕ) × (i < suc n) × (entry_at l i ≡ t)
    pick (inl h) ih = old (ih h)
    pick (inr h) ih = (n, omega arith, eqb-true (entry_at l n) t h)

    go : (b : Bool) → has (cond b (insert (logged l n) (entry_at l n)) (logged l n)) t ≡ true → (has (logged l n) t ≡ true → (i : ℕ) × (i < n) × (entry_at l i ≡ t)) → (i : ℕ) × (i < suc n) × (entry_at l i ≡ t)
    go true h ih = pick (or_yes (has (logged l n) t) (eqb (entry_at l n) t) (sym (has-insert (logged l n) (entry_at l n) t) ∙ h)) ih
    go false h ih = old (ih h)

pub some-logged : (l : Log) (n t i : ℕ) → i < n → entry_at l i ≡ t → t ≤ 63 → has (logged l n) t ≡ true
unfolding logged noted iter
some-logged l zero t i h z s = absurd (omega arith)
some-logged l (suc n) t i h z s = go (ℕ_discrete i n) (some-logged l n t i)
  where
    put : (b : Bool) → leb (entry_at l n) 63 ≡ b → has (logged l n) t ≡ true → has (cond b (insert (logged l n) (entry_at l n)) (logged l n)) t ≡ true
    put true e q = has-insert (logged l n) (entry_at l n) t ∙ or_yes-l (has (logged l n) t) (eqb (entry_at l n) t) q
    put false e q = q

    go : Dec (i ≡ n) → (i < n → entry_at l i ≡ t → t ≤ 63 → has (logged l n) t ≡ true) → has (cond (leb (entry_at l n) 63) (insert (logged l n) (entry_at l n)) (logged l n)) t ≡ true
    go (yes e) ih =
        let q : entry_at l n ≡ t = subst (λ i. entry_at l i ≡ t) e z in
        subst (λ (b : Bool). has (cond b (insert (logged l n) (entry_at l n)) (logged l n)) t ≡ true) (sym (le-leb (entry_at l n) 63 (omega arith)))
        (has-insert (logged l n) (entry_at l n) t ∙ or_yes_r (has (logged l n) t) (eqb (entry_at l n) t) (eq-eqb (entry_at l n) t q))
    go (no e) ih = put (leb (entry_at l n) 63) refl (ih (omega arith) z s)

pub record EntryForm (s : Server) (i : ℕ) : Type 0 where
  pub small : entry_at s.log i ≤ 63
  pub new : has (logged s.log i) (entry_at s.log i) ≡ false
  pub committed : committed_at s (entry_at s.log i) ≡ true
  pub behind : within (members (record_at s (entry_at s.log i)).committed.set) (logged s.log s.log.count) ≡ true

-- there are results exactly if t is in the log, one for each piece
pub record ResultForm (k : ℕ) (in_log : Bool) (v : Record) : Type 0 where
  pub ran : there v.ran ≡ in_log
  pub count : there v.ran ≡ true → v.values.count ≡ pieces_on v.pieces k

pub result_parts : (k : ℕ) (in_log : Bool) (v : Record) → results_formed k in_log v ≡ true → ResultForm k in_log v
unfolding results_formed
result_parts k in_log v e = go (there v.ran) refl e
  where
    go : (b : Bool) → there v.ran ≡ b → cond b (in_log && eqb v.values.count (pieces_on v.pieces k)) (not in_log) ≡ true → ResultForm k in_log v
    go true z h = record { ran = z ∙ sym (and_yes-l in_log (eqb v.values.count (pieces_on v.pieces k)) h); count = λ q. eqb-true v.values.count (pieces_on v.pieces k) (and_yes_r in_log (eqb v.values.count (pieces_on v.pieces k)) h) }
    go false z h = record { ran = z ∙ sym (not_yes in_log h); count = λ q. absurd (true_and_false q z) }

pub parts_result : (k : ℕ) (in_log : Bool) (v : Record) → ResultForm k in_log v → results_formed k in_log v ≡ true
unfolding results_formed
parts_result k in_log v f = go (there v.ran) refl
  where
    go : (b : Bool) → there v.ran ≡ b → cond b (in_log && eqb v.values.count (pieces_on v.pieces k)) (not in_log) ≡ true
    go true z = and_yes in_log (eqb v.values.count (pieces_on v.pieces k)) (sym f.ran ∙ z) (eq-eqb v.values.count (pieces_on v.pieces k) (f.count z))
    go false z = ap not (sym f.ran ∙ z)

-- ---- the whole

pub record Formed (s : Server) : Type 0 where
  pub id : bad_server s.id ≡ false
  pub records : (t : ℕ) → t < 64 → RecordForm (shard s) t (record_at s t)
  pub count : s.log.count ≤ 64
  pub entries : (i : ℕ) → i < s.log.count → EntryForm s i
  pub results : (t : ℕ) → t < 64 → ResultForm (shard s) (has (logged s.log s.log.count) t) (record_at s t)

entry_parts : (s : Server) (i : ℕ) → entry_formed s i ≡ true → EntryForm s i
unfolding entry_formed
entry_parts s i e =
    let x = entry_at s.log i in
    let n = not (has (logged s.log i) x) in
    let w = within (members (record_at s x).committed.set) (logged s.log s.log.count) in
    let e2 = and_yes-l (leb x 63 && n && committed_at s x) w e in
    let e1 = and_yes-l (leb x 63 && n) (committed_at s x) e2 in
    record {
      small = leb-true x 63 (and_yes-l (leb x 63) n e1);
      new = not_yes (has (logged s.log i) x) (and_yes_r (leb x 63) n e1);
      committed = and_yes_r (leb x 63 && n) (committed_at s x) e2;
      behind = and_yes_r (leb x 63 && n && committed_at s x) w e;
    }

parts_entry : (s : Server) (i : ℕ) → EntryForm s i → entry_formed s i ≡ true
unfolding entry_formed
parts_entry s i f = and_yes _ _ (and_yes _ _ (and_yes _ _ (le-leb (entry_at s.log i) 63 f.small) (ap not f.new)) f.committed) f.behind

pub formed_parts : (s : Server) → formed s ≡ true → Formed s
unfolding formed log_formed record_formed_at results_formed_at
formed_parts s e =
    let r = all_below (record_formed_at s) 64 in
    let q = all_below (results_formed_at s) 64 in
    let e2 = and_yes-l (not (bad_server s.id) && r && log_formed s) q e in
    let e1 = and_yes-l (not (bad_server s.id) && r) (log_formed s) e2 in
    let el = and_yes_r (not (bad_server s.id) && r) (log_formed s) e2 in
    record {
      id = not_yes (bad_server s.id) (and_yes-l (not (bad_server s.id)) r e1);
      records = λ t l. record-parts (shard s) t (record_at s t) (all_at (record_formed_at s) 64 t (and_yes_r (not (bad_server s.id)) r e1) l);
      count = leb-true s.log.count 64 (and_yes-l (leb s.log.count 64) (all_below (entry_formed s) s.log.count) el);
      entries = λ i l. entry_parts s i (all_at (entry_formed s) s.log.count i (and_yes_r (leb s.log.count 64) (all_below (entry_formed s) s.log.count) el) l);
      results = λ t l. result_parts (shard s) _ (record_at s t) (all_at (results_formed_at s) 64 t (and_yes_r (not (bad_server s.id) && r && log_formed s) q e) l);
    }

pub parts_formed : (s : Server) → Formed s → formed s ≡ true
unfolding formed log_formed record_formed_at results_formed_at
parts_formed s f =
    and_yes _ _
    (and_yes _ _
    (and_yes _ _ (ap not f.id) (all_of (record_formed_at s) 64 (λ t l. parts-record (shard s) t (record_at s t) (f.records t l))))
    (and_yes _ _ (le-leb s.log.count 64 f.count) (all_of (entry_formed s) s.log.count (λ i l. parts_entry s i (f.entries i l)))))
    (all_of (results_formed_at s) 64 (λ t l. parts_result (shard s) _ (record_at s t) (f.results t l)))

-- a number in the log is committed
pub logged-committed : (s : Server) → Formed s → (t : ℕ) → has (logged s.log s.log.count) t ≡ true → committed_at s t ≡ true
logged-committed s f t e = let r = logged-some s.log s.log.count t e in subst (λ t. committed_at s t ≡ true) r.2 (f.entries r.0 r.1).committed
