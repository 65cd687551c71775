-- The state form of a server in document 01's words and numbers, both ways: `formed` says no more and no less. Assumes nothing.
use mathlib.Core.Path.{◌≡◌, refl, sym, ◌∙◌, subst}
use mathlib.Core.Logic.{◌↔◌, ◌≢◌}
use mathlib.Core.Bool.{Bool, true}
use Prim.Native.Nat.{ℕ, zero, suc, ◌/◌, ◌^◌, ◌≤◌, ◌<◌}
use native.Mathlib.Omega.{arith}
use lib.ListN.{get_or}
use Rattle.masks.specs.Bits.{has, In, within}
use Rattle.masks.proofs.Bools.{not_true_false, true_and_false, bool_ext}
use Rattle.masks.proofs.Laws.{has_in, in_has, within-sub, sub_within}
use Rattle.masks.proofs.FoldLaws.{get_d_tab}
use Rattle.rules.specs.Flags.{there}
use Rattle.rules.specs.Pieces.{pieces_on, shards_of}
use Rattle.rules.specs.Sets.{members}
use Rattle.rules.proofs.RuleOne.{server-good, ballot-good}
use Rattle.rules.proofs.RuleTwo.{LawfulPieces, piece-rules}
use Rattle.rules.proofs.RuleThree.{KeptSet, word_good, set-good}
use Rattle.graph.specs.Before.{Before, direct}
use Rattle.graph.proofs.Commits.{direct-behind}
use Rattle.wire.proofs.FaultsAre.{Ballot, There, there_is}
use Rattle.server.specs.declared.Record.{Record}
use Rattle.server.specs.declared.Server.{Server}
use Rattle.server.specs.Held.{record_at, committed_at, entry_at}
use Rattle.server.specs.Form.{logged, formed}
use Rattle.server.specs.Run.{deps_at, deps_of}
use Rattle.server.proofs.FormParts.{RecordForm, EntryForm, Formed, formed_parts, parts_formed, logged-some, some-logged}

-- what is held of the number t at a server of shard k: "held pieces keep rule 2 and held sets rule 3; held ballots valid; any held set has pieces"
pub record RecordInForm (k t : ℕ) (v : Record) : Type 0 where
  pub pieces : There v.pieces.count → LawfulPieces v.pieces
  pub promise : Ballot v.promise
  pub ballot : There v.accepted.some → Ballot v.accepted.ballot
  pub arrival_has : There v.arrival.some → There v.pieces.count
  pub accepted_has : There v.accepted.some → There v.pieces.count
  pub committed_has : There v.committed.some → There v.pieces.count
  pub arrival : There v.arrival.some → (In v.arrival.word t → ⊥) × ((In (shards_of v.pieces) k → ⊥) → v.arrival.word ≡ 0)
  pub accepted : There v.accepted.some → KeptSet t (shards_of v.pieces) v.accepted.set
  pub committed : There v.committed.some → KeptSet t (shards_of v.pieces) v.committed.set

module _ (k t : ℕ) (v : Record) where
  yes_of : (n : ℕ) → There n → there n ≡ true
  yes_of n h = (there_is n).1 h

  of-yes : (n : ℕ) → there n ≡ true → There n
  of-yes n e = (there_is n).0 e

  pub record-down : RecordForm k t v ↔ RecordInForm k t v
  record-down = (
    λ f.
        record {
          pieces = λ h. (piece-rules v.pieces).0 (f.pieces (yes_of _ h));
          promise = (ballot-good v.promise).0 f.promise;
          ballot = λ h. (ballot-good v.accepted.ballot).0 (f.ballot (yes_of _ h));
          arrival_has = λ h. of-yes _ (f.arrival_has (yes_of _ h));
          accepted_has = λ h. of-yes _ (f.accepted_has (yes_of _ h));
          committed_has = λ h. of-yes _ (f.committed_has (yes_of _ h));
          arrival = λ h. (word_good t (shards_of v.pieces) k v.arrival.word).0 (f.arrival (yes_of _ h));
          accepted = λ h. (set-good t (shards_of v.pieces) v.accepted.set).0 (f.accepted (yes_of _ h));
          committed = λ h. (set-good t (shards_of v.pieces) v.committed.set).0 (f.committed (yes_of _ h));
        },
    λ f.
        record {
          pieces = λ h. (piece-rules v.pieces).1 (f.pieces (of-yes _ h));
          promise = (ballot-good v.promise).1 f.promise;
          ballot = λ h. (ballot-good v.accepted.ballot).1 (f.ballot (of-yes _ h));
          arrival_has = λ h. yes_of _ (f.arrival_has (of-yes _ h));
          accepted_has = λ h. yes_of _ (f.accepted_has (of-yes _ h));
          committed_has = λ h. yes_of _ (f.committed_has (of-yes _ h));
          arrival = λ h. (word_good t (shards_of v.pieces) k v.arrival.word).1 (f.arrival (of-yes _ h));
          accepted = λ h. (set-good t (shards_of v.pieces) v.accepted.set).1 (f.accepted (of-yes _ h));
          committed = λ h. (set-good t (shards_of v.pieces) v.committed.set).1 (f.committed (of-yes _ h));
        },
  )

-- ---- the log

-- u is one of the log's numbers
pub record Logged (s : Server) (u : ℕ) : Type 0 where
  pub at : ℕ
  pub counted : at < s.log.count
  pub here : entry_at s.log at ≡ u

-- "server at most 11; .. log at most 64, no repeats, each number committed and everything before it in the log too; results for exactly the logged numbers, one per piece on this shard"
pub record InForm (s : Server) : Type 0 where
  pub id : s.id ≤ 11
  pub records : (t : ℕ) → t ≤ 63 → RecordInForm (s.id / 3) t (record_at s t)
  pub count : s.log.count ≤ 64
  pub numbers : (i : ℕ) → i < s.log.count → entry_at s.log i ≤ 63
  pub once : (i j : ℕ) → i < j → j < s.log.count → entry_at s.log i ≢ entry_at s.log j
  pub committed : (i : ℕ) → i < s.log.count → There (record_at s (entry_at s.log i)).committed.some
  pub behind : (u t : ℕ) → Logged s t → Before (deps_of s) u t → Logged s u
  pub results : (t : ℕ) → t ≤ 63 → There (record_at s t).ran ↔ Logged s t
  pub many : (t : ℕ) → t ≤ 63 → There (record_at s t).ran → (record_at s t).values.count ≡ pieces_on (record_at s t).pieces (s.id / 3)

-- every number has a width
below_pow : (n : ℕ) → n < 2 ^ n
below_pow zero = omega arith
below_pow (suc n) = omega (arith, below_pow n)

module _ (s : Server) where
  abbrev log_word : ℕ
  log_word = logged s.log s.log.count

  word-logged : (u : ℕ) → has log_word u ≡ true → Logged s u
  word-logged u e = let r = logged-some s.log s.log.count u e in record { at = r.0; counted = r.1; here = r.2 }

  logged-word : (u : ℕ) → u ≤ 63 → Logged s u → has log_word u ≡ true
  logged-word u l h = some-logged s.log s.log.count u h.at h.counted h.here l

  -- the numbers of a committed set
  deps_at_lem : (t : ℕ) → t ≤ 63 → committed_at s t ≡ true → get_or (deps_of s) t 0 ≡ members (record_at s t).committed.set
  unfolding deps_of deps_at
  deps_at_lem t l e = get_d_tab (deps_at s) 64 t 0 (omega arith) ∙ rw e

  down : Formed s → InForm s
  down f =
      record {
        id = (server-good s.id).0 f.id;
        records = λ t l. (record-down (s.id / 3) t (record_at s t)).0 (f.records t (omega arith));
        count = f.count;
        numbers = λ i l. (f.entries i l).small;
        once = once;
        committed = λ i l. (there_is _).0 (f.entries i l).committed;
        behind = λ u t h b. follows u t h b;
        results = λ t l. (λ h. word-logged t (sym (f.results t (omega arith)).ran ∙ (there_is _).1 h), λ h. (there_is _).0 ((f.results t (omega arith)).ran ∙ logged-word t l h));
        many = λ t l h. (f.results t (omega arith)).count ((there_is _).1 h);
      }
    where
      once : (i j : ℕ) → i < j → j < s.log.count → entry_at s.log i ≢ entry_at s.log j
      once i j l m e = true_and_false (some-logged s.log j (entry_at s.log j) i l e (f.entries j m).small) (f.entries j m).new

      -- the log has with each number all that its set names
      names : (t u : ℕ) → In log_word t → In (get_or (deps_of s) t 0) u → In log_word u
      names t u h i =
          let l = word-logged t (in_has h) in
          let e = f.entries l.at l.counted in
          let c = subst (λ (x : ℕ). committed_at s x ≡ true) l.here e.committed in
          let w = subst (λ (x : ℕ). within (members (record_at s x).committed.set) log_word ≡ true) l.here e.behind in
          within-sub (members (record_at s t).committed.set) log_word w u (rw (deps_at_lem t (omega (arith, e.small, l.here)) c) at i)

      follows : (u t : ℕ) → Logged s t → Before (deps_of s) u t → Logged s u
      follows u t h b =
          word-logged u (in_has (direct-behind (deps_of s) log_word names b (has_in (logged-word t (omega (arith, h.here, (f.entries h.at h.counted).small)) h))))

  up : InForm s → Formed s
  up f =
      record {
        id = (server-good s.id).1 f.id;
        records = λ t l. (record-down (s.id / 3) t (record_at s t)).1 (f.records t (omega arith));
        count = f.count;
        entries = entry;
        results = λ t l.
            record {
              ran = same (record_at s t).ran (has log_word t) (λ h. logged-word t (omega arith) ((f.results t (omega arith)).0 h)) (λ e. (f.results t (omega arith)).1 (word-logged t e));
              count = λ h. f.many t (omega arith) ((there_is _).0 h);
            };
      }
    where
      same : (n : ℕ) (b : Bool) → (There n → b ≡ true) → (b ≡ true → There n) → there n ≡ b
      same n b p q = bool_ext (there n) b (λ e. p ((there_is n).0 e)) (λ e. (there_is n).1 (q e))

      entry : (i : ℕ) → i < s.log.count → EntryForm s i
      entry i l =
          let x = entry_at s.log i in
          let c = (there_is (record_at s x).committed.some).1 (f.committed i l) in
          record {
            small = f.numbers i l;
            new = not_true_false (has (logged s.log i) x) (λ e. let r = logged-some s.log i x e in f.once r.0 i r.1 l r.2);
            committed = c;
            behind =
                sub_within (members (record_at s x).committed.set) (members (record_at s x).committed.set) log_word (below_pow (members (record_at s x).committed.set))
                (λ u h. let b = f.behind u x (record { at = i; counted = l; here = refl }) (direct (rw (deps_at_lem x (f.numbers i l) c) h)) in has_in (logged-word u (omega (arith, b.here, f.numbers b.at b.counted)) b));
          }

  pub form-is : (formed s ≡ true) ↔ InForm s
  form-is = (λ e. down (formed_parts s e), λ f. parts_formed s (up f))
