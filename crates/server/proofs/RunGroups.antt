-- What it does to a server to run the numbers of a word: of each record only the run mark and the results change, those numbers have run, and the log has as many more.
-- Assumes nothing.
use Prim.Native.Nat.{ℕ, zero, suc, ◌+◌, ◌^◌, ◌≤◌, ◌<◌}
use mathlib.Core.Path.{◌≡◌, refl, sym, ap, subst, ◌∙◌}
use mathlib.Core.Bool.{Bool, true, false, cond, ◌||◌, or-false, or_assoc}
use mathlib.Core.List.{List}
use native.Mathlib.Decide.{ℕ_discrete}
use native.Mathlib.Omega.{arith}
use borrow.Author.Tests.{eq-eqb, ne_eqb}
use native.Mathlib.Nat.{lt_of_lt_of_le}
use lib.Dec.{eqb, lit≤}
use lib.Pow.{pow_mono}
use lib.Bits.{or_zero_r}
use lib.ListN.{length, get_or, set, length-set, get_or-map}
use lib.Seq.{map-set_same, get_or-set_same, get_or-set_other}
use Rattle.masks.specs.Bits.{has, insert, union}
use Rattle.masks.specs.Folds.{mask_of, count_below, over, size}
use Rattle.masks.proofs.Bools.{or_yes_r}
use Rattle.masks.proofs.Laws.{has-insert, has-union, insert_lt, union_lt, same_word}
use Rattle.masks.proofs.FoldLaws.{has_mask_below, mask_bound, mask_cong, mask_has, tab_cong, over_keeps}
use Rattle.rules.specs.Flags.{there}
use Rattle.rules.specs.Sets.{members}
use Rattle.rules.specs.declared.MaybeSet.{MaybeSet}
use Rattle.rules.specs.declared.Values.{Values}
use Rattle.counters.specs.Effects.{execute}
use Rattle.server.specs.declared.Record.{Record}
use Rattle.server.specs.declared.Server.{Server}
use Rattle.server.specs.Held.{no_record, record_at, shard, committed_at, ran_at, committed_word, ran_word}
use Rattle.server.specs.Run.{deps_at, deps_of, with_results, run_one, run_group}

pub committed_lt : (s : Server) → committed_word s < 2 ^ 64
unfolding committed_word
committed_lt s = mask_bound (committed_at s) 64

pub ran_lt : (s : Server) → ran_word s < 2 ^ 64
unfolding ran_word
ran_lt s = mask_bound (ran_at s) 64

-- ---- one number

-- a part of the records that a change of one of them leaves
part_kept : {A : Type 0} (part : Record → A) (rs : List Record) (t u : ℕ) (v : Record) → part v ≡ part (get_or rs t no_record) → part (get_or (set rs t v) u no_record) ≡ part (get_or rs u no_record)
part_kept {A} part rs t u v e =
    sym (get_or-map part (set rs t v) u no_record)
    ∙ ap (λ (l : List A). get_or l u (part no_record)) (map-set_same part rs t v no_record e)
    ∙ get_or-map part rs u no_record

-- the record of t with the run mark
ran-set : (rs : List Record) (t u : ℕ) (v : Record) → v.ran ≡ 1 → t < length rs → there (get_or (set rs t v) u no_record).ran ≡ (there (get_or rs u no_record).ran || eqb t u)
ran-set rs t u v one h = go (ℕ_discrete t u)
  where
    ran : Record → Bool
    ran x = there x.ran

    go : Dec (t ≡ u) → there (get_or (set rs t v) u no_record).ran ≡ (there (get_or rs u no_record).ran || eqb t u)
    go (yes e) =
        subst (λ (u : ℕ). there (get_or (set rs t v) u no_record).ran ≡ (there (get_or rs u no_record).ran || eqb t u)) e
        (ap ran (get_or-set_same rs t v no_record h) ∙ ap there one ∙ sym (or_yes_r (ran (get_or rs t no_record)) (eqb t t) (eq-eqb t t refl)))
    go (no n) =
        ap ran (get_or-set_other rs t u v no_record (λ e. n (sym e)))
        ∙ sym (ap (λ (b : Bool). ran (get_or rs u no_record) || b) (ne_eqb t u n) ∙ or-false (ran (get_or rs u no_record)))

module _ (s : Server) (t : ℕ) where
  pub one-id : (run_one s t).id ≡ s.id
  unfolding run_one
  one-id = refl

  pub one-long : length (run_one s t).records ≡ length s.records
  unfolding run_one
  one-long = length-set s.records t (with_results (execute (record_at s t).pieces (shard s) s.counters).values (record_at s t))

  pub one-count : (run_one s t).log.count ≡ s.log.count + 1
  unfolding run_one
  one-count = refl

  -- whatever results don't reach
  pub one-part : {A : Type 0} (part : Record → A) → ((r : Values) (v : Record) → part (with_results r v) ≡ part v) → (u : ℕ) → part (record_at (run_one s t) u) ≡ part (record_at s u)
  unfolding run_one
  one-part part kept u =
      let r = (execute (record_at s t).pieces (shard s) s.counters).values in
      part_kept part s.records t u (with_results r (record_at s t)) (kept r (record_at s t))

  pub one-ran : t < length s.records → (u : ℕ) → ran_at (run_one s t) u ≡ (ran_at s u || eqb t u)
  unfolding run_one
  one-ran h u = ran-set s.records t u (with_results (execute (record_at s t).pieces (shard s) s.counters).values (record_at s t)) refl h

  pub one-ran-word : length s.records ≡ 64 → t < 64 → ran_word (run_one s t) ≡ insert (ran_word s) t
  unfolding ran_word
  one-ran-word l h =
      same_word 64 (mask_of (ran_at (run_one s t)) 64) (insert (mask_of (ran_at s) 64) t) (mask_bound (ran_at (run_one s t)) 64) (insert_lt 64 (mask_of (ran_at s) 64) t (mask_bound (ran_at s) 64) h)
      (λ u b. has_mask_below (ran_at (run_one s t)) 64 u b
      ∙ one-ran (omega arith) u
      ∙ ap (λ (x : Bool). x || eqb t u) (sym (has_mask_below (ran_at s) 64 u b))
      ∙ sym (has-insert (mask_of (ran_at s) 64) t u))

-- ---- the numbers of g below n

-- an insert for each number of g is a union
insert-union : (a b t : ℕ) → a < 2 ^ 64 → b < 2 ^ 64 → t < 64 → insert (union a b) t ≡ union a (insert b t)
insert-union a b t ha hb h =
    same_word 64 (insert (union a b) t) (union a (insert b t)) (insert_lt 64 (union a b) t (union_lt 64 a b ha hb) h) (union_lt 64 a (insert b t) ha (insert_lt 64 b t hb h))
    (λ u l. has-insert (union a b) t u
    ∙ ap (λ (x : Bool). x || eqb t u) (has-union a b u)
    ∙ or_assoc (has a u) (has b u) (eqb t u)
    ∙ ap (λ (x : Bool). has a u || x) (sym (has-insert b t u))
    ∙ sym (has-union a (insert b t) u))

below_64 : (f : ℕ → Bool) (n : ℕ) → n ≤ 64 → mask_of f n < 2 ^ 64
below_64 f n h = lt_of_lt_of_le (mask_bound f n) (pow_mono h)

insert-turn : (b : Bool) (x w m n : ℕ) → w < 2 ^ 64 → m < 2 ^ 64 → n < 64 → x ≡ union w m → cond b (insert x n) x ≡ union w (cond b (insert m n) m)
insert-turn true x w m n hw hm h e = ap (λ (y : ℕ). insert y n) e ∙ insert-union w m n hw hm h
insert-turn false x w m n hw hm h e = e

over-insert : (w g n : ℕ) → w < 2 ^ 64 → n ≤ 64 → over insert w g n ≡ union w (mask_of (has g) n)
unfolding over mask_of
over-insert w g zero hw h = sym (unfold union in (or_zero_r w))
over-insert w g (suc n) hw h =
    insert-turn (has g n) (over insert w g n) w (mask_of (has g) n) n hw (below_64 (has g) n (omega arith)) (omega arith) (over-insert w g n hw (omega arith))

module _ (s : Server) (g : ℕ) where
  pub over-long : (n : ℕ) → length (over run_one s g n).records ≡ length s.records
  over-long n = over_keeps (λ x. length x.records ≡ length s.records) run_one s g n refl (λ x i l e p. one-long x i ∙ p)

  pub over-record : {A : Type 0} (part : Record → A) → ((r : Values) (v : Record) → part (with_results r v) ≡ part v) → (n u : ℕ) → part (record_at (over run_one s g n) u) ≡ part (record_at s u)
  over-record part kept n u =
      over_keeps (λ x. part (record_at x u) ≡ part (record_at s u)) run_one s g n refl (λ x i l e p. one-part x i part kept u ∙ p)

  count_turn : (b : Bool) (x : Server) (n k : ℕ) → x.log.count ≡ s.log.count + k → (cond b (run_one x n) x).log.count ≡ s.log.count + cond b (k + 1) k
  count_turn true x n k e = omega (arith, one-count x n)
  count_turn false x n k e = e

  pub over-count : (n : ℕ) → (over run_one s g n).log.count ≡ s.log.count + count_below (has g) n
  unfolding over count_below
  over-count zero = omega arith
  over-count (suc n) = count_turn (has g n) (over run_one s g n) n (count_below (has g) n) (over-count n)

  word-turn : (b : Bool) (x : Server) (n w : ℕ) → length x.records ≡ 64 → n < 64 → ran_word x ≡ w → ran_word (cond b (run_one x n) x) ≡ cond b (insert w n) w
  word-turn true x n w l h e = one-ran-word x n l h ∙ ap (λ (y : ℕ). insert y n) e
  word-turn false x n w l h e = e

  over-inserts : length s.records ≡ 64 → (n : ℕ) → n ≤ 64 → ran_word (over run_one s g n) ≡ over insert (ran_word s) g n
  unfolding over
  over-inserts l zero h = refl
  over-inserts l (suc n) h =
      word-turn (has g n) (over run_one s g n) n (over insert (ran_word s) g n) (over-long n ∙ l) (omega arith) (over-inserts l n (omega arith))

-- ---- all numbers of g

module _ (s : Server) (g : ℕ) where
  pub group-long : length (run_group s g).records ≡ length s.records
  unfolding run_group
  group-long = over-long s g 64

  -- whatever results don't reach is as it was: pieces, promise, arrival, accepted, committed
  pub group-record : {A : Type 0} (part : Record → A) → ((r : Values) (v : Record) → part (with_results r v) ≡ part v) → (u : ℕ) → part (record_at (run_group s g) u) ≡ part (record_at s u)
  unfolding run_group
  group-record part kept u = over-record s g part kept 64 u

  pub group-committed : (u : ℕ) → (record_at (run_group s g) u).committed ≡ (record_at s u).committed
  group-committed = group-record (λ v. v.committed) (λ r v. refl)

  pub group-committed-word : committed_word (run_group s g) ≡ committed_word s
  unfolding committed_word
  group-committed-word =
      mask_cong (committed_at (run_group s g)) (committed_at s) 64 (λ u l. ap (λ (m : MaybeSet). there m.some) (group-committed u))

  pub group-deps : deps_of (run_group s g) ≡ deps_of s
  unfolding deps_of deps_at
  group-deps =
      tab_cong (deps_at (run_group s g)) (deps_at s) 64 (λ u l. ap (λ (m : MaybeSet). cond (there m.some) (members m.set) 0) (group-committed u))

  -- how many more are in the log
  pub group-count : (run_group s g).log.count ≡ s.log.count + size g
  unfolding run_group size
  group-count = over-count s g 64

  -- what has run
  pub group-ran : length s.records ≡ 64 → g < 2 ^ 64 → ran_word (run_group s g) ≡ union (ran_word s) g
  unfolding run_group
  group-ran l h =
      over-inserts s g l 64 (lit≤ tt)
      ∙ over-insert (ran_word s) g 64 (ran_lt s) (lit≤ tt)
      ∙ ap (union (ran_word s)) (mask_has g 64 h)
