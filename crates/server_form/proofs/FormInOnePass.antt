-- The form read in one pass is the form. The log's word holds the numbers among its entries, so what the form asks of each entry is asked of
-- each number in that word, with the record of that number. Assumes nothing.
use Prim.Native.Nat.{ℕ, zero, suc, ◌+◌, ◌<◌, ◌≤◌}
use mathlib.Core.Path.{◌≡◌, refl, sym, ap, ◌∙◌}
use mathlib.Core.Logic.{⊎_elim}
use mathlib.Core.Bool.{Bool, true, false, not, cond, ◌&&◌, ◌||◌, and_assoc, and-true, and-false}
use native.Mathlib.Omega.{arith}
use lib.Dec.{leb, ltb, eqb}
use borrow.Author.Tests.{leb-true, ltb-true, ltb-false, eqb-true, eq-eqb, lt-leb, le-leb}
use Rattle.masks.specs.Bits.{has, insert, within}
use Rattle.masks.specs.Folds.{all_below, any_below, iter}
use Rattle.masks.proofs.Bools.{and_yes, and_yes-l, and_yes_r, true_or_false, bool_ext}
use Rattle.masks.proofs.Turns.{all_none, all-step, iter-none, iter-step}
use Rattle.masks.proofs.Laws.{has-none, has-put}
use Rattle.masks.proofs.FoldLaws.{all_at, no_all, all_of, all_cong, all_both, any_at, any_of}
use Rattle.rules.specs.Flags.{implies}
use Rattle.rules.specs.Cluster.{bad_server}
use Rattle.rules.specs.Sets.{members}
use Rattle.server.specs.declared.Log.{Log}
use Rattle.server.specs.declared.Server.{Server}
use Rattle.server.specs.Held.{record_at, entry_at, committed_at, shard}
use Rattle.server.specs.Form.{noted, logged, entry_formed, log_formed, record_formed_at, results_formed_at, formed}
use Rattle.server_form.specs.OnePass.{entry_new, read_log, logged_formed, number_formed, number_formed_at, formed_below}

-- ---- the log's word

pub logged_none : (l : Log) → 0 ≡ logged l 0
unfolding logged
logged_none l = iter-none (noted l) 0

pub logged-step : (l : Log) (i : ℕ) → logged l (i + 1) ≡ cond (leb (entry_at l i) 63) (insert (logged l i) (entry_at l i)) (logged l i)
unfolding logged noted
logged-step l i = iter-step (noted l) 0 i

-- the entry i is the number t
abbrev pub is_number : Log → ℕ → ℕ → Bool
is_number l t i = leb (entry_at l i) 63 && eqb (entry_at l i) t

pub logged-has : (l : Log) (n t : ℕ) → has (logged l n) t ≡ any_below (is_number l t) n
unfolding logged iter any_below noted
logged-has l zero t = has-none t
logged-has l (suc n) t =
    has-put (logged l n) (entry_at l n) t (leb (entry_at l n) 63)
    ∙ ap (λ (b : Bool). b || is_number l t n) (logged-has l n t)

leb-63 : (n : ℕ) → leb n 63 ≡ ltb n 64
leb-63 n = go (ltb n 64) refl
  where
    go : (b : Bool) → ltb n 64 ≡ b → leb n 63 ≡ b
    go true e = le-leb n 63 (omega (arith, ltb-true n 64 e))
    go false e = lt-leb n 63 (omega (arith, ltb-false n 64 e))

-- the log as it is read: too long, broken at the entry i, whole, or fine so far
module _ (l : Log) where
  pub log-long : 64 < l.count → (read_log l).fine ≡ false
  unfolding read_log
  log-long h = rw (lt-leb l.count 64 h)

  pub log-broken : l.count ≤ 64 → (i : ℕ) → i < l.count → entry_new l i ≡ false → (read_log l).fine ≡ false
  unfolding read_log
  log-broken h i less e = rw (le-leb l.count 64 h) (no_all (entry_new l) l.count i less e)

  pub log_whole : l.count ≤ 64 → (i : ℕ) → i ≡ l.count → all_below (entry_new l) i ≡ true → ((read_log l).fine ≡ true) × (logged l i ≡ (read_log l).word)
  unfolding read_log
  log_whole h i e f = rw (le-leb l.count 64 h) (ap (all_below (entry_new l)) (sym e) ∙ f, ap (logged l) e)

  module _ (i entry : ℕ) (here : entry ≡ entry_at l i) where
    pub entry-fresh : {b : Bool} → (ltb entry 64 && not (has (logged l i) entry)) ≡ b → entry_new l i ≡ b
    unfolding entry_new
    entry-fresh e = rw (← here, leb-63 entry) e

    pub entry-more : entry < 64 → has (logged l i) entry ≡ false → all_below (entry_new l) i ≡ true
        → (all_below (entry_new l) (i + 1) ≡ true) × (insert (logged l i) entry ≡ logged l (i + 1))
    unfolding entry_new
    entry-more h n e = (
      rw (all-step, e, ← here, le-leb entry 63 (omega (arith, h)), n),
      rw (logged-step l i, ← here, le-leb entry 63 (omega (arith, h))),
    )

implied : (a b : Bool) → (a ≡ true → b ≡ true) → implies a b ≡ true
implied true b h = h refl
implied false b h = refl

holds : (a b : Bool) → implies a b ≡ true → a ≡ true → b ≡ true
holds true b e p = e
holds false b e p = absurd (mathlib.Core.Bool.false≢true p)

module _ (l : Log) (Q : ℕ → Bool) (n : ℕ) where
  of-entries : all_below (λ i. Q (entry_at l i)) n ≡ true → (t : ℕ) → has (logged l n) t ≡ true → Q t ≡ true
  of-entries e t h =
      let r = any_at (is_number l t) n (sym (logged-has l n t) ∙ h) in
      let same = eqb-true (entry_at l r.0) t (and_yes_r (leb (entry_at l r.0) 63) (eqb (entry_at l r.0) t) r.2) in
      ap Q (sym same) ∙ all_at (λ i. Q (entry_at l i)) n r.0 e r.1

  module _ (numbers : (i : ℕ) → i < n → leb (entry_at l i) 63 ≡ true) where
    entry_in : (i : ℕ) → i < n → has (logged l n) (entry_at l i) ≡ true
    entry_in i h =
        logged-has l n (entry_at l i)
        ∙ any_of (is_number l (entry_at l i)) n i h (and_yes _ _ (numbers i h) (eq-eqb (entry_at l i) (entry_at l i) refl))

    of-numbers : all_below (λ t. implies (has (logged l n) t) (Q t)) 64 ≡ true → (i : ℕ) → i < n → Q (entry_at l i) ≡ true
    of-numbers e i h =
        holds (has (logged l n) (entry_at l i)) (Q (entry_at l i))
        (all_at (λ t. implies (has (logged l n) t) (Q t)) 64 (entry_at l i) e (omega (arith, leb-true (entry_at l i) 63 (numbers i h))))
        (entry_in i h)

    -- what is asked of each entry, asked of each number in the word
    pub entries-numbers : all_below (λ i. Q (entry_at l i)) n ≡ all_below (λ t. implies (has (logged l n) t) (Q t)) 64
    entries-numbers =
        bool_ext
        (all_below (λ i. Q (entry_at l i)) n)
        (all_below (λ t. implies (has (logged l n) t) (Q t)) 64)
        (λ e. all_of (λ t. implies (has (logged l n) t) (Q t)) 64 (λ t h. implied (has (logged l n) t) (Q t) (of-entries e t)))
        (λ e. all_of (λ i. Q (entry_at l i)) n (of-numbers e))

-- ---- the log

and_under : (a b c : Bool) → (a ≡ true → b ≡ c) → (a && b) ≡ (a && c)
and_under true b c h = h refl
and_under false b c h = refl

regroup : (a b f i c : Bool) → (a && b && (f && i) && c) ≡ (f && a && (b && i && c))
regroup true true f i c = and_assoc f i c ∙ ap (λ (x : Bool). x && (i && c)) (sym (and-true f))
regroup true false true i c = refl
regroup true false false i c = refl
regroup false b true i c = refl
regroup false b false i c = refl

-- the word of the whole log
abbrev pub log_word : Server → ℕ
log_word s = logged s.log s.log.count

-- what the log asks of the number t, if it is in the log
abbrev pub asks_of : Server → ℕ → Bool
asks_of s t = implies (has (log_word s) t) (logged_formed (log_word s) (record_at s t))

module _ (s : Server) where
  entry-splits : (i : ℕ) → entry_formed s i ≡ (entry_new s.log i && logged_formed (log_word s) (record_at s (entry_at s.log i)))
  unfolding entry_formed entry_new logged_formed
  entry-splits i =
      let e = entry_at s.log i in
      and_assoc (leb e 63 && not (has (logged s.log i) e)) (committed_at s e) (within (members (record_at s e).committed.set) (log_word s))

  new-number : (i : ℕ) → entry_new s.log i ≡ true → leb (entry_at s.log i) 63 ≡ true
  unfolding entry_new
  new-number i e = and_yes-l (leb (entry_at s.log i) 63) (not (has (logged s.log i) (entry_at s.log i))) e

  -- the entries: each is a new number, and each number among them is committed, with its set in the log
  pub log-splits : all_below (entry_formed s) s.log.count ≡ (all_below (entry_new s.log) s.log.count && all_below (asks_of s) 64)
  log-splits =
      let n = s.log.count in
      let Q : ℕ → Bool = λ t. logged_formed (log_word s) (record_at s t) in
      all_cong (entry_formed s) (λ i. entry_new s.log i && Q (entry_at s.log i)) n (λ i h. entry-splits i)
      ∙ sym (all_both (entry_new s.log) (λ i. Q (entry_at s.log i)) n)
      ∙ and_under (all_below (entry_new s.log) n) (all_below (λ i. Q (entry_at s.log i)) n) (all_below (asks_of s) 64)
      (λ e. entries-numbers s.log Q n (λ i h. new-number i (all_at (entry_new s.log) n i e h)))

  numbers-split : all_below (number_formed_at s (log_word s)) 64 ≡ (all_below (record_formed_at s) 64 && all_below (asks_of s) 64 && all_below (results_formed_at s) 64)
  unfolding number_formed_at number_formed record_formed_at results_formed_at
  numbers-split =
      sym (all_both (λ t. record_formed_at s t && asks_of s t) (results_formed_at s) 64)
      ∙ ap (λ (b : Bool). b && all_below (results_formed_at s) 64) (sym (all_both (record_formed_at s) (asks_of s) 64))

  short : leb s.log.count 64 ≡ true → formed s ≡ formed_below s 64
  unfolding formed log_formed read_log formed_below
  short e =
      rw (e, log-splits, numbers-split)
      (regroup (not (bad_server s.id)) (all_below (record_formed_at s) 64) (all_below (entry_new s.log) s.log.count) (all_below (asks_of s) 64) (all_below (results_formed_at s) 64))

  long : leb s.log.count 64 ≡ false → formed s ≡ formed_below s 64
  unfolding formed log_formed read_log formed_below
  long e = rw (e, and-false)

  -- the form in one pass, and how the pass goes on
  pub form-once : formed s ≡ formed_below s 64
  form-once = ⊎_elim short long (true_or_false (leb s.log.count 64))

  pub pass-none : ((read_log s.log).fine && not (bad_server s.id)) ≡ formed_below s 0
  unfolding formed_below
  pass-none =
      sym (and-true _) ∙ ap (λ (b : Bool). (read_log s.log).fine && not (bad_server s.id) && b) (all_none (number_formed_at s (read_log s.log).word))

  pub pass_step : (t : ℕ) → formed_below s (t + 1) ≡ (formed_below s t && number_formed (shard s) (read_log s.log).word t (record_at s t))
  unfolding formed_below number_formed_at
  pass_step t =
      ap (λ (b : Bool). (read_log s.log).fine && not (bad_server s.id) && b) (all-step (number_formed_at s (read_log s.log).word) t)
      ∙ sym (and_assoc ((read_log s.log).fine && not (bad_server s.id)) (all_below (number_formed_at s (read_log s.log).word) t) (number_formed_at s (read_log s.log).word t))
