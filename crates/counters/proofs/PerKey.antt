-- What a transaction does to the counter of one key depends on that counter alone: its pieces on the key take effect in their order. A read leaves the counter,
-- and so does a transaction that does not write the key. Its results depend on the counters of its own keys alone.
-- Assumes nothing.
use mathlib.Core.Path.{◌≡◌, refl, sym, ap, ap₂, ◌∙◌, subst}
use mathlib.Core.Bool.{Bool, true, false, cond, ◌&&◌}
use Prim.Native.Nat.{ℕ, zero, suc, ◌≤◌, ◌<◌}
use native.Mathlib.Decide.{ℕ_discrete, dec_lt}
use native.Mathlib.Omega.{arith}
use borrow.Author.Tests.{eq-eqb, ne_eqb, eqb-true}
use lib.Dec.{eqb}
use lib.IntN.{ℤ}
use lib.ListN.{length, get_or, set, length-set, get_or-eq_default}
use lib.Seq.{get_or-set_same, get_or-set_other}
use Rattle.masks.specs.Folds.{iter}
use Rattle.masks.proofs.Bools.{and_yes-l, and_yes_r}
use Rattle.masks.proofs.FoldLaws.{iter_keeps}
use Rattle.rules.specs.declared.Piece.{Piece}
use Rattle.rules.specs.declared.Pieces.{Pieces}
use Rattle.rules.specs.declared.Values.{Values}
use Rattle.rules.specs.Pieces.{piece_at, on_shard, read}
use Rattle.rules.specs.Values.{no_values, with_value}
use Rattle.counters.specs.declared.Counter.{Counter}
use Rattle.counters.specs.declared.Counters.{Counters}
use Rattle.counters.specs.declared.Executed.{Executed}
use Rattle.counters.specs.Effects.{zeroed, counter_at, with_counter, effect, run_piece, run_entry, execute}

-- a read leaves the counter
pub read-leaves : (n : ℤ) (c : Counter) → (effect read n c).counter ≡ c
unfolding effect
read-leaves n c = refl

-- the effect of piece i on the counter of key x of shard k, where it is on it
unfoldable pub key_entry : Pieces → ℕ → ℕ → ℕ → Counter → Counter
key_entry ps k x i v =
    cond (on_shard ps k i && eqb (piece_at ps i).key x) (effect (piece_at ps i).kind (piece_at ps i).operand v).counter v

-- the effect of all pieces
unfoldable pub key_effect : Pieces → ℕ → ℕ → Counter → Counter
key_effect ps k x v = iter (key_entry ps k x) v 8

-- the counter of a key that is written, and that of another
put_at : (c : Counters) (key x : ℕ) (v : Counter) → x < length c.list → counter_at (with_counter c key v) x ≡ cond (eqb key x) v (counter_at c x)
put_at c key x v h = go (ℕ_discrete key x)
  where
    go : Dec (key ≡ x) → counter_at (with_counter c key v) x ≡ cond (eqb key x) v (counter_at c x)
    go (yes e) =
        ap (λ (n : ℕ). get_or (set c.list n v) x zeroed) e ∙ get_or-set_same c.list x v zeroed h
        ∙ sym (ap (λ (b : Bool). cond b v (counter_at c x)) (eq-eqb key x e))
    go (no n) =
        get_or-set_other c.list key x v zeroed (λ e. n (sym e))
        ∙ sym (ap (λ (b : Bool). cond b v (counter_at c x)) (ne_eqb key x n))

piece-key : (p : Piece) (e : Executed) (x : ℕ) → x < length e.counters.list
    → counter_at (run_piece p e).counters x ≡ cond (eqb p.key x) (effect p.kind p.operand (counter_at e.counters x)).counter (counter_at e.counters x)
unfolding run_piece
piece-key p e x h = put_at e.counters p.key x _ h ∙ own (eqb p.key x) refl
  where
    own : (b : Bool) → eqb p.key x ≡ b
        → cond b (effect p.kind p.operand (counter_at e.counters p.key)).counter (counter_at e.counters x)
        ≡ cond b (effect p.kind p.operand (counter_at e.counters x)).counter (counter_at e.counters x)
    own true q = ap (λ (y : ℕ). (effect p.kind p.operand (counter_at e.counters y)).counter) (eqb-true p.key x q)
    own false q = refl

-- the results with that of p
abbrev pub value_given : Piece → Executed → Values
value_given p e = with_value e.values (effect p.kind p.operand (counter_at e.counters p.key)).result

-- as a transaction begins
abbrev pub begun : Counters → Executed
begun c = record { counters = c; values = no_values }

module _ (ps : Pieces) (k : ℕ) where
  -- a piece leaves as many counters as there were
  entry_length : (i : ℕ) (e : Executed) → length (run_entry ps k i e).counters.list ≡ length e.counters.list
  unfolding run_entry run_piece
  entry_length i e = go (on_shard ps k i)
    where
      go : (b : Bool) → length (cond b (run_piece (piece_at ps i) e) e).counters.list ≡ length e.counters.list
      go true = length-set e.counters.list (piece_at ps i).key _
      go false = refl

  pub entry-values : (i : ℕ) (e : Executed) → (run_entry ps k i e).values ≡ cond (on_shard ps k i) (value_given (piece_at ps i) e) e.values
  unfolding run_entry run_piece
  entry-values i e = go (on_shard ps k i)
    where
      go : (b : Bool) → (cond b (run_piece (piece_at ps i) e) e).values ≡ cond b (value_given (piece_at ps i) e) e.values
      go true = refl
      go false = refl

  pub length-after : (e : Executed) (n : ℕ) → length (iter (run_entry ps k) e n).counters.list ≡ length e.counters.list
  length-after e n =
      iter_keeps (λ (f : Executed). length f.counters.list ≡ length e.counters.list) (run_entry ps k) e n refl (λ i f l p. entry_length i f ∙ p)

  pub counters-length : (c : Counters) → length (execute ps k c).counters.list ≡ length c.list
  unfolding execute
  counters-length c = length-after (record { counters = c; values = no_values }) 8

  -- ---- the counter of key x
  module _ (x : ℕ) where
    entry_key : (i : ℕ) (e : Executed) → x < length e.counters.list → counter_at (run_entry ps k i e).counters x ≡ key_entry ps k x i (counter_at e.counters x)
    unfolding run_entry key_entry
    entry_key i e h = go (on_shard ps k i)
      where
        go : (b : Bool) → counter_at (cond b (run_piece (piece_at ps i) e) e).counters x
            ≡ cond (b && eqb (piece_at ps i).key x) (effect (piece_at ps i).kind (piece_at ps i).operand (counter_at e.counters x)).counter (counter_at e.counters x)
        go true = piece-key (piece_at ps i) e x h
        go false = refl

    pub key-after : (e : Executed) (n : ℕ) → x < length e.counters.list
        → counter_at (iter (run_entry ps k) e n).counters x ≡ iter (key_entry ps k x) (counter_at e.counters x) n
    unfolding iter
    key-after e zero h = refl
    key-after e (suc n) h =
        entry_key n (iter (run_entry ps k) e n) (subst (λ (m : ℕ). x < m) (sym (length-after e n)) h)
        ∙ ap (key_entry ps k x n) (key-after e n h)

    -- what a transaction does to the counter of x, by that counter alone
    pub key_step : (c : Counters) → x < length c.list → counter_at (execute ps k c).counters x ≡ key_effect ps k x (counter_at c x)
    unfolding execute key_effect
    key_step c h = key-after (record { counters = c; values = no_values }) 8 h

    -- pieces on other keys, and reads, leave it
    entry-leaves : (i : ℕ) → (on_shard ps k i ≡ true → (piece_at ps i).key ≡ x → (piece_at ps i).kind ≡ read) → (v : Counter) → key_entry ps k x i v ≡ v
    unfolding key_entry
    entry-leaves i h v = go (on_shard ps k i && eqb (piece_at ps i).key x) refl
      where
        go : (b : Bool) → (on_shard ps k i && eqb (piece_at ps i).key x) ≡ b → cond b (effect (piece_at ps i).kind (piece_at ps i).operand v).counter v ≡ v
        go true q =
            ap (λ (m : ℕ). (effect m (piece_at ps i).operand v).counter)
            (h (and_yes-l (on_shard ps k i) _ q) (eqb-true (piece_at ps i).key x (and_yes_r (on_shard ps k i) _ q)))
            ∙ read-leaves (piece_at ps i).operand v
        go false q = refl

    -- a transaction that does not write x leaves its counter
    pub unwritten : ((i : ℕ) → i < 8 → on_shard ps k i ≡ true → (piece_at ps i).key ≡ x → (piece_at ps i).kind ≡ read) → (v : Counter) → key_effect ps k x v ≡ v
    unfolding key_effect
    unwritten h v = iter_keeps (λ (y : Counter). y ≡ v) (key_entry ps k x) v 8 refl (λ i y l p. entry-leaves i (h i l) y ∙ p)

    pub others-stay : (c : Counters) → x < length c.list → ((i : ℕ) → i < 8 → on_shard ps k i ≡ true → (piece_at ps i).key ≡ x → ⊥)
        → counter_at (execute ps k c).counters x ≡ counter_at c x
    others-stay c h n = key_step c h ∙ unwritten (λ i l o q. absurd (n i l o q)) (counter_at c x)

  -- ---- the results
  module _ (c d : Counters) (same : length c.list ≡ length d.list)
      (agree : (i : ℕ) → i < 8 → on_shard ps k i ≡ true → counter_at c (piece_at ps i).key ≡ counter_at d (piece_at ps i).key) where
    past : (a : Counters) (n x : ℕ) → length a.list ≤ x → counter_at (iter (run_entry ps k) (begun a) n).counters x ≡ zeroed
    past a n x h = get_or-eq_default (iter (run_entry ps k) (begun a) n).counters.list zeroed (subst (λ (m : ℕ). m ≤ x) (sym (length-after (begun a) n)) h)

    agree_after : (n i : ℕ) → i < 8 → on_shard ps k i ≡ true
        → counter_at (iter (run_entry ps k) (begun c) n).counters (piece_at ps i).key ≡ counter_at (iter (run_entry ps k) (begun d) n).counters (piece_at ps i).key
    agree_after n i l o = go (dec_lt (piece_at ps i).key (length c.list))
      where
        go : Dec ((piece_at ps i).key < length c.list)
            → counter_at (iter (run_entry ps k) (begun c) n).counters (piece_at ps i).key ≡ counter_at (iter (run_entry ps k) (begun d) n).counters (piece_at ps i).key
        go (yes h) =
            key-after (piece_at ps i).key (begun c) n h ∙ ap (λ (v : Counter). iter (key_entry ps k (piece_at ps i).key) v n) (agree i l o)
            ∙ sym (key-after (piece_at ps i).key (begun d) n (subst (λ (m : ℕ). (piece_at ps i).key < m) same h))
        go (no h) = past c n (piece_at ps i).key (omega (arith, h)) ∙ sym (past d n (piece_at ps i).key (omega (arith, h, same)))

    values-after : (n : ℕ) → n ≤ 8 → (iter (run_entry ps k) (begun c) n).values ≡ (iter (run_entry ps k) (begun d) n).values
    unfolding iter
    values-after zero h = refl
    values-after (suc n) h =
        let e = iter (run_entry ps k) (begun c) n in
        let f = iter (run_entry ps k) (begun d) n in
        entry-values n e ∙ together (on_shard ps k n) refl (values-after n (omega arith)) ∙ sym (entry-values n f)
      where
        together : (b : Bool) → on_shard ps k n ≡ b → (iter (run_entry ps k) (begun c) n).values ≡ (iter (run_entry ps k) (begun d) n).values
            → cond b (value_given (piece_at ps n) (iter (run_entry ps k) (begun c) n)) (iter (run_entry ps k) (begun c) n).values
            ≡ cond b (value_given (piece_at ps n) (iter (run_entry ps k) (begun d) n)) (iter (run_entry ps k) (begun d) n).values
        together true o p =
            ap₂ (λ (v : Values) (a : Counter). with_value v (effect (piece_at ps n).kind (piece_at ps n).operand a).result) p (agree_after n n h o)
        together false o p = p

    -- two states that agree on the transaction's keys give the same results
    pub same-results : (execute ps k c).values ≡ (execute ps k d).values
    unfolding execute
    same-results = values-after 8 (omega arith)
