-- A run of a ready group is numbers run one by one, each committed and not yet in the log; together they are the group, rising. Assumes nothing.
use mathlib.Core.Path.{◌≡◌, refl, sym, ◌∙◌, ap, subst}
use mathlib.Core.Logic.{◌⊎◌, inl, inr}
use mathlib.Core.Bool.{Bool, true, false, cond, ◌||◌}
use Prim.Native.Nat.{ℕ, zero, suc, ◌≤◌, ◌<◌}
use native.Mathlib.Omega.{arith}
use native.Mathlib.Decide.{ℕ_discrete}
use borrow.Author.Tests.{eqb-true, eq-eqb}
use lib.Dec.{eqb}
use lib.ListN.{length, length-set, take}
use mathlib.Core.List.{List, [], ◌∷◌, ◌++◌, append-nil, append_assoc}
use Rattle.masks.specs.Bits.{has, insert}
use Rattle.masks.specs.Folds.{over}
use Rattle.masks.proofs.Bools.{or_yes, or_yes-l, or_yes_r, true_and_false, not_true_false}
use Rattle.masks.proofs.Laws.{has-insert}
use Rattle.rules.specs.Flags.{there}
use Rattle.rules.specs.declared.MaybeSet.{MaybeSet}
use Rattle.server.specs.declared.Server.{Server}
use Rattle.server.specs.Held.{committed_at}
use Rattle.server.specs.Run.{run_one, run_group}
use Rattle.server.proofs.RunLeaves.{Leaves, leaves-refl, leaves-trans, run_one-leaves}
use Rattle.server.proofs.LogGrows.{Lined, log_word, lined-room, append-lined, logged-all, append-list}

-- the number t may run next at x: it is committed, and not in the log, which has room for it
pub record May (x : Server) (t : ℕ) : Type 0 where
  pub small : t < 64
  pub new : has (log_word x.log) t ≡ false
  pub room : x.log.count < 64
  pub committed : committed_at x t ≡ true

-- x after numbers that ran one by one
pub data RanOneByOne (s : Server) : Server → Type 0 where
  none : RanOneByOne s s
  more : {x : Server} → RanOneByOne s x → (t : ℕ) → May x t → RanOneByOne s (run_one x t)

-- what running a number keeps, running many keeps
pub ran_keeps : (P : Server → Type 0) → ((x : Server) (t : ℕ) → May x t → P x → P (run_one x t)) → {s z : Server} → RanOneByOne s z → P s → P z
ran_keeps P f none h = h
ran_keeps P f (more r t m) h = f _ t m (ran_keeps P f r h)

pub ran-trans : {a b c : Server} → RanOneByOne a b → RanOneByOne b c → RanOneByOne a c
ran-trans p none = p
ran-trans p (more q t m) = more (ran-trans p q) t m

-- ---- a group

-- the numbers of g below n, rising
unfoldable pub rising : ℕ → ℕ → List ℕ
rising g zero = []
rising g (suc n) = cond (has g n) (rising g n ++ (n ∷ [])) (rising g n)

-- a server whose log has its size and no repeats
pub record Logs (x : Server) : Type 0 where
  pub size : length x.log.list ≡ 64
  pub lined : Lined x.log

pub logs_more : (x : Server) (t : ℕ) → May x t → Logs x → Logs (run_one x t)
unfolding run_one
logs_more x t m g = record {
  size = length-set x.log.list x.log.count t ∙ g.size;
  lined = append-lined x.log t (let r = m.room in omega (arith, g.size)) g.lined (let r = m.small in omega arith) m.new;
}

pub word_more : (x : Server) (t : ℕ) → May x t → Logs x → log_word (run_one x t).log ≡ insert (log_word x.log) t
unfolding run_one
word_more x t m g = logged-all x.log t (let r = m.room in omega (arith, g.size)) (let r = m.small in omega arith)

pub list_more : (x : Server) (t : ℕ) → May x t → Logs x → take (run_one x t).log.count (run_one x t).log.list ≡ take x.log.count x.log.list ++ (t ∷ [])
unfolding run_one
list_more x t m g = append-list x.log t (let r = m.room in omega (arith, g.size))

-- g at s: committed numbers, none of which has run
module _ (s : Server) (g : ℕ) (lg : Logs s) (comm : (u : ℕ) → has g u ≡ true → committed_at s u ≡ true) (new : (u : ℕ) → has g u ≡ true → has (log_word s.log) u ≡ false) where
  pub record Partway (n : ℕ) (x : Server) : Type 0 where
    pub ran : RanOneByOne s x
    pub leaves : Leaves s x
    pub logs : Logs x
    pub from : (u : ℕ) → has (log_word x.log) u ≡ true → (has (log_word s.log) u ≡ true) ⊎ ((u < n) × (has g u ≡ true))
    pub old : (u : ℕ) → has (log_word s.log) u ≡ true → has (log_word x.log) u ≡ true
    pub into : (u : ℕ) → u < n → has g u ≡ true → has (log_word x.log) u ≡ true
    pub listed : take x.log.count x.log.list ≡ take s.log.count s.log.list ++ rising g n

  partway-next : (n : ℕ) (x : Server) → n < 64 → has g n ≡ true → Partway n x → Partway (suc n) (run_one x n)
  unfolding rising
  partway-next n x l e p = record {
    ran = more p.ran n may;
    leaves = leaves-trans p.leaves (run_one-leaves x n);
    logs = logs_more x n may p.logs;
    from = λ u h. from u (or_yes (has (log_word x.log) u) (eqb n u) (sym (has-insert (log_word x.log) n u) ∙ subst (λ w. has w u ≡ true) word h));
    old = λ u h. subst (λ w. has w u ≡ true) (sym word) (has-insert (log_word x.log) n u ∙ or_yes-l (has (log_word x.log) u) (eqb n u) (p.old u h));
    into = λ u q h. subst (λ w. has w u ≡ true) (sym word) (has-insert (log_word x.log) n u ∙ into u q h (ℕ_discrete n u));
    listed = list_more x n may p.logs ∙ ap (λ (a : List ℕ). a ++ (n ∷ [])) p.listed ∙ append_assoc (take s.log.count s.log.list) (rising g n) (n ∷ []) ∙ ap (λ (b : Bool). take s.log.count s.log.list ++ cond b (rising g n ++ (n ∷ [])) (rising g n)) (sym e);
  }
    where
      fresh : has (log_word x.log) n ≡ false
      fresh = not_true_false (has (log_word x.log) n) (λ h. go (p.from n h))
        where
          go : (has (log_word s.log) n ≡ true) ⊎ ((n < n) × (has g n ≡ true)) → ⊥
          go (inl h) = true_and_false h (new n e)
          go (inr h) = let z = h.0 in omega arith

      may : May x n
      may = record {
        small = l;
        new = fresh;
        room = lined-room x.log p.logs.lined n l fresh;
        committed = ap (λ (v : MaybeSet). there v.some) (p.leaves.held n).committed ∙ comm n e;
      }

      word : log_word (run_one x n).log ≡ insert (log_word x.log) n
      word = word_more x n may p.logs

      from : (u : ℕ) → (has (log_word x.log) u ≡ true) ⊎ (eqb n u ≡ true) → (has (log_word s.log) u ≡ true) ⊎ ((u < suc n) × (has g u ≡ true))
      from u (inl h) = go (p.from u h)
        where
          go : (has (log_word s.log) u ≡ true) ⊎ ((u < n) × (has g u ≡ true)) → (has (log_word s.log) u ≡ true) ⊎ ((u < suc n) × (has g u ≡ true))
          go (inl h) = inl h
          go (inr h) = let z = h.0 in inr (omega arith, h.1)
      from u (inr h) = let z = eqb-true n u h in inr (omega arith, subst (λ u. has g u ≡ true) z e)

      into : (u : ℕ) → u < suc n → has g u ≡ true → Dec (n ≡ u) → (has (log_word x.log) u || eqb n u) ≡ true
      into u q h (yes z) = or_yes_r (has (log_word x.log) u) (eqb n u) (eq-eqb n u z)
      into u q h (no z) = or_yes-l (has (log_word x.log) u) (eqb n u) (p.into u (omega arith) h)

  partway-skip : (n : ℕ) (x : Server) → has g n ≡ false → Partway n x → Partway (suc n) x
  unfolding rising
  partway-skip n x e p = record {
    ran = p.ran;
    leaves = p.leaves;
    logs = p.logs;
    from = λ u h. from u (p.from u h);
    old = p.old;
    into = λ u q h. into u q h (ℕ_discrete u n);
    listed = p.listed ∙ ap (λ (b : Bool). take s.log.count s.log.list ++ cond b (rising g n ++ (n ∷ [])) (rising g n)) (sym e);
  }
    where
      from : (u : ℕ) → (has (log_word s.log) u ≡ true) ⊎ ((u < n) × (has g u ≡ true)) → (has (log_word s.log) u ≡ true) ⊎ ((u < suc n) × (has g u ≡ true))
      from u (inl h) = inl h
      from u (inr h) = let z = h.0 in inr (omega arith, h.1)

      into : (u : ℕ) → u < suc n → has g u ≡ true → Dec (u ≡ n) → has (log_word x.log) u ≡ true
      into u q h (yes z) = absurd (true_and_false (subst (λ u. has g u ≡ true) z h) e)
      into u q h (no z) = p.into u (omega arith) h

  partway : (n : ℕ) → n ≤ 64 → Partway n (over run_one s g n)
  unfolding over rising
  partway zero l = record {
    ran = none;
    leaves = leaves-refl s;
    logs = lg;
    from = λ u h. inl h;
    old = λ u h. h;
    into = λ u q h. absurd (omega arith);
    listed = start;
  }
    where
      start : take s.log.count s.log.list ≡ take s.log.count s.log.list ++ rising g 0
      start = sym (append-nil (take s.log.count s.log.list))
  partway (suc n) l = go (has g n) refl (partway n (omega arith))
    where
      go : (b : Bool) → has g n ≡ b → Partway n (over run_one s g n) → Partway (suc n) (cond b (run_one (over run_one s g n) n) (over run_one s g n))
      go true e p = partway-next n (over run_one s g n) (omega arith) e p
      go false e p = partway-skip n (over run_one s g n) e p

  pub group-ran : Partway 64 (run_group s g)
  unfolding run_group
  group-ran = partway 64 (omega arith)
