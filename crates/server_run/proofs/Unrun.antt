-- What has run is left out of the dependencies: of a server in form, the same runs next. Assumes nothing.
use Prim.Native.Nat.{ℕ, zero, suc, ◌-◌, ◌^◌, ◌≤◌, ◌<◌}
use mathlib.Core.Path.{◌≡◌, refl, sym, ap, ◌∙◌, subst}
use mathlib.Core.Bool.{Bool, true, false, cond}
use native.Mathlib.Decide.{dec_lt}
use native.Mathlib.Omega.{arith}
use borrow.Author.Tests.{le-leb, leb-true}
use lib.Bits.{and_le_l, and_le_r}
use lib.Dec.{leb}
use lib.ListN.{get_or, get_or-eq_default}
use lib.Pow.{pow_pos}
use Rattle.masks.specs.Bits.{In, insert, without}
use Rattle.masks.specs.Folds.{tab, iter}
use Rattle.masks.proofs.Laws.{Sub, has_in, in_has, in_lt, in_without, in_without_left, in_without_right, insert_lt, same}
use Rattle.masks.proofs.FoldLaws.{get_d_tab, length-tab}
use Rattle.graph.specs.Walk.{rows_of, next_group}
use Rattle.graph.proofs.Rows.{Words}
use Rattle.graph.proofs.Unrun.{Less, next-same}
use Rattle.server.specs.declared.Log.{Log}
use Rattle.server.specs.declared.Server.{Server}
use Rattle.server.specs.Held.{committed_word, ran_word, entry_at}
use Rattle.server.specs.Form.{noted, logged, formed}
use Rattle.server.specs.Run.{deps_at, deps_of}
use Rattle.server.proofs.FormParts.{Formed, formed_parts}
use Rattle.server.proofs.LogGrows.{log_word}
use Rattle.server.proofs.RunGroups.{ran_lt}
use Rattle.server.proofs.RunKeepsForm.{ran-logged, logged-ran, log_kept}
use Rattle.server_form.specs.OnePass.{read_log}
use Rattle.server_run.specs.Gathered.{unrun_at}

-- ---- the word of a log in form is what has run

logged_lt : (l : Log) (n : ℕ) → logged l n < 2 ^ 64
unfolding logged noted iter
logged_lt l zero = pow_pos 64
logged_lt l (suc n) = go (leb (entry_at l n) 63) refl (logged_lt l n)
  where
    go : (b : Bool) → leb (entry_at l n) 63 ≡ b → logged l n < 2 ^ 64 → cond b (insert (logged l n) (entry_at l n)) (logged l n) < 2 ^ 64
    go true e h = insert_lt 64 (logged l n) (entry_at l n) h (let q = leb-true (entry_at l n) 63 e in omega arith)
    go false e h = h

without-word : (a b : ℕ) → without a b < 2 ^ 64
unfolding without
without-word a b = let h = and_le_r a (2 ^ 64 - 1 - b) in let p = pow_pos 64 in omega arith

without-nothing : (b : ℕ) → without 0 b ≡ 0
unfolding without
without-nothing b = let h = and_le_l 0 (2 ^ 64 - 1 - b) in omega arith

-- what stands past the last number
past-none : (f : ℕ → ℕ) (t : ℕ) → (t < 64 → ⊥) → get_or (tab f 64) t 0 ≡ 0
past-none f t h = get_or-eq_default (tab f 64) 0 (subst (λ n. n ≤ t) (sym (length-tab f 64)) (omega arith))

pub deps-words : (s : Server) → ((t : ℕ) → t < 64 → deps_at s t < 2 ^ 64) → Words (deps_of s)
unfolding deps_of
deps-words s f t = go (dec_lt t 64)
  where
    go : Dec (t < 64) → get_or (tab (deps_at s) 64) t 0 < 2 ^ 64
    go (yes l) = rw (get_d_tab (deps_at s) 64 t 0 l) (f t l)
    go (no h) = rw (past-none (deps_at s) t h) (pow_pos 64)

module _ (s : Server) (form : formed s ≡ true) where
  parts : Formed s
  parts = formed_parts s form

  pub read-log : (read_log s.log).word ≡ log_word s.log
  unfolding read_log
  read-log = rw (le-leb s.log.count 64 parts.count)

  pub read-ran : (read_log s.log).word ≡ ran_word s
  read-ran =
      read-log
      ∙ same 64 (log_word s.log) (ran_word s) (logged_lt s.log s.log.count) (ran_lt s)
      (λ t i. logged-ran s parts t (in_has i)) (λ t i. has_in (ran-logged s parts t i))

  -- ---- the words without it

  row : (t : ℕ) → get_or (tab (unrun_at s) 64) t 0 ≡ without (get_or (deps_of s) t 0) (ran_word s)
  unfolding unrun_at deps_of
  row t = go (dec_lt t 64)
    where
      go : Dec (t < 64) → get_or (tab (unrun_at s) 64) t 0 ≡ without (get_or (tab (deps_at s) 64) t 0) (ran_word s)
      go (yes l) = get_d_tab (unrun_at s) 64 t 0 l ∙ ap (without (deps_at s t)) read-ran ∙ ap (λ (w : ℕ). without w (ran_word s)) (sym (get_d_tab (deps_at s) 64 t 0 l))
      go (no h) = past-none (unrun_at s) t h ∙ sym (ap (λ (w : ℕ). without w (ran_word s)) (past-none (deps_at s) t h) ∙ without-nothing (ran_word s))

  module _ (words : Words (deps_of s)) where
    less : Less (deps_of s) (tab (unrun_at s) 64) (ran_word s)
    less = record {
      was = λ t u i. in_without_left (get_or (deps_of s) t 0) (ran_word s) (subst (λ (w : ℕ). In w u) (row t) i);
      new = λ t u i. in_without_right (get_or (deps_of s) t 0) (ran_word s) (ran_lt s) (subst (λ (w : ℕ). In w u) (row t) i);
      all = λ t u i n. subst (λ (w : ℕ). In w u) (sym (row t)) (in_without (ran_lt s) (in_lt 64 (words t) i) i n);
    }

    pub next-unrun : (ran : ℕ) → Sub (ran_word s) ran → next_group (rows_of (tab (unrun_at s) 64)) (committed_word s) ran ≡ next_group (rows_of (deps_of s)) (committed_word s) ran
    next-unrun ran more = next-same words (λ t. subst (λ (w : ℕ). w < 2 ^ 64) (sym (row t)) (without-word (get_or (deps_of s) t 0) (ran_word s))) less (log_kept s parts) ran more
