-- The tests `closed` and `ready` and the search, on the rows, say Closed, Ready and First of the dependency words, and back.
-- Assumes nothing.
use mathlib.Core.Path.{◌≡◌, refl, sym, ap, ◌∙◌}
use mathlib.Core.Bool.{Bool, true, false, not, ◌&&◌}
use mathlib.Core.List.{List}
use Prim.Native.Nat.{ℕ, ◌<◌, ◌^◌}
use native.Mathlib.Decide.{dec_lt}
use native.Mathlib.Omega.{arith}
use lib.ListN.{get_or}
use Rattle.masks.specs.Bits.{In, has, within}
use Rattle.masks.specs.Folds.{any_below}
use Rattle.masks.proofs.Bools.{and_yes, and_yes-l, and_yes_r, not_yes, true_and_false, not_true_false}
use Rattle.masks.proofs.Laws.{has_in, in_has, not_has, within-sub, sub_within, in_lt}
use Rattle.masks.proofs.FoldLaws.{any_no, no_any, least_le, least_at, least_below}
use Rattle.graph.specs.Before.{Before, Closed, Ready, First}
use Rattle.graph.specs.Walk.{rows_of, before, closed, awaited, ready, first_ready}
use Rattle.graph.proofs.Rows.{Words, rows_words, row_before, before-row, before_is, is_before, before_lt}
use Rattle.graph.proofs.Waiting.{closed-word}

module _ (deps : List ℕ) (w : Words deps) where
  module _ (committed t : ℕ) where
    pub closed_is : closed (rows_of deps) committed t ≡ true → Closed deps committed t
    closed_is e =
        let row = get_or (rows_of deps) t 0 in
        let f = sym (closed-word (rows_of deps) committed t (rows_words deps w t)) ∙ e in record {
          self = has_in (and_yes-l (has committed t) (within row committed) f);
          all = λ u b. within-sub row committed (and_yes_r (has committed t) (within row committed) f) u (before-row deps w b);
        }

    pub is-closed : Closed deps committed t → closed (rows_of deps) committed t ≡ true
    is-closed c =
        let row = get_or (rows_of deps) t 0 in
        closed-word (rows_of deps) committed t (rows_words deps w t)
        ∙ and_yes _ _ (in_has c.self) (sub_within 64 row committed (rows_words deps w t) (λ u i. c.all u (row_before deps i)))

  pub closed-dec : (committed t : ℕ) → Dec (Closed deps committed t)
  closed-dec committed t = go (closed (rows_of deps) committed t) refl
    where
      go : (b : Bool) → closed (rows_of deps) committed t ≡ b → Dec (Closed deps committed t)
      go true e = yes (closed_is committed t e)
      go false e = no (λ c. true_and_false (is-closed committed t c) e)

  module _ (committed ran t : ℕ) where
    -- what t waits for, u among it or not
    awaited-run : (u : ℕ) → awaited (rows_of deps) ran t u ≡ false → Before deps u t → (Before deps t u → ⊥) → In ran u
    unfolding awaited
    awaited-run u e b n =
        has_in (flags (before (rows_of deps) u t) (before (rows_of deps) t u) (has ran u) e (is_before deps w b)
        (not_true_false _ (λ p. n (before_is deps t u p))))
      where
        flags : (a b c : Bool) → (a && not b && not c) ≡ false → a ≡ true → b ≡ false → c ≡ true
        flags true false true e p q = refl
        flags true false false e p q = sym e
        flags true true c e p q = absurd (true_and_false refl q)
        flags false b c e p q = absurd (true_and_false p refl)

    run-awaited : (u : ℕ) → (Before deps u t → (Before deps t u → ⊥) → In ran u) → awaited (rows_of deps) ran t u ≡ false
    unfolding awaited
    run-awaited u h =
        flags (before (rows_of deps) u t) (before (rows_of deps) t u) (has ran u)
        (λ p q. in_has (h (before_is deps u t p) (λ b. true_and_false (is_before deps w b) q)))
      where
        flags : (a b c : Bool) → (a ≡ true → b ≡ false → c ≡ true) → (a && not b && not c) ≡ false
        flags true false c h = ap not (h refl refl)
        flags true true c h = refl
        flags false b c h = refl

    pub ready-is : ready (rows_of deps) committed ran t ≡ true → Ready deps committed ran t
    unfolding ready
    ready-is e =
        let c = closed (rows_of deps) committed t in
        let n = not (has ran t) in
        let o = any_below (awaited (rows_of deps) ran t) 64 in record {
          closed = closed_is committed t (and_yes-l c n (and_yes-l (c && n) (not o) e));
          waits = λ i. true_and_false (in_has i) (not_yes (has ran t) (and_yes_r c n (and_yes-l (c && n) (not o) e)));
          others = λ u b a. awaited-run u (any_no (awaited (rows_of deps) ran t) 64 u (not_yes o (and_yes_r (c && n) (not o) e)) (before_lt deps w b)) b a;
        }

    pub is-ready : Ready deps committed ran t → ready (rows_of deps) committed ran t ≡ true
    unfolding ready
    is-ready r =
        and_yes _ _ (and_yes _ _ (is-closed committed t r.closed) (ap not (not_has r.waits)))
        (ap not (no_any (awaited (rows_of deps) ran t) 64 (λ u h. run-awaited u (r.others u))))

  module _ (committed ran : ℕ) where
    -- the search finds the lowest ready number, or 64
    pub first-is : First deps committed ran (first_ready (rows_of deps) committed ran)
    unfolding first_ready
    first-is = record {
      within = least_le (ready (rows_of deps) committed ran) 64;
      ready = λ l. ready-is committed ran _ (least_at (ready (rows_of deps) committed ran) 64 l);
      lowest = λ t l r. true_and_false (is-ready committed ran t r) (least_below (ready (rows_of deps) committed ran) 64 t l);
    }

    -- and there is only one such
    pub first_one : (a b : ℕ) → First deps committed ran a → First deps committed ran b → a ≡ b
    first_one a b f g = go (dec_lt a b) (dec_lt b a)
      where
        go : Dec (a < b) → Dec (b < a) → a ≡ b
        go (yes h) d = absurd (g.lowest a h (f.ready (omega (arith, g.within))))
        go (no h) (yes k) = absurd (f.lowest b k (g.ready (omega (arith, f.within))))
        go (no h) (no k) = omega (arith, h, k)

  -- a ready number is below 64
  pub ready-lt : {committed ran t : ℕ} → committed < 2 ^ 64 → Ready deps committed ran t → t < 64
  ready-lt c r = in_lt 64 c r.closed.self
