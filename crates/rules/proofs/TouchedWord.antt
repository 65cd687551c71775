-- The word of the shards that pieces touch says also whether they keep rule 2: whoever keeps it touches a shard. Assumes nothing.
use Prim.Native.Nat.{ℕ, ◌+◌, ◌-◌, ◌<◌, ◌≤◌}
use mathlib.Core.Path.{◌≡◌, refl, sym, ap, ◌∙◌}
use mathlib.Core.Logic.{⊎_elim}
use mathlib.Core.Bool.{Bool, true, false, not, cond, ◌&&◌, ◌||◌}
use native.Mathlib.Decide.{dec_lt}
use native.Mathlib.Omega.{arith}
use lib.Dec.{leb, ltb, eqb}
use borrow.Author.Tests.{leb-true, lt-ltb, le-ltb, ne_eqb}
use Rattle.masks.specs.Folds.{all_below}
use Rattle.masks.proofs.Bools.{and_yes_r, true_or_false}
use Rattle.rules.specs.declared.Pieces.{Pieces}
use Rattle.rules.specs.Pieces.{piece_at, piece_kept, place, entry_kept, pieces_kept, used, shards_of, touched_by}
use Rattle.rules.proofs.OnePass.{shards_passed, shards-used}
use Rattle.rules.proofs.PiecesKept.{kept-is, some-shard}

module _ (ps : Pieces) where
  pub kept_word : pieces_kept ps ≡ true → touched_by ps ≡ shards_of ps
  unfolding touched_by
  kept_word e = rw e

  pub broken-word : pieces_kept ps ≡ false → touched_by ps ≡ 0
  unfolding touched_by
  broken-word e = rw e

  -- rule 2 by the word
  pub kept-touched : not (eqb (touched_by ps) 0) ≡ pieces_kept ps
  kept-touched =
      ⊎_elim
      (λ e. ap (λ (w : ℕ). not (eqb w 0)) (kept_word e) ∙ ap not (ne_eqb (shards_of ps) 0 (some-shard ps (kept-is ps e))) ∙ sym e)
      (λ e. ap (λ (w : ℕ). not (eqb w 0)) (broken-word e) ∙ sym e)
      (true_or_false (pieces_kept ps))

-- ---- the walk over the pieces

module _ (ps : Pieces) where
  -- the shards of the first `count` pieces are all that are touched
  pub shards-counted : ps.count ≤ 8 → shards_passed ps ps.count ≡ shards_of ps
  unfolding used
  shards-counted l = ap (shards_passed ps) (sym (all-used (dec_lt ps.count 8))) ∙ shards-used ps
    where
      all-used : Dec (ps.count < 8) → used ps.count ≡ ps.count
      all-used (yes p) = rw (lt-ltb ps.count 8 p)
      all-used (no g) = rw (le-ltb ps.count 8 (omega (arith, g))) (omega (arith, g))

  -- the place of the piece before i
  unfoldable pub last_place : ℕ → ℕ
  last_place i = cond (eqb i 0) 0 (place (piece_at ps (i - 1)))

  pub last_none : 0 ≡ last_place 0
  unfolding last_place
  last_none = refl

  pub last_step : (i : ℕ) → last_place (i + 1) ≡ place (piece_at ps i)
  unfolding last_place
  last_step i = rw (ne_eqb (i + 1) 0 (λ e. omega arith)) (ap (λ (j : ℕ). place (piece_at ps j)) (omega arith))

  pub entry-rises : (i : ℕ) → (piece_kept (piece_at ps i) && (eqb i 0 || ltb (last_place i) (place (piece_at ps i)))) ≡ entry_kept ps i
  unfolding last_place entry_kept
  entry-rises i = ap (λ (b : Bool). piece_kept (piece_at ps i) && b) (choice (eqb i 0))
    where
      choice : (b : Bool) → (b || ltb (cond b 0 (place (piece_at ps (i - 1)))) (place (piece_at ps i))) ≡ (b || ltb (place (piece_at ps (i - 1))) (place (piece_at ps i)))
      choice true = refl
      choice false = refl

  -- what the walk over as many pieces as a transaction may have gives
  pub walked : (leb 1 ps.count && leb ps.count 8) ≡ true → touched_by ps ≡ cond (all_below (entry_kept ps) ps.count) (shards_passed ps ps.count) 0
  unfolding touched_by pieces_kept
  walked e =
      rw e
      (ap (λ (w : ℕ). cond (all_below (entry_kept ps) ps.count) w 0)
      (sym (shards-counted (leb-true ps.count 8 (and_yes_r (leb 1 ps.count) (leb ps.count 8) e)))))
