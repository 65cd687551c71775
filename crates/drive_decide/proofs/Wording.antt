-- The words of a drive, shard by shard. Assumes nothing.
use mathlib.Core.Path.{◌≡◌, refl, sym, ap, ◌∙◌}
use mathlib.Core.Bool.{Bool, true, false, cond, not, ◌&&◌, and_assoc}
use Prim.Native.Nat.{ℕ, ◌+◌}
use lib.Dec.{eqb}
use lib.Bits.{or_zero_l}
use Rattle.masks.specs.Bits.{union}
use Rattle.masks.specs.Folds.{all_below, union_of}
use Rattle.masks.proofs.Turns.{all-step}
use Rattle.masks.proofs.FoldLaws.{all_both}
use Rattle.masks.proofs.Bools.{true_and_false, not_not}
use Rattle.rules.specs.Cluster.{server_of}
use Rattle.rules.specs.Flags.{there, implies}
use Rattle.drive.specs.declared.Answer.{Answer}
use Rattle.drive.specs.declared.Drive.{Drive}
use Rattle.drive.specs.Held.{answer_at}
use Rattle.drive.specs.Decide.{word_there, agree, equal_in, equal_words, word_in, union_in, unions}
use Rattle.drive_decide.specs.declared.InShard.{InShard}
use Rattle.drive_decide.specs.Turns.{in_shard, in_all, words_of}

-- where none is counted, nothing is said
silent_if : (x y z e f g : Bool) (u v w : ℕ) → (not x && not y && not z) ≡ true
    → ◌≡◌ {A = InShard} (record { union = 0; equal = true })
    (record { union = union (union (cond (x && e) u 0) (cond (y && f) v 0)) (cond (z && g) w 0); equal = implies x (x && e) && implies y (y && f) && implies z (z && g) && (implies (x && y) (eqb u v) && implies (x && z) (eqb u w) && implies (y && z) (eqb v w)) })
unfolding union
silent_if false false false e f g u v w h = refl
silent_if false false true e f g u v w h = absurd (true_and_false h refl)
silent_if false true z e f g u v w h = absurd (true_and_false h refl)
silent_if true y z e f g u v w h = absurd (true_and_false h refl)

pub silent : (a b c : Answer) → (eqb a.counted 0 && eqb b.counted 0 && eqb c.counted 0) ≡ true → ◌≡◌ {A = InShard} (record { union = 0; equal = true }) (in_shard a b c)
silent a b c e =
    silent_if (there a.counted) (there b.counted) (there c.counted) (there a.arrival.some) (there b.arrival.some) (there c.arrival.some) a.arrival.word b.arrival.word c.arrival.word
    (rw (not_not (eqb a.counted 0), not_not (eqb b.counted 0), not_not (eqb c.counted 0)) e)

-- three turns at a time
three : (f : ℕ → Bool) (n : ℕ) → all_below f (n + 1 + 1 + 1) ≡ (all_below f n && (f n && f (n + 1) && f (n + 1 + 1)))
three f n = rw (all-step f (n + 1 + 1), all-step f (n + 1), all-step f n, ← and_assoc, ← and_assoc)

module _ (d : Drive) where
  abbrev at : ℕ → Answer
  at = answer_at d

  abbrev said_in : ℕ → Bool
  said_in k = word_there d (server_of k 0) && word_there d (server_of k 1) && word_there d (server_of k 2)

  said_all : all_below said_in 4 ≡ all_below (word_there d) 12
  unfolding all_below
  said_all =
      sym
      (three (word_there d) 9
      ∙ ap (λ (b : Bool). b && said_in 3)
      (three (word_there d) 6
      ∙ ap (λ (b : Bool). b && said_in 2)
      (three (word_there d) 3
      ∙ ap (λ (b : Bool). b && said_in 1) (three (word_there d) 0))))

  equal-all : all_below (λ k. said_in k && equal_in d k) 4 ≡ equal_words d
  unfolding equal_words
  equal-all = sym (all_both said_in (equal_in d) 4) ∙ ap (λ (b : Bool). b && all_below (equal_in d) 4) said_all

  equal-four : ((in_shard (at 0) (at 1) (at 2)).equal && (in_shard (at 3) (at 4) (at 5)).equal && (in_shard (at 6) (at 7) (at 8)).equal && (in_shard (at 9) (at 10) (at 11)).equal) ≡ equal_words d
  unfolding all_below word_there equal_in agree
  equal-four = equal-all

  union-three : (k : ℕ) → union (union (word_in d k 0) (word_in d k 1)) (word_in d k 2) ≡ union_in d k
  unfolding union_in union_of union
  union-three k = rw (or_zero_l (word_in d k 0))

  union-four : (in_all (in_shard (at 0) (at 1) (at 2)) (in_shard (at 3) (at 4) (at 5)) (in_shard (at 6) (at 7) (at 8)) (in_shard (at 9) (at 10) (at 11))).union ≡ unions d
  unfolding word_in
  union-four = rw (← union-three 0, ← union-three 1, ← union-three 2, ← union-three 3)

  pub words-four : in_all (in_shard (at 0) (at 1) (at 2)) (in_shard (at 3) (at 4) (at 5)) (in_shard (at 6) (at 7) (at 8)) (in_shard (at 9) (at 10) (at 11)) ≡ words_of d
  words-four = rw (equal-four, union-four)
