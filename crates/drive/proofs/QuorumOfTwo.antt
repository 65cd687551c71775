-- Document 01, "The drive": where two answers are needed in each of T's shards, they are those of two different servers of the shard; one answer is never taken for two. Assumes nothing.
use mathlib.Core.Path.{◌≡◌, refl}
use mathlib.Core.Bool.{Bool, true, false, cond, false≢true}
use Prim.Native.Nat.{ℕ, ◌+◌, ◌<◌}
use lib.Dec.{leb, lit<}
use Rattle.masks.proofs.Bools.{then_yes}
use Rattle.masks.specs.Bits.{has}
use Rattle.masks.specs.Folds.{count_below}
use Rattle.masks.proofs.FoldLaws.{all_at, mask_bound}
use Rattle.masks.proofs.Laws.{has_in, in_lt}
use Rattle.rules.specs.declared.Pieces.{Pieces}
use Rattle.rules.specs.Pieces.{shards_of, touches}
use Rattle.drive.specs.declared.Drive.{Drive}
use Rattle.drive.specs.Held.{touched}
use Rattle.drive.specs.Decide.{counted_in, two_in, two_in_each}

-- a touched shard is one of four
pub shard_below : (ps : Pieces) (k : ℕ) → has (shards_of ps) k ≡ true → k < 4
unfolding shards_of
shard_below ps k e = in_lt 4 (mask_bound (touches ps) 4) (has_in e)

-- two different replicas of which f holds
pub record Two (f : ℕ → Bool) : Type 0 where
  pub one : ℕ
  pub other : ℕ
  pub different : one < other
  pub replicas : other < 3
  pub one_holds : f one ≡ true
  pub other-holds : f other ≡ true

pub two_true : (f : ℕ → Bool) → leb 2 (count_below f 3) ≡ true → Two f
unfolding count_below
two_true f e = go (f 0) refl (f 1) refl (f 2) refl e
  where
    go : (a : Bool) → f 0 ≡ a → (b : Bool) → f 1 ≡ b → (c : Bool) → f 2 ≡ c →
        leb 2 (cond c (cond b (cond a (0 + 1) 0 + 1) (cond a (0 + 1) 0) + 1) (cond b (cond a (0 + 1) 0 + 1) (cond a (0 + 1) 0))) ≡ true → Two f
    go true p true q c r e = record { one = 0; other = 1; different = lit< tt; replicas = lit< tt; one_holds = p; other-holds = q }
    go true p false q true r e = record { one = 0; other = 2; different = lit< tt; replicas = lit< tt; one_holds = p; other-holds = r }
    go false p true q true r e = record { one = 1; other = 2; different = lit< tt; replicas = lit< tt; one_holds = q; other-holds = r }
    go true p false q false r e = absurd (false≢true e)
    go false p true q false r e = absurd (false≢true e)
    go false p false q true r e = absurd (false≢true e)
    go false p false q false r e = absurd (false≢true e)

-- in each shard that T touches, two of its three servers are counted
pub quorum_of_two : (d : Drive) → two_in_each d ≡ true → (k : ℕ) → has (touched d) k ≡ true → Two (counted_in d k)
unfolding two_in_each two_in
quorum_of_two d e k t =
    two_true (counted_in d k) (then_yes (has (touched d) k) (leb 2 (count_below (counted_in d k) 3)) (all_at (two_in d) 4 k e (shard_below d.pieces k t)) t)

-- all three are more than two
pub three-count : (f : ℕ → Bool) → f 0 ≡ true → f 1 ≡ true → f 2 ≡ true → leb 2 (count_below f 3) ≡ true
unfolding count_below
three-count f a b c = rw (a, b, c)
