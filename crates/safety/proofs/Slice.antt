-- One number's part of a cluster: what each server holds for it, and what was sent of it.
-- The facts below speak of arrival words, which never change once they are there, and of what was sent, which only grows. Assumes nothing.
use mathlib.Core.Path.{◌≡◌}
use mathlib.Core.Bool.{true, false}
use Prim.Native.Nat.{ℕ, ◌^◌, ◌≤◌, ◌<◌}
use Rattle.masks.specs.Bits.{In, has}
use Rattle.rules.specs.declared.Set.{Set}
use Rattle.rules.specs.declared.MaybeWord.{MaybeWord}
use Rattle.rules.specs.declared.MaybeVote.{MaybeVote}
use Rattle.rules.specs.Flags.{there}
use Rattle.rules.specs.Sets.{word}
use Rattle.safety.proofs.Quorum.{Maj, All3, InShard}

-- a holds the word w; o the ballot b and the set v
pub record Holds (a : MaybeWord) (w : ℕ) : Type 0 where
  pub some : there a.some ≡ true
  pub is : a.word ≡ w

pub record Votes (o : MaybeVote) (b : ℕ) (v : Set) : Type 0 where
  pub some : there o.some ≡ true
  pub at : o.ballot ≡ b
  pub is : o.set ≡ v

pub record Slice : Type 1 where
  pub promise : ℕ → ℕ
  pub arrival : ℕ → MaybeWord
  pub accepted : ℕ → MaybeVote
  -- was sent: Accept of ballot b and set v; by the server s AcceptOK of b, PreAcceptOK with the word w, PrepareOK of b
  pub Accept : ℕ → Set → Type 0
  pub AcceptOK : ℕ → ℕ → Type 0
  pub PreAcceptOK : ℕ → ℕ → Type 0
  pub PrepareOK : ℕ → ℕ → MaybeWord → MaybeVote → Type 0
  -- v is committed: in a Commit or Done that was sent, or at a server
  pub Commit : Set → Type 0

-- all of w is in u
pub record Sub (w u : ℕ) : Type 0 where
  pub all : (i : ℕ) → In w i → In u i

-- s holds an arrival word that is part of w
pub record Part (c : Slice) (w s : ℕ) : Type 0 where
  pub own : ℕ
  pub holds : Holds (c.arrival s) own
  pub part : Sub own w

-- touched is the word of the shards that the number touches
module _ (touched : ℕ) (c : Slice) where
  -- the set v covers the arrival words of two servers in each shard, is one of them where all of a shard are equal, and has words of 64 digits
  pub record Covers (v : Set) : Type 0 where
    pub parts : (k : ℕ) → has touched k ≡ true → Maj k (Part c (word v k))
    pub fixed : (k : ℕ) → has touched k ≡ true → (w : ℕ) → ((s w' : ℕ) → InShard k s → Holds (c.arrival s) w' → w' ≡ w) → word v k ≡ w
    pub outside : (k : ℕ) → k < 4 → has touched k ≡ false → word v k ≡ 0
    pub fits : (k : ℕ) → k < 4 → word v k < 2 ^ 64

  -- every server of each shard holds the word of v
  pub record Unanimous (v : Set) : Type 0 where
    pub each : (k : ℕ) → has touched k ≡ true → All3 k (λ s. Holds (c.arrival s) (word v k))
    pub outside : (k : ℕ) → k < 4 → has touched k ≡ false → word v k ≡ 0

  -- s answered Prepare b, and what it had accepted was at most at ballot m; or nothing
  pub record Prepared (b m s : ℕ) : Type 0 where
    pub a : MaybeWord
    pub o : MaybeVote
    pub said : c.PrepareOK s b a o
    pub below : there o.some ≡ true → o.ballot ≤ m

  pub record PreparedBare (b s : ℕ) : Type 0 where
    pub a : MaybeWord
    pub o : MaybeVote
    pub said : c.PrepareOK s b a o
    pub bare : there o.some ≡ false

  -- two servers of each shard had accepted nothing when they answered Prepare b
  pub record Free (b : ℕ) : Type 0 where
    pub bare : (k : ℕ) → has touched k ≡ true → Maj k (PreparedBare b)

  -- v may be proposed at the ballot b: nothing was accepted, or v at the highest ballot m that was
  pub data Justified (b : ℕ) (v : Set) : Type 0 where
    free : Free b → Justified b v
    highest : (m : ℕ) → m < b → c.Accept m v → ((k : ℕ) → has touched k ≡ true → Maj k (Prepared b m)) → Justified b v

  pub record Proposal (b : ℕ) (v : Set) : Type 0 where
    pub just : 0 < b → Justified b v
    pub covers : Covers v

  -- v was chosen: by all the words, or by the votes of two servers of a shard
  pub data Chosen (v : Set) : Type 0 where
    quick : Unanimous v → Chosen v
    voted : (b k : ℕ) → has touched k ≡ true → c.Accept b v → Maj k (λ s. c.AcceptOK s b) → Chosen v
