-- What the counted answers say, in document 01's words and both ways: equal words within each shard, the union of the words, and an accepted set. Assumes nothing.
use mathlib.Core.Path.{◌≡◌, refl, sym}
use mathlib.Core.Logic.{◌↔◌}
use mathlib.Core.Bool.{Bool, true, false, cond}
use Prim.Native.Nat.{ℕ, zero, suc, ◌+◌, ◌*◌, ◌≤◌}
use native.Mathlib.Omega.{arith}
use Rattle.masks.specs.Bits.{In}
use Rattle.masks.proofs.Bools.{true_and_false}
use Rattle.masks.proofs.Laws.{in_has, has-none}
use Rattle.masks.proofs.FoldLaws.{in_unions, in_unions_of}
use Rattle.rules.specs.Sets.{word}
use Rattle.rules.proofs.SetLaws.{word_of}
use Rattle.wire.proofs.FaultsAre.{There, there_is}
use Rattle.drive.specs.declared.Drive.{Drive}
use Rattle.drive.specs.Held.{answer_at}
use Rattle.drive.specs.Decide.{has_word, has_accepted, word_there, agree, equal_in, equal_words, word_in, union_in, unions}
use Rattle.drive.proofs.Tests.{and_is, if_is, all_are, eq_is}
use Rattle.drive.proofs.AnswersAre.{Counted, counted_is}

module _ (d : Drive) where
  -- the answer of s is counted and has an arrival word, or an accepted set
  abbrev pub HasWord : ℕ → Type 0
  HasWord s = Counted d s × There (answer_at d s).arrival.some

  abbrev pub HasAccepted : ℕ → Type 0
  HasAccepted s = Counted d s × There (answer_at d s).accepted.some

  pub has_word_lem : (s : ℕ) → (has_word (answer_at d s) ≡ true) ↔ HasWord s
  has_word_lem s = and_is _ _ _ _ (counted_is d s) (there_is (answer_at d s).arrival.some)

  pub has-accepted : (s : ℕ) → (has_accepted (answer_at d s) ≡ true) ↔ HasAccepted s
  has-accepted s = and_is _ _ _ _ (counted_is d s) (there_is (answer_at d s).accepted.some)

  -- ---- "every answer has an arrival word and the words are equal within each shard"

  pub record EqualWords : Type 0 where
    pub words : (s : ℕ) → s ≤ 11 → Counted d s → There (answer_at d s).arrival.some
    pub equal : (k a b : ℕ) → k ≤ 3 → a ≤ 2 → b ≤ 2 → Counted d (3 * k + a) → Counted d (3 * k + b) → (answer_at d (3 * k + a)).arrival.word ≡ (answer_at d (3 * k + b)).arrival.word

  Agree : ℕ → ℕ → Type 0
  Agree s u = Counted d s × Counted d u → (answer_at d s).arrival.word ≡ (answer_at d u).arrival.word

  agree-is : (s u : ℕ) → (agree d s u ≡ true) ↔ Agree s u
  unfolding agree Agree
  agree-is s u = if_is _ _ _ _ (and_is _ _ _ _ (counted_is d s) (counted_is d u)) (eq_is (answer_at d s).arrival.word (answer_at d u).arrival.word)

  abbrev Three : ℕ → Type 0
  Three k = (Agree (3 * k + 0) (3 * k + 1) × Agree (3 * k + 0) (3 * k + 2)) × Agree (3 * k + 1) (3 * k + 2)

  three-is : (k : ℕ) → (equal_in d k ≡ true) ↔ Three k
  unfolding equal_in
  three-is k = and_is _ _ _ _ (and_is _ _ _ _ (agree-is (3 * k + 0) (3 * k + 1)) (agree-is (3 * k + 0) (3 * k + 2))) (agree-is (3 * k + 1) (3 * k + 2))

  -- any two of the three
  any-two : (k a b : ℕ) → Three k → a ≤ 2 → b ≤ 2 → Counted d (3 * k + a) → Counted d (3 * k + b) → (answer_at d (3 * k + a)).arrival.word ≡ (answer_at d (3 * k + b)).arrival.word
  unfolding Agree
  any-two k zero zero h l m p q = refl
  any-two k zero (suc zero) h l m p q = h.0.0 (p, q)
  any-two k zero (suc (suc zero)) h l m p q = h.0.1 (p, q)
  any-two k (suc zero) zero h l m p q = sym (h.0.0 (q, p))
  any-two k (suc zero) (suc zero) h l m p q = refl
  any-two k (suc zero) (suc (suc zero)) h l m p q = h.1 (p, q)
  any-two k (suc (suc zero)) zero h l m p q = sym (h.0.1 (q, p))
  any-two k (suc (suc zero)) (suc zero) h l m p q = sym (h.1 (q, p))
  any-two k (suc (suc zero)) (suc (suc zero)) h l m p q = refl
  any-two k (suc (suc (suc a))) b h l m p q = absurd (omega arith)
  any-two k zero (suc (suc (suc b))) h l m p q = absurd (omega arith)
  any-two k (suc zero) (suc (suc (suc b))) h l m p q = absurd (omega arith)
  any-two k (suc (suc zero)) (suc (suc (suc b))) h l m p q = absurd (omega arith)

  word-there : (s : ℕ) → (word_there d s ≡ true) ↔ (Counted d s → HasWord s)
  unfolding word_there
  word-there s = if_is _ _ _ _ (counted_is d s) (has_word_lem s)

  pub equal_words_lem : (equal_words d ≡ true) ↔ EqualWords
  unfolding equal_words Agree
  equal_words_lem =
      let both = and_is _ _ _ _ (all_are (λ s. Counted d s → HasWord s) (word_there d) 11 word-there) (all_are Three (equal_in d) 3 three-is) in (
        λ e. let h = both.0 e in record { words = λ s l c. (h.0 s l c).1; equal = λ k a b l m n p q. any-two k a b (h.1 k l) m n p q },
        λ h.
            both.1 (
              λ s l c. (c, h.words s l c),
              λ k l. (
                (λ c. h.equal k 0 1 l (omega arith) (omega arith) c.0 c.1, λ c. h.equal k 0 2 l (omega arith) (omega arith) c.0 c.1),
                λ c. h.equal k 1 2 l (omega arith) (omega arith) c.0 c.1,
              ),
            ),
      )

  -- ---- "the union per shard of the counted words"

  -- one of the three servers of shard k is counted with u in its word
  pub record Said (k u : ℕ) : Type 0 where
    pub replica : ℕ
    pub number : replica ≤ 2
    pub word : HasWord (3 * k + replica)
    pub in_word : In (answer_at d (3 * k + replica)).arrival.word u

  word-in : (k r u : ℕ) → In (word_in d k r) u ↔ (HasWord (3 * k + r) × In (answer_at d (3 * k + r)).arrival.word u)
  unfolding word_in
  word-in k r u = (λ i. go (has_word (answer_at d (3 * k + r))) refl i, λ h. rw ((has_word_lem (3 * k + r)).1 h.0) h.1)
    where
      go : (b : Bool) → has_word (answer_at d (3 * k + r)) ≡ b → In (cond b (answer_at d (3 * k + r)).arrival.word 0) u → HasWord (3 * k + r) × In (answer_at d (3 * k + r)).arrival.word u
      go true e i = ((has_word_lem (3 * k + r)).0 e, i)
      go false e i = absurd (true_and_false (in_has i) (has-none u))

  pub union-is : (k u : ℕ) → k ≤ 3 → In (word (unions d) k) u ↔ Said k u
  unfolding union_in
  union-is k u l =
      let own : word (unions d) k ≡ union_in d k = word_of (union_in d) k (omega arith) in (
        λ i.
            let f = in_unions (word_in d k) 3 u (rw own at i) in
            let g = (word-in k f.0 u).0 f.2 in
            record { replica = f.0; number = omega (arith, f.1); word = g.0; in_word = g.1 },
        λ h. rw own (in_unions_of (word_in d k) 3 u h.replica (omega (arith, h.number)) ((word-in k h.replica u).1 (h.word, h.in_word))),
      )
