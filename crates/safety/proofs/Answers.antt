-- What the answers that a drive has counted say together: a majority in each shard, and the union of the words. Assumes nothing.
use mathlib.Core.Path.{◌≡◌, refl, sym, ◌∙◌, subst}
use mathlib.Core.Logic.{◌⊎◌, inl, inr}
use mathlib.Core.Bool.{Bool, true, false}
use Prim.Native.Nat.{ℕ, zero, suc, ◌+◌, ◌*◌, ◌/◌, ◌^◌, ◌<◌}
use native.Mathlib.Omega.{arith}
use lib.Dec.{lit<}
use lib.Pow.{pow_pos}
use lib.Bits.{or_zero_l, or_zero_r, or_self}
use Rattle.masks.specs.Bits.{In, has, union}
use Rattle.masks.specs.Folds.{union_of}
use Rattle.masks.proofs.FoldLaws.{in_unions_of, unions_bound}
use Rattle.rules.specs.Cluster.{server_of}
use Rattle.rules.specs.Sets.{word}
use Rattle.drive.specs.declared.Drive.{Drive}
use Rattle.drive.specs.Held.{answer_at, counted, touched}
use Rattle.drive.specs.Decide.{all_answered, two_in_each, has_word, equal_words, word_in, union_in, unions}
use Rattle.rules.proofs.SetLaws.{word_of}
use Rattle.drive.proofs.QuorumOfTwo.{shard_below, quorum_of_two}
use Rattle.drive.proofs.FastPath.{everyone, equal_word, agreed, Equals, equals}
use Rattle.safety.proofs.Quorum.{Maj, m01, m02, m12, All3, InShard, i0, i1, i2}

-- three words that are w or nothing, and one that is w
or_left : (w a b : ℕ) → a ≡ w → (b ≡ w) ⊎ (b ≡ 0) → union a b ≡ w
unfolding union
or_left w a b p (inl q) = rw (p, q) (or_self w)
or_left w a b p (inr q) = rw (p, q) (or_zero_r w)

or_right : (w a b : ℕ) → (a ≡ w) ⊎ (a ≡ 0) → b ≡ w → union a b ≡ w
unfolding union
or_right w a b (inl p) q = rw (p, q) (or_self w)
or_right w a b (inr p) q = rw (p, q) (or_zero_l w)

or_either : (w a b : ℕ) → (a ≡ w) ⊎ (a ≡ 0) → (b ≡ w) ⊎ (b ≡ 0) → (union a b ≡ w) ⊎ (union a b ≡ 0)
or_either w a b (inl p) q = inl (or_left w a b p q)
or_either w a b (inr p) (inl q) = inl (or_right w a b (inr p) q)
or_either w a b (inr p) (inr q) = inr (or_left 0 a b p (inl q))

one_word : (w a b c : ℕ) → (a ≡ w) ⊎ (a ≡ 0) → (b ≡ w) ⊎ (b ≡ 0) → (c ≡ w) ⊎ (c ≡ 0) → (a ≡ w) ⊎ ((b ≡ w) ⊎ (c ≡ w)) → union (union (union 0 a) b) c ≡ w
one_word w a b c p q r (inl e) = or_left w (union (union 0 a) b) c (or_left w (union 0 a) b (or_right w 0 a (inr refl) e) q) r
one_word w a b c p q r (inr (inl e)) = or_left w (union (union 0 a) b) c (or_right w (union 0 a) b (or_either w 0 a (inr refl) p) e) r
one_word w a b c p q r (inr (inr e)) = or_right w (union (union 0 a) b) c (or_either w (union 0 a) b (or_either w 0 a (inr refl) p) q) e

module _ (d : Drive) where
  abbrev pub Counted : ℕ → Type 0
  Counted s = counted d s ≡ true

  pub two-maj : two_in_each d ≡ true → (k : ℕ) → has (touched d) k ≡ true → Maj k (λ s. counted d s ≡ true)
  two-maj e k t = let q = quorum_of_two d e k t in go q.one q.other q.different q.replicas q.one_holds q.other-holds
    where
      go : (a b : ℕ) → a < b → b < 3 → counted d (server_of k a) ≡ true → counted d (server_of k b) ≡ true → Maj k (λ s. counted d s ≡ true)
      go zero zero l r p q = absurd (omega arith)
      go zero (suc zero) l r p q = m01 p q
      go zero (suc (suc zero)) l r p q = m02 p q
      go zero (suc (suc (suc b))) l r p q = absurd (omega arith)
      go (suc zero) zero l r p q = absurd (omega arith)
      go (suc zero) (suc zero) l r p q = absurd (omega arith)
      go (suc zero) (suc (suc zero)) l r p q = m12 p q
      go (suc zero) (suc (suc (suc b))) l r p q = absurd (omega arith)
      go (suc (suc a)) b l r p q = absurd (omega arith)

  in-shard-of : (k r : ℕ) → r < 3 → (3 * k + r) / 3 ≡ k
  in-shard-of k r l = omega arith

  counted-at : all_answered d ≡ true → (k r : ℕ) → k < 4 → r < 3 → has (touched d) k ≡ true → counted d (server_of k r) ≡ true
  counted-at e k r l q t = everyone d e (server_of k r) (omega arith) (subst (λ n. has (touched d) n ≡ true) (sym (in-shard-of k r q)) t)

  pub all_three : all_answered d ≡ true → (k : ℕ) → has (touched d) k ≡ true → All3 k (λ s. counted d s ≡ true)
  all_three e k t =
      let l = shard_below d.pieces k t in
      record { a0 = counted-at e k 0 l (lit< tt) t; a1 = counted-at e k 1 l (lit< tt) t; a2 = counted-at e k 2 l (lit< tt) t }

  -- ---- the union of the words

  word-unions : (k : ℕ) → k < 4 → word (unions d) k ≡ union_in d k
  word-unions k l = word_of (union_in d) k l

  word_at_lem : (k r : ℕ) → has_word (answer_at d (server_of k r)) ≡ true → word_in d k r ≡ (answer_at d (server_of k r)).arrival.word
  unfolding word_in
  word_at_lem k r e = rw e

  no-word-at : (k r : ℕ) → has_word (answer_at d (server_of k r)) ≡ false → word_in d k r ≡ 0
  unfolding word_in
  no-word-at k r e = rw e

  pub replica : (k s : ℕ) → InShard k s → (r : ℕ) × (r < 3) × (s ≡ server_of k r)
  replica k s (i0 e) = (0, lit< tt, e)
  replica k s (i1 e) = (1, lit< tt, e)
  replica k s (i2 e) = (2, lit< tt, e)

  -- a counted word is in the union
  pub in_unions : (k s : ℕ) → k < 4 → InShard k s → has_word (answer_at d s) ≡ true → (i : ℕ) → In (answer_at d s).arrival.word i → In (word (unions d) k) i
  unfolding union_in
  in_unions k s l sh e i h =
      let q = replica k s sh in
      let e' : has_word (answer_at d (server_of k q.0)) ≡ true = subst (λ s. has_word (answer_at d s) ≡ true) q.2 e in
      subst (λ w. In w i) (sym (word-unions k l))
      (in_unions_of (word_in d k) 3 i q.0 q.1 (subst (λ w. In w i) (sym (word_at_lem k q.0 e')) (subst (λ s. In (answer_at d s).arrival.word i) q.2 h)))

  -- where all the counted words of a shard are w, so is the union
  pub unions-fixed : (k w : ℕ) → k < 4 → ((r : ℕ) → r < 3 → has_word (answer_at d (server_of k r)) ≡ true → (answer_at d (server_of k r)).arrival.word ≡ w) →
      (r : ℕ) → r < 3 → has_word (answer_at d (server_of k r)) ≡ true → word (unions d) k ≡ w
  unfolding union_in union_of
  unions-fixed k w l f r q e = word-unions k l ∙ one_word w (word_in d k 0) (word_in d k 1) (word_in d k 2) (each 0 (lit< tt)) (each 1 (lit< tt)) (each 2 (lit< tt)) (some r q e)
    where
      each : (r : ℕ) → r < 3 → (word_in d k r ≡ w) ⊎ (word_in d k r ≡ 0)
      each r q = go (has_word (answer_at d (server_of k r))) refl
        where
          go : (b : Bool) → has_word (answer_at d (server_of k r)) ≡ b → (word_in d k r ≡ w) ⊎ (word_in d k r ≡ 0)
          go true e = inl (word_at_lem k r e ∙ f r q e)
          go false e = inr (no-word-at k r e)

      some : (r : ℕ) → r < 3 → has_word (answer_at d (server_of k r)) ≡ true → (word_in d k 0 ≡ w) ⊎ ((word_in d k 1 ≡ w) ⊎ (word_in d k 2 ≡ w))
      some zero q e = inl (word_at_lem k 0 e ∙ f 0 q e)
      some (suc zero) q e = inr (inl (word_at_lem k 1 e ∙ f 1 q e))
      some (suc (suc zero)) q e = inr (inr (word_at_lem k 2 e ∙ f 2 q e))
      some (suc (suc (suc r))) q e = absurd (omega arith)

  -- where no word of a shard is counted, the union is nothing
  pub unions-none : (k : ℕ) → k < 4 → ((r : ℕ) → r < 3 → has_word (answer_at d (server_of k r)) ≡ false) → word (unions d) k ≡ 0
  unfolding union_in union_of union
  unions-none k l f = word-unions k l ∙ rw (no-word-at k 0 (f 0 (lit< tt)), no-word-at k 1 (f 1 (lit< tt)), no-word-at k 2 (f 2 (lit< tt)))

  -- the union of words of 64 digits has 64 digits
  pub unions-fit : (k : ℕ) → k < 4 → ((r : ℕ) → has_word (answer_at d (server_of k r)) ≡ true → (answer_at d (server_of k r)).arrival.word < 2 ^ 64) → word (unions d) k < 2 ^ 64
  unfolding union_in
  unions-fit k l f = subst (λ w. w < 2 ^ 64) (sym (word-unions k l)) (unions_bound (word_in d k) 3 64 (λ r q. each r (has_word (answer_at d (server_of k r))) refl))
    where
      each : (r : ℕ) (b : Bool) → has_word (answer_at d (server_of k r)) ≡ b → word_in d k r < 2 ^ 64
      each r true e = subst (λ w. w < 2 ^ 64) (sym (word_at_lem k r e)) (f r e)
      each r false e = subst (λ w. w < 2 ^ 64) (sym (no-word-at k r e)) (pow_pos 64)

  -- ---- equal words

  -- with all three counted and equal words, each is the union
  pub unions-each : equal_words d ≡ true → (k : ℕ) → k < 4 → All3 k (λ s. counted d s ≡ true) → All3 k (λ s. (answer_at d s).arrival.word ≡ word (unions d) k)
  unions-each e k l a =
      record { a0 = sym is0; a1 = sym (agreed d _ _ q.e01 a.a0 a.a1) ∙ sym is0; a2 = sym (agreed d _ _ q.e02 a.a0 a.a2) ∙ sym is0 }
    where
      q : Equals d k
      q = equals d e k l

      W : ℕ
      W = (answer_at d (server_of k 0)).arrival.word

      same : (r : ℕ) → r < 3 → has_word (answer_at d (server_of k r)) ≡ true → (answer_at d (server_of k r)).arrival.word ≡ W
      same zero h z = refl
      same (suc zero) h z = sym (agreed d _ _ q.e01 a.a0 a.a1)
      same (suc (suc zero)) h z = sym (agreed d _ _ q.e02 a.a0 a.a2)
      same (suc (suc (suc r))) h z = absurd (omega arith)

      is0 : word (unions d) k ≡ W
      is0 = unions-fixed k W l same 0 (lit< tt) (equal_word d e (server_of k 0) (omega arith) a.a0)
