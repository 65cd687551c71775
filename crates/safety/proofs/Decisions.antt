-- Each decision of a drive, made with two answers in each shard, rests on what it needs. Assumes nothing.
use mathlib.Core.Path.{◌≡◌, refl, sym, ◌∙◌, ap, subst}
use mathlib.Core.Logic.{◌⊎◌, inl, inr}
use mathlib.Core.Bool.{Bool, true, false, cond, ◌&&◌}
use Prim.Native.Nat.{ℕ, zero, suc, ◌≤◌, ◌<◌}
use mathlib.Core.List.{List}
use native.Mathlib.Omega.{arith}
use native.Mathlib.Decide.{ℕ_discrete}
use borrow.Author.Tests.{eqb-true, eqb-false, lt-ltb}
use lib.Dec.{eqb, ltb}
use lib.ListN.{length, get_or}
use Rattle.masks.specs.Bits.{has}
use Rattle.masks.proofs.Bools.{and_yes, and_yes-l, and_yes_r, and_no, true_and_false, not_true_false}
use Rattle.rules.specs.declared.Set.{Set}
use Rattle.rules.specs.Flags.{there}
use Rattle.rules.specs.Cluster.{server_of, shard_of}
use Rattle.rules.specs.Pieces.{pieces_kept, shards_of}
use Rattle.rules.specs.Sets.{word}
use Rattle.drive.specs.declared.Answer.{Answer}
use Rattle.drive.specs.declared.Drive.{Drive}
use Rattle.drive.specs.Held.{no_answer, no_answers, answer_at, counted, touched, to_phase, to_phase1}
use Rattle.drive.specs.Decide.{all_answered, two_in_each, has_word, has_accepted, equal_words, unions, highest, decide0, decide1, decide2, decide}
use Rattle.drive.proofs.DecideKeepsForm.{nobody as nobody-counted, some-touched}
use Rattle.drive.proofs.QuorumOfTwo.{shard_below}
use Rattle.drive.proofs.FastPath.{equal_word}
use Rattle.drive.proofs.HighestAccepted.{High, nobody, somebody, high_is}
use Rattle.safety.specs.Cluster.{World, Cluster}
use Rattle.safety.proofs.Quorum.{Maj, All3, InShard, i0, i1, i2, maj_in, maj_map, maj_one}
use Rattle.safety.proofs.Slice.{Slice, Holds, Votes, Covers, Unanimous, Prepared, Free, free, highest as at-highest, Proposal, Chosen, quick, voted}
use Rattle.safety.proofs.Agreement.{Lawful}
use Rattle.safety.proofs.View.{slice_of, touched_of}
use Rattle.safety.proofs.Answers.{two-maj, all_three, in_unions, unions-fixed, unions-none, unions-fit, unions-each, replica}
use Rattle.safety.proofs.DriveIn.{Stage, DriveIn}

module _ (w : World) (c : Cluster) (d : Drive) (di : DriveIn w c d) (lw : Lawful (touched_of w d.t) (slice_of c d.t)) (kept : pieces_kept d.pieces ≡ true) (two : two_in_each d ≡ true) where
  abbrev A : Slice
  A = slice_of c d.t

  abbrev T : ℕ
  T = touched_of w d.t

  same-touched : touched d ≡ T
  same-touched = ap shards_of di.named

  touch : (k : ℕ) → has T k ≡ true → has (touched d) k ≡ true
  touch k t = subst (λ n. has n k ≡ true) (sym same-touched) t

  majority : (k : ℕ) → has T k ≡ true → Maj k (λ s. counted d s ≡ true)
  majority k t = two-maj d two k (touch k t)

  counted-small : (s : ℕ) → counted d s ≡ true → s < 12
  counted-small s q = let l = shard_below d.pieces (shard_of s) (di.own s q) in omega arith

  -- ---- what the words cover

  module _ (told : (s : ℕ) → counted d s ≡ true → has_word (answer_at d s) ≡ true) (true-word : (s : ℕ) → counted d s ≡ true → Holds (A.arrival s) (answer_at d s).arrival.word) where
    word-counted : (s : ℕ) → has_word (answer_at d s) ≡ true → counted d s ≡ true
    word-counted s e = and_yes-l (counted d s) (there (answer_at d s).arrival.some) e

    outside : (k : ℕ) → k < 4 → has T k ≡ false → word (unions d) k ≡ 0
    outside k l t = unions-none d k l (λ r q. not_true_false (has_word (answer_at d (server_of k r))) (λ e. true_and_false (at r q (di.own (server_of k r) (word-counted (server_of k r) e))) t))
      where
        at : (r : ℕ) → r < 3 → has (touched d) (shard_of (server_of k r)) ≡ true → has T k ≡ true
        at r q h = subst (λ n. has T n ≡ true) (omega arith) (subst (λ n. has n (shard_of (server_of k r)) ≡ true) same-touched h)

    replica-in : (k r : ℕ) → r < 3 → InShard k (server_of k r)
    replica-in k zero l = i0 refl
    replica-in k (suc zero) l = i1 refl
    replica-in k (suc (suc zero)) l = i2 refl
    replica-in k (suc (suc (suc r))) l = absurd (omega arith)

    unions-cover : Covers T A (unions d)
    unions-cover = record {
      parts = λ k t. maj_in (λ s i q. record { own = (answer_at d s).arrival.word; holds = true-word s q; part = record { all = in_unions d k s (shard_below (w.pieces d.t) k t) i (told s q) } }) (majority k t);
      fixed = fixed;
      outside = outside;
      fits = λ k l. unions-fit d k l (λ r e. lw.fit.each _ _ (true-word (server_of k r) (word-counted (server_of k r) e)));
    }
      where
        fixed : (k : ℕ) → has T k ≡ true → (w : ℕ) → ((s w' : ℕ) → InShard k s → Holds (A.arrival s) w' → w' ≡ w) → word (unions d) k ≡ w
        fixed k t u f =
            let m = maj_one (majority k t) in
            let r = replica d k m.0 m.1 in
            unions-fixed d k u (shard_below (w.pieces d.t) k t)
            (λ r q e. f (server_of k r) _ (replica-in k r q) (true-word (server_of k r) (word-counted (server_of k r) e)))
            r.0 r.1 (subst (λ s. has_word (answer_at d s) ≡ true) r.2 (told m.0 m.2))

    unanimous : all_answered d ≡ true → equal_words d ≡ true → Unanimous T A (unions d)
    unanimous a e = record { each = each; outside = outside }
      where
        at : (k s : ℕ) → counted d s ≡ true → (answer_at d s).arrival.word ≡ word (unions d) k → Holds (A.arrival s) (word (unions d) k)
        at k s q z = subst (Holds (A.arrival s)) z (true-word s q)

        each : (k : ℕ) → has T k ≡ true → All3 k (λ s. Holds (A.arrival s) (word (unions d) k))
        each k t =
            let n = all_three d a k (touch k t) in
            let u = unions-each d e k (shard_below (w.pieces d.t) k t) n in
            record { a0 = at k _ n.a0 u.a0; a1 = at k _ n.a1 u.a1; a2 = at k _ n.a2 u.a2 }

  -- ---- the drive after a decision

  decided-in : (e : Drive) → e.t ≡ d.t → e.pieces ≡ d.pieces → e.answers ≡ no_answers → Stage (touched_of w e.t) (slice_of c e.t) e → DriveIn w c e
  decided-in e et ep ea st = record {
    named = ep ∙ di.named ∙ ap w.pieces (sym et);
    places = ap length ea;
    own = λ s q. absurd (true_and_false q (none s));
    heard = λ s q. absurd (true_and_false q (none s));
    stage = st;
  }
    where
      none : (s : ℕ) → counted e s ≡ false
      none s = subst (λ (l : List Answer). there (get_or l s no_answer).counted ≡ false) (sym ea) (nobody-counted s)

  to2 : (v : Set) → Proposal T A d.ballot v → ((u : Set) → A.Accept d.ballot u → u ≡ v) → DriveIn w c (to_phase 2 d v)
  to2 v p a = decided-in (to_phase 2 d v) refl refl refl (record {
    early = λ l. absurd (omega arith);
    free = λ e. absurd (omega arith);
    proposed = λ e. p;
    alone = λ e. a;
    chosen = λ e. absurd (omega arith);
  })

  to3 : (v : Set) → Chosen T A v → DriveIn w c (to_phase 3 d v)
  to3 v p = decided-in (to_phase 3 d v) refl refl refl (record {
    early = λ l. absurd (omega arith);
    free = λ e. absurd (omega arith);
    proposed = λ e. absurd (omega arith);
    alone = λ e. absurd (omega arith);
    chosen = λ e. p;
  })

  -- ---- phase 0

  module _ (ph : d.phase ≡ 0) where
    unproposed : (v : Set) → A.Accept d.ballot v → ⊥
    unproposed = di.stage.early (omega arith)

    to1 : Free T A d.ballot → DriveIn w c (to_phase1 d)
    to1 f = decided-in (to_phase1 d) refl refl refl (record {
      early = λ l. unproposed;
      free = λ e p. f;
      proposed = λ e. absurd (omega arith);
      alone = λ e. absurd (omega arith);
      chosen = λ e. absurd (omega arith);
    })

    bare : (s : ℕ) → counted d s ≡ true → has_accepted (answer_at d s) ≡ false → there (answer_at d s).accepted.some ≡ false
    bare s q e = go (and_no (counted d s) (there (answer_at d s).accepted.some) e)
      where
        go : (counted d s ≡ false) ⊎ (there (answer_at d s).accepted.some ≡ false) → there (answer_at d s).accepted.some ≡ false
        go (inl z) = absurd (true_and_false q z)
        go (inr z) = z

    all-bare : ((s : ℕ) → s < 12 → has_accepted (answer_at d s) ≡ false) → Free T A d.ballot
    all-bare f = record { bare = λ k t. maj_map (λ s q. record { a = (answer_at d s).arrival; o = (answer_at d s).accepted; said = (di.heard s q).prepared ph; bare = bare s q (f s (counted-small s q)) }) (majority k t) }

    equal-in : ((s : ℕ) → s < 12 → has_accepted (answer_at d s) ≡ false) → equal_words d ≡ true → DriveIn w c (to_phase 2 d (unions d))
    equal-in f e = to2 (unions d) (record { just = λ p. free (all-bare f); covers = unions-cover told held }) (λ u a. absurd (unproposed u a))
      where
        told : (s : ℕ) → counted d s ≡ true → has_word (answer_at d s) ≡ true
        told s q = equal_word d e s (counted-small s q) q

        held : (s : ℕ) → counted d s ≡ true → Holds (A.arrival s) (answer_at d s).arrival.word
        held s q = (lw.promises.each s d.ballot _ _ ((di.heard s q).prepared ph)).arrived _ (record { some = and_yes_r (counted d s) (there (answer_at d s).arrival.some) (told s q); is = refl })

    high-in : (best : ℕ) → best < 12 → has_accepted (answer_at d best) ≡ true →
        ((s : ℕ) → s < 12 → has_accepted (answer_at d s) ≡ true → (answer_at d s).accepted.ballot ≤ (answer_at d best).accepted.ballot) → DriveIn w c (to_phase 2 d (answer_at d best).accepted.set)
    high-in best l e f = to2 (answer_at d best).accepted.set (record { just = λ p. at-highest (answer_at d best).accepted.ballot lower asked rest; covers = (lw.proposals.sound (answer_at d best).accepted.ballot (answer_at d best).accepted.set asked).covers }) (λ u a. absurd (unproposed u a))
      where
        q : counted d best ≡ true
        q = and_yes-l (counted d best) (there (answer_at d best).accepted.some) e

        vote : Votes (answer_at d best).accepted (answer_at d best).accepted.ballot (answer_at d best).accepted.set
        vote = record { some = and_yes_r (counted d best) (there (answer_at d best).accepted.some) e; at = refl; is = refl }

        asked : A.Accept (answer_at d best).accepted.ballot (answer_at d best).accepted.set
        asked = (lw.promises.each best d.ballot _ _ ((di.heard best q).prepared ph)).asked _ _ vote

        lower : (answer_at d best).accepted.ballot < d.ballot
        lower = go (ℕ_discrete (answer_at d best).accepted.ballot d.ballot)
          where
            go : Dec ((answer_at d best).accepted.ballot ≡ d.ballot) → (answer_at d best).accepted.ballot < d.ballot
            go (yes z) = absurd (unproposed (answer_at d best).accepted.set (subst (λ b. A.Accept b (answer_at d best).accepted.set) z asked))
            go (no z) = omega (arith, (lw.promises.each best d.ballot _ _ ((di.heard best q).prepared ph)).below _ _ vote)

        rest : (k : ℕ) → has T k ≡ true → Maj k (Prepared T A d.ballot (answer_at d best).accepted.ballot)
        rest k t = maj_map (λ s r. record { a = (answer_at d s).arrival; o = (answer_at d s).accepted; said = (di.heard s r).prepared ph; below = λ z. f s (counted-small s r) (and_yes (counted d s) (there (answer_at d s).accepted.some) r z) }) (majority k t)

    decide0-in : DriveIn w c (decide0 d (highest d) (equal_words d))
    unfolding decide0
    decide0-in = go (high_is d) (equal_words d) refl
      where
        go : High d 12 (highest d) → (g : Bool) → equal_words d ≡ g → DriveIn w c (cond (ltb (highest d) 12) (to_phase 2 d (answer_at d (highest d)).accepted.set) (cond g (to_phase 2 d (unions d)) (to_phase1 d)))
        go (somebody h) g z = subst (λ (b : Bool). DriveIn w c (cond b (to_phase 2 d (answer_at d (highest d)).accepted.set) (cond g (to_phase 2 d (unions d)) (to_phase1 d)))) (sym (lt-ltb (highest d) 12 h.below)) (high-in (highest d) h.below h.holds h.most)
        go (nobody e f) g z = subst (λ n. DriveIn w c (cond (ltb n 12) (to_phase 2 d (answer_at d n).accepted.set) (cond g (to_phase 2 d (unions d)) (to_phase1 d)))) (sym e) (pick g z)
          where
            pick : (g : Bool) → equal_words d ≡ g → DriveIn w c (cond g (to_phase 2 d (unions d)) (to_phase1 d))
            pick true z = equal-in f z
            pick false z = to1 (all-bare f)

  -- ---- phase 1

  module _ (ph : d.phase ≡ 1) where
    told1 : (s : ℕ) → counted d s ≡ true → has_word (answer_at d s) ≡ true
    told1 s q = and_yes (counted d s) (there (answer_at d s).arrival.some) q ((di.heard s q).worded ph)

    held1 : (s : ℕ) → counted d s ≡ true → Holds (A.arrival s) (answer_at d s).arrival.word
    held1 s q = lw.words.each s _ ((di.heard s q).pre_accepted ph)

    decide1-in : DriveIn w c (decide1 d (eqb d.ballot 0) (all_answered d) (equal_words d))
    unfolding decide1
    decide1-in = go (eqb d.ballot 0 && all_answered d && equal_words d) refl
      where
        go : (g : Bool) → (eqb d.ballot 0 && all_answered d && equal_words d) ≡ g → DriveIn w c (cond g (to_phase 3 d (unions d)) (to_phase 2 d (unions d)))
        go true e = to3 (unions d) (quick (unanimous told1 held1 (and_yes_r (eqb d.ballot 0) (all_answered d) (and_yes-l (eqb d.ballot 0 && all_answered d) (equal_words d) e)) (and_yes_r (eqb d.ballot 0 && all_answered d) (equal_words d) e)))
        go false e = to2 (unions d) (record { just = λ p. free (di.stage.free ph p); covers = unions-cover told1 held1 }) (λ u a. absurd (di.stage.early (omega arith) u a))

  -- ---- phase 2

  decide2-in : d.phase ≡ 2 → DriveIn w c (decide2 d)
  unfolding decide2
  decide2-in ph = to3 d.chosen.set (voted d.ballot t.0 (subst (λ n. has n t.0 ≡ true) same-touched t.2) asked votes)
    where
      t : (k : ℕ) × (k < 4) × (has (shards_of d.pieces) k ≡ true)
      t = some-touched d.pieces kept

      votes : Maj t.0 (λ s. A.AcceptOK s d.ballot)
      votes = maj_map (λ s q. (di.heard s q).accepted ph) (two-maj d two t.0 t.2)

      asked : A.Accept d.ballot d.chosen.set
      asked = let v = lw.votes.each _ _ (maj_one votes).2 in subst (A.Accept d.ballot) (di.stage.alone ph v.proposed v.asked) v.asked

  pub decide-in : d.phase < 3 → DriveIn w c (decide d)
  unfolding decide
  decide-in l = go (eqb d.phase 0) refl (eqb d.phase 1) refl
    where
      go : (a : Bool) → eqb d.phase 0 ≡ a → (b : Bool) → eqb d.phase 1 ≡ b → DriveIn w c (cond a (decide0 d (highest d) (equal_words d)) (cond b (decide1 d (eqb d.ballot 0) (all_answered d) (equal_words d)) (decide2 d)))
      go true e b e' = decide0-in (eqb-true d.phase 0 e)
      go false e true e' = decide1-in (eqb-true d.phase 1 e')
      go false e false e' = decide2-in (omega (arith, eqb-false d.phase 0 e, eqb-false d.phase 1 e'))
