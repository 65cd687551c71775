-- A drive in form decides to a drive in form: a new phase begins with no answers, and with a set that keeps rule 3. Assumes nothing.
use mathlib.Core.Path.{◌≡◌, refl, sym, ◌∙◌, ap, subst}
use mathlib.Core.Bool.{Bool, true, false, not, cond, ◌&&◌}
use mathlib.Core.List.{List}
use Prim.Native.Nat.{ℕ, zero, suc, ◌≤◌, ◌<◌}
use native.Mathlib.Omega.{arith}
use borrow.Author.Tests.{eqb-true, eq-eqb, lt-ltb, le-leb}
use lib.Dec.{eqb, ltb, leb, lit≤}
use lib.ListN.{get_or, replicate}
use Rattle.masks.specs.Bits.{In, has, none, union}
use Rattle.masks.specs.Folds.{count_below, union_of}
use Rattle.masks.proofs.Bools.{and_yes, and_yes-l, and_yes_r, or_yes_r, not_yes, true_and_false, then_yes, yes_then}
use Rattle.masks.proofs.Laws.{has_in, in_has, not_has, in_lt, not_in_none}
use Rattle.masks.proofs.FoldLaws.{in_unions, unions_cong, no_all, mask_bound}
use Rattle.rules.specs.declared.Pieces.{Pieces}
use Rattle.rules.specs.declared.Set.{Set}
use Rattle.rules.specs.Flags.{there, implies}
use Rattle.rules.specs.Cluster.{server_of, bad_number, bad_coordinator}
use Rattle.rules.specs.Ballots.{bad_ballot, may_use}
use Rattle.rules.specs.Pieces.{pieces_kept, shards_of}
use Rattle.rules.specs.Sets.{bad_set}
use Rattle.rules.proofs.PiecesKept.{kept-is, kept-touches, kept-has-shard}
use Rattle.rules.proofs.SetLaws.{WordKept, kept_set, word_of}
use Rattle.drive.specs.declared.Answer.{Answer}
use Rattle.drive.specs.declared.Drive.{Drive}
use Rattle.drive.specs.Held.{no_answer, no_answers, answer_at, counted, touched, addressed, to_phase, to_phase1}
use Rattle.drive.specs.Decide.{answered, all_answered, two_in, two_in_each, decided, has_word, has_accepted, word_in, union_in, unions, highest, decide}
use Rattle.drive.specs.Form.{numbers_formed, ballots_formed, word_formed, accepted_formed, answer_formed, too_few, set_formed}
use Rattle.drive.proofs.FormParts.{Formed}
use Rattle.drive.proofs.Decided.{Decision, highest2, equal2, again1, quick3, union2, voted3, decision}
use Rattle.drive.proofs.HighestAccepted.{highest-accepted}

-- ---- with no answers counted

pub nobody : (s : ℕ) → there (get_or no_answers s no_answer).counted ≡ false
nobody s = ap (λ (a : Answer). there a.counted) (go 12 s)
  where
    go : (n s : ℕ) → get_or (replicate n no_answer) s no_answer ≡ no_answer
    go zero s = refl
    go (suc n) zero = refl
    go (suc n) (suc s) = go n s

-- a transaction touches some shard
pub some-touched : (ps : Pieces) → pieces_kept ps ≡ true → (k : ℕ) × (k < 4) × (has (shards_of ps) k ≡ true)
unfolding shards_of
some-touched ps e =
    let k = kept-is ps e in
    let h = kept-has-shard ps k _ (kept-touches ps k 0 (let z = k.some in omega arith)) in
    (_, in_lt 4 (mask_bound _ 4) (has_in h), h)

module _ (d : Drive) (ea : d.answers ≡ no_answers) (kept : pieces_kept d.pieces ≡ true) where
  nobody-counted : (s : ℕ) → counted d s ≡ false
  nobody-counted s = subst (λ (l : List Answer). there (get_or l s no_answer).counted ≡ false) (sym ea) (nobody s)

  pub no-answers : (s : ℕ) → s < 12 → answer_formed d s ≡ true
  unfolding answer_formed
  no-answers s l = yes_then (counted d s) _ (λ h. absurd (true_and_false h (nobody-counted s)))

  not-two : two_in_each d ≡ false
  unfolding two_in_each two_in count_below
  not-two =
      let t = some-touched d.pieces kept in
      no_all (two_in d) 4 t.0 t.1
      (rw (t.2, nobody-counted (server_of t.0 0), nobody-counted (server_of t.0 1), nobody-counted (server_of t.0 2)))

  not_all : all_answered d ≡ false
  unfolding all_answered answered
  not_all =
      let t = some-touched d.pieces kept in
      let k = t.0 in
      let l = t.1 in
      no_all (answered d) 12 (server_of k 0) (omega arith)
      (no-then (addressed (touched d) (server_of k 0)) (counted d (server_of k 0)) (subst (λ n. has (touched d) n ≡ true) (omega arith) t.2) (nobody-counted (server_of k 0)))
    where
      no-then : (a b : Bool) → a ≡ true → b ≡ false → implies a b ≡ false
      no-then a b p q = cc

  pub few : too_few d ≡ true
  unfolding too_few decided
  few = or_yes_r (eqb d.phase 3) (not (decided d)) (ap not (go (eqb d.phase 2)))
    where
      go : (b : Bool) → cond b (two_in_each d) (all_answered d) ≡ false
      go true = not-two
      go false = not_all

-- ---- a drive in form but for the number of its answers

pub record Loose (d : Drive) : Type 0 where
  pub numbers : numbers_formed d ≡ true
  pub pieces : pieces_kept d.pieces ≡ true
  pub ballots : ballots_formed d ≡ true
  pub answers : (s : ℕ) → s < 12 → answer_formed d s ≡ true
  pub set : set_formed d ≡ true

pub loosen : {d : Drive} → Formed d → Loose d
loosen f = record { numbers = f.numbers; pieces = f.pieces; ballots = f.ballots; answers = f.answers; set = f.set }

-- ---- what an answer in form says

pub record AnswerForm (d : Drive) (s : ℕ) : Type 0 where
  pub own : addressed (touched d) s ≡ true
  pub word : d.phase < 2 → has_word (answer_at d s) ≡ true → has (answer_at d s).arrival.word d.t ≡ false
  pub set : d.phase ≡ 0 → has_accepted (answer_at d s) ≡ true → bad_set d.t (touched d) (answer_at d s).accepted.set ≡ false

answer_parts : (d : Drive) (s : ℕ) → answer_formed d s ≡ true → counted d s ≡ true → AnswerForm d s
unfolding answer_formed word_formed accepted_formed
answer_parts d s e h =
    let W = word_formed d.t d.phase (answer_at d s) in
    let X = accepted_formed d.t (touched d) d.phase (answer_at d s) in
    let A = addressed (touched d) s in
    let N = not (eqb d.phase 3) in
    let q = then_yes (counted d s) (A && N && W && X) e h in
    let q3 = and_yes-l (A && N && W) X q in
    let q2 = and_yes-l (A && N) W q3 in
    record {
      own = and_yes-l A N q2;
      word = λ l z. not_yes _ (then_yes (ltb d.phase 2 && has_word (answer_at d s)) (not (has (answer_at d s).arrival.word d.t)) (and_yes_r (A && N) W q3) (and_yes _ _ (lt-ltb d.phase 2 l) z));
      set = λ l z. not_yes _ (and_yes_r (not (bad_ballot (answer_at d s).accepted.ballot)) (not (bad_set d.t (touched d) (answer_at d s).accepted.set)) (then_yes (eqb d.phase 0 && has_accepted (answer_at d s)) (not (bad_ballot (answer_at d s).accepted.ballot) && not (bad_set d.t (touched d) (answer_at d s).accepted.set)) (and_yes_r (A && N && W) X q) (and_yes _ _ (eq-eqb d.phase 0 l) z)));
    }

-- the union of nothing
nothing : union_of (λ r. 0) 3 ≡ 0
unfolding union_of union
nothing = refl

-- ---- the sets that a decision takes

module _ (d : Drive) (f : Loose d) where
  answer-of : (s : ℕ) → counted d s ≡ true → s < 12 → AnswerForm d s
  answer-of s h l = answer_parts d s (f.answers s l) h

  words-kept : d.phase < 2 → bad_set d.t (touched d) (unions d) ≡ false
  unfolding union_in word_in
  words-kept p = kept_set d.t (touched d) (unions d) (λ k l. subst (WordKept d.t (touched d) k) (sym (word_of (union_in d) k l)) (record { own = own k l; untouched = untouched k l }))
    where
      at : (k r : ℕ) → k < 4 → r < 3 → server_of k r < 12
      at k r l q = omega arith

      own : (k : ℕ) → k < 4 → has (union_in d k) d.t ≡ false
      own k l = not_has (λ i. go (in_unions (word_in d k) 3 d.t i))
        where
          go : (r : ℕ) × (r < 3) × In (word_in d k r) d.t → ⊥
          go (r, q, i) = pick (has_word (answer_at d (server_of k r))) refl i
            where
              pick : (b : Bool) → has_word (answer_at d (server_of k r)) ≡ b → In (cond b (answer_at d (server_of k r)).arrival.word 0) d.t → ⊥
              pick true e i = true_and_false (in_has i) ((answer-of (server_of k r) (and_yes-l (counted d (server_of k r)) (there (answer_at d (server_of k r)).arrival.some) e) (at k r l q)).word p e)
              pick false e i = not_in_none i

      untouched : (k : ℕ) → k < 4 → has (touched d) k ≡ false → union_in d k ≡ none
      untouched k l t = unions_cong (word_in d k) (λ r. 0) 3 (λ r q. pick r q (has_word (answer_at d (server_of k r))) refl) ∙ nothing
        where
          pick : (r : ℕ) → r < 3 → (b : Bool) → has_word (answer_at d (server_of k r)) ≡ b → cond b (answer_at d (server_of k r)).arrival.word 0 ≡ 0
          pick r q true e = absurd (true_and_false (subst (λ n. has (touched d) n ≡ true) (omega arith) (answer-of (server_of k r) (and_yes-l (counted d (server_of k r)) (there (answer_at d (server_of k r)).arrival.some) e) (at k r l q)).own) t)
          pick r q false e = refl

  highest-kept : (best : ℕ) → best < 12 → d.phase ≡ 0 → has_accepted (answer_at d best) ≡ true → bad_set d.t (touched d) (answer_at d best).accepted.set ≡ false
  highest-kept best l p h = (answer-of best (and_yes-l (counted d best) (there (answer_at d best).accepted.some) h) l).set p h

  chosen-kept : 2 ≤ d.phase → bad_set d.t (touched d) d.chosen.set ≡ false
  unfolding set_formed
  chosen-kept p = not_yes _ (and_yes_r (there d.chosen.some) (not (bad_set d.t (touched d) d.chosen.set)) (subst (λ (b : Bool). cond b (there d.chosen.some && not (bad_set d.t (touched d) d.chosen.set)) (not (there d.chosen.some)) ≡ true) (le-leb 2 d.phase p) f.set))

  -- ---- a new phase

  numbers-to : (p : ℕ) → p ≤ 3 → (not (bad_number d.t) && not (bad_coordinator d.coordinator) && leb p 3) ≡ true
  unfolding numbers_formed
  numbers-to p l = and_yes _ _ (and_yes-l (not (bad_number d.t) && not (bad_coordinator d.coordinator)) (leb d.phase 3) f.numbers) (le-leb p 3 l)

  ballots-to : (p : ℕ) → 1 ≤ p → (may_use d.coordinator d.t d.ballot && implies (eqb p 0) (not (eqb d.ballot 0)) && not (bad_ballot d.seen)) ≡ true
  unfolding ballots_formed
  ballots-to p l =
      let M = may_use d.coordinator d.t d.ballot in
      let I = implies (eqb d.phase 0) (not (eqb d.ballot 0)) in
      and_yes _ _ (and_yes _ _ (and_yes-l M I (and_yes-l (M && I) (not (bad_ballot d.seen)) f.ballots)) (yes_then (eqb p 0) _ (λ h. absurd (omega (arith, eqb-true p 0 h))))) (and_yes_r (M && I) (not (bad_ballot d.seen)) f.ballots)

  to_set : (p : ℕ) → 2 ≤ p → p ≤ 3 → (v : Set) → bad_set d.t (touched d) v ≡ false → Formed (to_phase p d v)
  unfolding numbers_formed ballots_formed set_formed
  to_set p l l' v e = record {
    numbers = numbers-to p l';
    pieces = f.pieces;
    ballots = ballots-to p (omega arith);
    answers = no-answers (to_phase p d v) refl f.pieces;
    few = few (to_phase p d v) refl f.pieces;
    set = subst (λ (b : Bool). cond b (true && not (bad_set d.t (touched d) v)) false ≡ true) (sym (le-leb 2 p l)) (ap not e);
  }

  to_one : Formed (to_phase1 d)
  unfolding numbers_formed ballots_formed set_formed
  to_one = record {
    numbers = numbers-to 1 (lit≤ tt);
    pieces = f.pieces;
    ballots = ballots-to 1 (lit≤ tt);
    answers = no-answers (to_phase1 d) refl f.pieces;
    few = few (to_phase1 d) refl f.pieces;
    set = refl;
  }

  decision-formed : d.phase < 3 → {e : Drive} → (highest d < 12 → d.phase ≡ 0 → has_accepted (answer_at d (highest d)) ≡ true) → Decision d e → Formed e
  decision-formed l h (highest2 p q) = to_set 2 (lit≤ tt) (lit≤ tt) _ (highest-kept (highest d) q p (h q p))
  decision-formed l h (equal2 p) = to_set 2 (lit≤ tt) (lit≤ tt) _ (words-kept (omega arith))
  decision-formed l h (again1 p) = to_one
  decision-formed l h (quick3 p) = to_set 3 (lit≤ tt) (lit≤ tt) _ (words-kept (omega arith))
  decision-formed l h (union2 p) = to_set 2 (lit≤ tt) (lit≤ tt) _ (words-kept (omega arith))
  decision-formed l h (voted3 p q) = to_set 3 (lit≤ tt) (lit≤ tt) _ (chosen-kept (omega (arith, p, q)))

  pub decide-formed : d.phase < 3 → Formed (decide d)
  decide-formed l = decision-formed l (λ q p. highest-accepted d q) (decision d)

  -- Done
  pub done-formed : (v : Set) → bad_set d.t (touched d) v ≡ false → Formed (to_phase 3 d v)
  done-formed v e = to_set 3 (lit≤ tt) (lit≤ tt) v e
