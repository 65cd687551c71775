-- The parts of the form at a drive's own fields are its form, and the word of counted servers decides as the answers do. Assumes nothing.
use mathlib.Core.Path.{◌≡◌, refl, sym, ap, ap₂, ◌∙◌}
use mathlib.Core.Bool.{Bool, true, false, cond, not, ◌&&◌, ◌||◌, and-true, and-false, or-false, or-true}
use mathlib.Core.Logic.{⊎_elim}
use Prim.Native.Nat.{ℕ, ◌+◌, ◌<◌}
use native.Mathlib.Omega.{arith}
use borrow.Author.Tests.{eq-eqb, eqb-true}
use lib.Dec.{leb, ltb, eqb}
use lib.Bits.{or_zero_r}
use Rattle.masks.specs.Bits.{has, In, none, union, within}
use Rattle.masks.specs.Folds.{all_below, count_below, mask_of, union_of}
use Rattle.masks.proofs.Bools.{not_yes, true_or_false, true_and_false, bool_ext}
use Rattle.masks.proofs.Laws.{in_has, has-none, in_lt, empty_word}
use Rattle.masks.proofs.Turns.{all_none, all-step, mask-none, mask_step, unions-none, unions-step}
use Rattle.masks.proofs.FoldLaws.{all_at, all_of, all_cong, all_both, not_any, has_mask_below, mask_bound, has-unions, within_all}
use Rattle.rules.specs.Choice.{◌if◌else◌}
use Rattle.rules.specs.Flags.{there, implies}
use Rattle.rules.specs.Cluster.{server_of}
use Rattle.rules.specs.Ballots.{bad_ballot}
use Rattle.rules.specs.Pieces.{pieces_kept, touched_by}
use Rattle.rules.specs.Sets.{bad_set}
use Rattle.rules.proofs.TouchedWord.{kept_word, broken-word, kept-touched}
use Rattle.drive.specs.declared.Answer.{Answer}
use Rattle.drive.specs.declared.Drive.{Drive}
use Rattle.drive.specs.Held.{answer_at, counted, touched, addressed}
use Rattle.drive.specs.Decide.{answered, all_answered, counted_in, two_in, two_in_each, decided, has_word}
use Rattle.drive.specs.Form.{numbers_formed, ballots_formed, word_formed, accepted_formed, answer_formed, too_few, set_formed, formed}
use Rattle.drive.specs.Due.{servers_of}
use Rattle.drive_form.specs.declared.Walked.{Walked}
use Rattle.drive_form.specs.Parts.{set_kept, two_of, two_from, enough, word_of, word_at, accepted_at, at_first, further, walked_to, answers_kept, formed_by}

-- ---- two of three

two_of_three : (a b c : Bool) → leb 2 (cond c (cond b (cond a (0 + 1) 0 + 1) (cond a (0 + 1) 0) + 1) (cond b (cond a (0 + 1) 0 + 1) (cond a (0 + 1) 0))) ≡ two_of a b c
two_of_three true true true = refl
two_of_three true true false = refl
two_of_three true false true = refl
two_of_three true false false = refl
two_of_three false true true = refl
two_of_three false true false = refl
two_of_three false false true = refl
two_of_three false false false = refl

pub two_of_lem : (f : ℕ → Bool) → leb 2 (count_below f 3) ≡ two_of (f 0) (f 1) (f 2)
unfolding count_below
two_of_lem f = two_of_three (f 0) (f 1) (f 2)

-- ---- the word of the counted servers

-- a word is empty where its test holds of nothing
mask_empty : (f : ℕ → Bool) (n : ℕ) → eqb (mask_of f n) none ≡ all_below (λ s. not (f s)) n
mask_empty f n =
    bool_ext (eqb (mask_of f n) none) (all_below (λ s. not (f s)) n)
    (λ e. all_of (λ s. not (f s)) n (λ s l. ap not (sym (has_mask_below f n s l) ∙ ap (λ (w : ℕ). has w s) (eqb-true (mask_of f n) none e) ∙ has-none s)))
    (λ e. eq-eqb (mask_of f n) none (empty_word n (mask_of f n) (mask_bound f n) (nobody e)))
  where
    nobody : all_below (λ s. not (f s)) n ≡ true → (s : ℕ) → In (mask_of f n) s → ⊥
    nobody e s i =
        let l = in_lt n (mask_bound f n) i in
        true_and_false (sym (has_mask_below f n s l) ∙ in_has i) (not_yes (f s) (all_at (λ s. not (f s)) n s e l))

module _ (d : Drive) where
  abbrev counts : ℕ
  counts = mask_of (counted d) 12

  counted_has : (k r : ℕ) → k < 4 → r < 3 → has counts (server_of k r) ≡ counted d (server_of k r)
  counted_has k r h l = has_mask_below (counted d) 12 (server_of k r) (omega (arith, h, l))

  two_from_lem : (k : ℕ) → k < 4 → two_from (touched d) counts k ≡ two_in d k
  unfolding two_in
  two_from_lem k h = rw (two_of_lem (counted_in d k), counted_has k 0 h (omega arith), counted_has k 1 h (omega arith), counted_has k 2 h (omega arith))

  -- two of each shard, by the word
  pub two-each : all_below (two_from (touched d) counts) 4 ≡ two_in_each d
  unfolding two_in_each
  two-each = all_cong (two_from (touched d) counts) (two_in d) 4 two_from_lem

  -- all servers of the touched shards, by the word
  pub all-answered : within (servers_of (touched d)) counts ≡ all_answered d
  unfolding servers_of all_answered answered
  all-answered =
      within_all 12 (mask_of (addressed (touched d)) 12) counts (mask_bound (addressed (touched d)) 12)
      ∙ all_cong
      (λ t. not (has (mask_of (addressed (touched d)) 12) t) || has counts t)
      (answered d)
      12
      (λ t h. ap₂ (λ (a b : Bool). not a || b) (has_mask_below (addressed (touched d)) 12 t h) (has_mask_below (counted d) 12 t h))

  pub enough-decided : enough d.phase (touched d) counts ≡ decided d
  unfolding enough decided
  enough-decided = ap₂ (λ (a b : Bool). a if eqb d.phase 2 else b) two-each all-answered

-- ---- the walk

module _ (d : Drive) (w : ℕ) where
  pub walked-first : at_first ≡ walked_to d w 0
  unfolding walked_to
  walked-first = rw (← mask-none (counted d), ← unions-none (word_at d), ← all_none (accepted_at d w))

  pub walked_further : (n : ℕ) → walked_to d w (n + 1) ≡ further d w n (answer_at d n) (walked_to d w n)
  unfolding walked_to
  walked_further n = rw (mask_step (counted d) n, unions-step (word_at d) n, all-step (accepted_at d w) n)

-- an answer that is not counted adds nothing
pub not_counted : (d : Drive) (w s : ℕ) (a : Answer) (l : Walked) → there a.counted ≡ false → l ≡ further d w s a l
unfolding union accepted_formed
not_counted d w s a l e = rw (e, and-false (eqb d.phase 0), and-true l.kept, or_zero_r l.words)

-- ---- the answers of the walk

-- what is judged of a counted answer, one test after the other
one_by_one : (c a b e h x p j y : Bool)
    → implies c (a && b && implies (e && (c && h)) x && implies (p && (c && j)) y)
    ≡ (implies c a && implies c b && implies (e && (c && h)) x && implies (p && (c && j)) y)
one_by_one true a b e h x p j y = refl
one_by_one false a b e h x p j y = rw (and-false e, and-false p)

all_true : (n : ℕ) → all_below (λ s. true) n ≡ true
all_true n = all_of (λ s. true) n (λ s l. refl)

module _ (d : Drive) where
  from-touched : within (mask_of (counted d) 12) (servers_of (touched d)) ≡ all_below (λ s. implies (counted d s) (addressed (touched d) s)) 12
  unfolding servers_of
  from-touched =
      within_all 12 (counts d) (mask_of (addressed (touched d)) 12) (mask_bound (counted d) 12)
      ∙ all_cong
      (λ s. not (has (counts d) s) || has (mask_of (addressed (touched d)) 12) s)
      (λ s. implies (counted d s) (addressed (touched d) s))
      12
      (λ s h. ap₂ (λ (a b : Bool). not a || b) (has_mask_below (counted d) 12 s h) (has_mask_below (addressed (touched d)) 12 s h))

  none_last : (last : Bool) → implies last (eqb (counts d) none) ≡ all_below (λ s. implies (counted d s) (not last)) 12
  none_last true = mask_empty (counted d) 12 ∙ all_cong (λ s. not (counted d s)) (λ s. implies (counted d s) false) 12 (λ s l. sym (or-false (not (counted d s))))
  none_last false = sym (all_cong (λ s. implies (counted d s) true) (λ s. true) 12 (λ s l. or-true (not (counted d s))) ∙ all_true 12)

  held_word : (a : Answer) → not (has (word_of a) d.t) ≡ implies (has_word a) (not (has a.arrival.word d.t))
  held_word a = go (has_word a)
    where
      go : (b : Bool) → not (has (cond b a.arrival.word 0) d.t) ≡ implies b (not (has a.arrival.word d.t))
      go true = refl
      go false = ap not (has-none d.t)

  no_own : (early : Bool) → implies early (not (has (union_of (word_at d) 12) d.t)) ≡ all_below (λ s. implies (early && has_word (answer_at d s)) (not (has (answer_at d s).arrival.word d.t))) 12
  no_own true =
      ap not (has-unions (word_at d) 12 d.t)
      ∙ not_any (λ s. has (word_at d s) d.t) 12
      ∙ all_cong (λ s. not (has (word_at d s) d.t)) (λ s. implies (has_word (answer_at d s)) (not (has (answer_at d s).arrival.word d.t))) 12 (λ s l. held_word (answer_at d s))
  no_own false = sym (all_true 12)

  abbrev placed : ℕ → Bool
  placed s = implies (counted d s) (addressed (touched d) s)

  abbrev early : ℕ → Bool
  early s = implies (counted d s) (not (eqb d.phase 3))

  abbrev worded : ℕ → Bool
  worded s = implies (ltb d.phase 2 && has_word (answer_at d s)) (not (has (answer_at d s).arrival.word d.t))

  abbrev voted : ℕ → Bool
  voted = accepted_at d (touched d)

  each-test : (s : ℕ) → answer_formed d s ≡ (placed s && early s && worded s && voted s)
  unfolding answer_formed word_formed accepted_formed
  each-test s =
      one_by_one (counted d s) (addressed (touched d) s) (not (eqb d.phase 3)) (ltb d.phase 2) (there (answer_at d s).arrival.some) (not (has (answer_at d s).arrival.word d.t))
      (eqb d.phase 0) (there (answer_at d s).accepted.some) (not (bad_ballot (answer_at d s).accepted.ballot) && not (bad_set d.t (touched d) (answer_at d s).accepted.set))

  all-tests : (all_below placed 12 && all_below early 12 && all_below worded 12 && all_below voted 12) ≡ all_below (answer_formed d) 12
  all-tests =
      ap (λ (b : Bool). b && all_below worded 12 && all_below voted 12) (all_both placed early 12)
      ∙ ap (λ (b : Bool). b && all_below voted 12) (all_both (λ s. placed s && early s) worded 12)
      ∙ all_both (λ s. placed s && early s && worded s) voted 12
      ∙ sym (all_cong (answer_formed d) (λ s. placed s && early s && worded s && voted s) 12 (λ s l. each-test s))

  abbrev answered-well : Bool
  answered-well = within (counts d) (servers_of (touched d)) && implies (eqb d.phase 3) (eqb (counts d) none) && implies (ltb d.phase 2) (not (has (union_of (word_at d) 12) d.t))

  answers-formed : (answered-well && all_below voted 12) ≡ all_below (answer_formed d) 12
  answers-formed = rw (from-touched, none_last (eqb d.phase 3), no_own (ltb d.phase 2)) all-tests

  -- ---- the form

  -- the pieces keep their rule, so that the word has the shards that they touch
  kept-form : pieces_kept d.pieces ≡ true → formed_by d (touched d) (walked_to d (touched d) 12) ≡ formed d
  unfolding formed_by answers_kept walked_to formed too_few set_formed
  kept-form e =
      rw (← answers-formed, enough-decided, some-shard, e)
      (in_order (numbers_formed d) (ballots_formed d) answered-well (all_below voted 12) (eqb d.phase 3 || not (decided d)) (set_kept d (touched d)))
    where
      some-shard : not (eqb (touched d) none) ≡ true
      some-shard = ap (λ (w : ℕ). not (eqb w none)) (sym (kept_word d.pieces e)) ∙ kept-touched d.pieces ∙ e

      in_order : (n b a k f s : Bool) → ((n && true && b) && (a && f) && k && s) ≡ (n && true && b && (a && k) && f && s)
      in_order true true true true true s = refl
      in_order true true true true false s = refl
      in_order true true true false true s = refl
      in_order true true true false false s = refl
      in_order true true false k f s = refl
      in_order true false a k f s = refl
      in_order false b a k f s = refl

  broken-form : pieces_kept d.pieces ≡ false → formed_by d none (walked_to d none 12) ≡ formed d
  unfolding formed_by formed
  broken-form e = rw (e, and-false (numbers_formed d))

  pub formed-by : formed_by d (touched_by d.pieces) (walked_to d (touched_by d.pieces) 12) ≡ formed d
  formed-by =
      ⊎_elim
      (λ e. rw (kept_word d.pieces e) (kept-form e))
      (λ e. rw (broken-word d.pieces e) (broken-form e))
      (true_or_false (pieces_kept d.pieces))
