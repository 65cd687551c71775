-- One answer more: the word of the counted servers with its server is that of the drive with the answer, so it decides as that drive does. Assumes nothing.
use mathlib.Core.Path.{◌≡◌, refl, sym, ap, ◌∙◌}
use mathlib.Core.Bool.{Bool, true, false, ◌||◌, or-false}
use Prim.Native.Nat.{ℕ, ◌<◌}
use native.Mathlib.Decide.{ℕ_discrete}
use native.Mathlib.Omega.{arith}
use borrow.Author.Tests.{eq-eqb, ne_eqb}
use lib.Dec.{eqb}
use lib.ListN.{length}
use lib.Seq.{get_or-set_same, get_or-set_other}
use Rattle.masks.specs.Bits.{has, insert, within}
use Rattle.masks.specs.Folds.{mask_of}
use Rattle.masks.proofs.Bools.{or_yes_r}
use Rattle.masks.proofs.Laws.{has-insert, insert_lt, same_word}
use Rattle.masks.proofs.FoldLaws.{has_mask_below, mask_bound}
use Rattle.rules.specs.Choice.{◌if◌else◌}
use Rattle.rules.specs.Flags.{there}
use Rattle.rules.specs.Maybe.{no_word, some_word, no_vote}
use Rattle.wire.specs.declared.Message.{Message}
use Rattle.wire.specs.Codes.{PreAcceptOK, PrepareOK}
use Rattle.drive.specs.declared.Answer.{Answer}
use Rattle.drive.specs.declared.Drive.{Drive}
use Rattle.drive.specs.Held.{no_answer, counted, touched, with_answer}
use Rattle.drive.specs.Decide.{all_answered, decided}
use Rattle.drive.specs.Hear.{says, answer_of}
use Rattle.drive.specs.Due.{servers_of}
use Rattle.drive_form.specs.Parts.{enough}
use Rattle.drive_form.proofs.Parts.{enough-decided, all-answered}

-- an answer is counted
pub answer_counts : (m : Message) → there (answer_of m).counted ≡ true
unfolding answer_of
answer_counts m = go (eqb m.code PrepareOK) (eqb m.code PreAcceptOK)
  where
    go : (p q : Bool) → there (says m.arrival m.accepted if p else says (some_word m.word) no_vote if q else says no_word no_vote).counted ≡ true
    go true q = refl
    go false true = refl
    go false false = refl

module _ (d : Drive) (full : length d.answers ≡ 12) (s : ℕ) (l : s < 12) (a : Answer) (counts : there a.counted ≡ true) where
  abbrev word : ℕ
  word = mask_of (counted d) 12

  abbrev after : Drive
  after = with_answer d s a

  with-one : (t : ℕ) → t < 12 → (has word t || eqb s t) ≡ counted after t
  with-one t h = go (ℕ_discrete t s)
    where
      go : Dec (t ≡ s) → (has word t || eqb s t) ≡ counted after t
      go (yes e) = or_yes_r (has word t) (eqb s t) (eq-eqb s t (sym e)) ∙ sym (rw (e, get_or-set_same d.answers s a no_answer (omega (arith, l, full))) counts)
      go (no e) = rw (ne_eqb s t (λ q. e (sym q)), get_or-set_other d.answers s t a no_answer e) (or-false (has word t) ∙ has_mask_below (counted d) 12 t h)

  counted-more : insert word s ≡ mask_of (counted after) 12
  counted-more =
      same_word 12 (insert word s) (mask_of (counted after) 12) (insert_lt 12 word s (mask_bound (counted d) 12) l) (mask_bound (counted after) 12)
      (λ t h. has-insert word s t ∙ with-one t h ∙ sym (has_mask_below (counted after) 12 t h))

  pub decided-after : enough d.phase (touched d) (insert word s) ≡ decided after
  decided-after = ap (enough d.phase (touched d)) counted-more ∙ enough-decided after

  pub answered-after : within (servers_of (touched d)) (insert word s) ≡ all_answered after
  answered-after = ap (within (servers_of (touched d))) counted-more ∙ all-answered after
