-- A drive's form, part by part. Assumes nothing.
use mathlib.Core.Path.{◌≡◌}
use mathlib.Core.Bool.{true, not, ◌&&◌}
use Prim.Native.Nat.{ℕ, ◌≤◌, ◌<◌}
use lib.Dec.{leb}
use borrow.Author.Tests.{leb-true}
use Rattle.masks.specs.Folds.{all_below}
use Rattle.masks.proofs.Bools.{and_yes, and_yes-l, and_yes_r}
use Rattle.masks.proofs.FoldLaws.{all_at, all_of}
use Rattle.rules.specs.Cluster.{bad_number, bad_coordinator}
use Rattle.rules.specs.Pieces.{pieces_kept}
use Rattle.drive.specs.declared.Drive.{Drive}
use Rattle.drive.specs.Form.{numbers_formed, ballots_formed, answer_formed, too_few, set_formed, formed}

pub record Formed (d : Drive) : Type 0 where
  pub numbers : numbers_formed d ≡ true
  pub pieces : pieces_kept d.pieces ≡ true
  pub ballots : ballots_formed d ≡ true
  pub answers : (s : ℕ) → s < 12 → answer_formed d s ≡ true
  pub few : too_few d ≡ true
  pub set : set_formed d ≡ true

pub formed_parts : (d : Drive) → formed d ≡ true → Formed d
unfolding formed
formed_parts d e =
    let a = all_below (answer_formed d) 12 in
    let e4 = and_yes-l (numbers_formed d && pieces_kept d.pieces && ballots_formed d && a && too_few d) (set_formed d) e in
    let e3 = and_yes-l (numbers_formed d && pieces_kept d.pieces && ballots_formed d && a) (too_few d) e4 in
    let e2 = and_yes-l (numbers_formed d && pieces_kept d.pieces && ballots_formed d) a e3 in
    let e1 = and_yes-l (numbers_formed d && pieces_kept d.pieces) (ballots_formed d) e2 in
    record {
      numbers = and_yes-l (numbers_formed d) (pieces_kept d.pieces) e1;
      pieces = and_yes_r (numbers_formed d) (pieces_kept d.pieces) e1;
      ballots = and_yes_r (numbers_formed d && pieces_kept d.pieces) (ballots_formed d) e2;
      answers = λ s l. all_at (answer_formed d) 12 s (and_yes_r (numbers_formed d && pieces_kept d.pieces && ballots_formed d) a e3) l;
      few = and_yes_r (numbers_formed d && pieces_kept d.pieces && ballots_formed d && a) (too_few d) e4;
      set = and_yes_r (numbers_formed d && pieces_kept d.pieces && ballots_formed d && a && too_few d) (set_formed d) e;
    }

pub parts_formed : (d : Drive) → Formed d → formed d ≡ true
unfolding formed
parts_formed d f =
    and_yes _ _ (and_yes _ _ (and_yes _ _ (and_yes _ _ (and_yes _ _ f.numbers f.pieces) f.ballots) (all_of (answer_formed d) 12 f.answers)) f.few) f.set

pub phase_below : (d : Drive) → Formed d → d.phase ≤ 3
unfolding numbers_formed
phase_below d f = leb-true d.phase 3 (and_yes_r (not (bad_number d.t) && not (bad_coordinator d.coordinator)) (leb d.phase 3) f.numbers)
