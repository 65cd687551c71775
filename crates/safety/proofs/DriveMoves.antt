-- What a drive hears or is told keeps what is known of it. Assumes nothing.
use mathlib.Core.Path.{◌≡◌, refl, sym, ◌∙◌, subst}
use mathlib.Core.Bool.{Bool, true, false, not, cond}
use mathlib.Core.List.{Memᴰ}
use Prim.Native.Nat.{ℕ, ◌<◌}
use native.Mathlib.Omega.{arith}
use lib.Dec.{eqb}
use lib.ListN.{length-set}
use borrow.Author.Tests.{eqb-true, eqb-false}
use Rattle.masks.proofs.Bools.{not_no, true_and_false}
use Rattle.rules.specs.Flags.{there}
use Rattle.wire.specs.declared.Message.{Message}
use Rattle.wire.specs.Codes.{Done, commits}
use Rattle.server.proofs.RunLeaves.{set-either}
use Rattle.drive.specs.declared.Answer.{Answer}
use Rattle.drive.specs.declared.Drive.{Drive}
use Rattle.drive.specs.declared.Moved.{Moved}
use Rattle.drive.specs.Held.{no_answer, touched, addressed, to_phase, with_answer, with_promise}
use Rattle.drive.specs.Decide.{two_in_each, decided, decide}
use Rattle.drive.specs.Form.{formed}
use Rattle.drive.specs.Hear.{answer_of, settle, count, hear, moved, refused}
use Rattle.drive.specs.Host.{unless, move_on_refusal, move_on}
use Rattle.drive.proofs.Passed.{not_first, Passed, Counts, Kind, prepared, pre_accepted, accepted, Hears, is_done, is_behind, is_ok, Replied, refuses, takes, replied}
use Rattle.drive.proofs.FormParts.{Formed, formed_parts, phase_below}
use Rattle.drive.proofs.DecideKeepsForm.{nobody}
use Rattle.drive.proofs.KeepsForm.{answer_as, answer_is}
use Rattle.drive.proofs.Decided.{SameBallot, decision, decision-ballot, decided_two}
use Rattle.safety.specs.Cluster.{World, Cluster}
use Rattle.safety.proofs.Agreement.{Lawful}
use Rattle.safety.proofs.View.{CommitOf, slice_of, touched_of}
use Rattle.safety.proofs.DriveIn.{Heard, DriveIn}
use Rattle.safety.proofs.Decisions.{decide-in}

-- the drive e in the place of d
pub record Follows (w : World) (c : Cluster) (d e : Drive) : Type 0 where
  pub same : SameBallot d e
  pub known : DriveIn w c e

module _ (w : World) (c : Cluster) (d : Drive) (di : DriveIn w c d) (lw : Lawful (touched_of w d.t) (slice_of c d.t)) where
  stays : Follows w c d d
  stays = record { same = record { number = refl; ballot = refl }; known = di }

  module _ (m : Message) (k : Memᴰ m c.sent) (p : Passed d m) where
    kept-form : Formed d
    kept-form = formed_parts d p.form

    -- ---- Done, Behind

    done-in : m.code ≡ Done → m.t ≡ d.t → DriveIn w c (to_phase 3 d m.set)
    done-in e n = record {
      named = di.named;
      places = refl;
      own = λ s q. absurd (true_and_false q (nobody s));
      heard = λ s q. absurd (true_and_false q (nobody s));
      stage = record {
        early = λ l. absurd (omega arith);
        free = λ z. absurd (omega arith);
        proposed = λ z. absurd (omega arith);
        alone = λ z. absurd (omega arith);
        chosen = λ z. lw.committed.each m.set (CommitOf.sent m k (subst (λ n. commits n ≡ true) (sym e) refl) n refl);
      };
    }

    behind-in : (q : ℕ) → DriveIn w c (with_promise d q)
    behind-in q = record {
      named = di.named;
      places = di.places;
      own = di.own;
      heard = di.heard;
      stage = record { early = di.stage.early; free = di.stage.free; proposed = di.stage.proposed; alone = di.stage.alone; chosen = di.stage.chosen };
    }

    -- ---- an OK

    sound-answer : Kind d m → Counts d m → Heard (slice_of c d.t) d.phase d.ballot m.server (answer_of m)
    unfolding answer_as
    sound-answer (prepared e z) n = subst (λ (x : Answer). Heard (slice_of c d.t) d.phase d.ballot m.server x) (sym (answer_is m _ e)) (record {
      prepared = λ q. record { message = m; within = k; coded = e; numbered = n.number; says = record { server = refl; ballot = n.ballot; arrival = refl; accepted = refl } };
      worded = λ q. absurd (omega arith);
      pre_accepted = λ q. absurd (omega arith);
      accepted = λ q. absurd (omega arith);
    })
    sound-answer (pre_accepted e z) n = subst (λ (x : Answer). Heard (slice_of c d.t) d.phase d.ballot m.server x) (sym (answer_is m _ e)) (record {
      prepared = λ q. absurd (omega arith);
      worded = λ q. refl;
      pre_accepted = λ q. record { message = m; within = k; coded = e; numbered = n.number; says = (refl, refl) };
      accepted = λ q. absurd (omega arith);
    })
    sound-answer (accepted e z) n = record {
      prepared = λ q. absurd (omega arith);
      worded = λ q. absurd (omega arith);
      pre_accepted = λ q. absurd (omega arith);
      accepted = λ q. record { message = m; within = k; coded = e; numbered = n.number; says = (refl, n.ballot) };
    }

    answer-in : Kind d m → Counts d m → DriveIn w c (with_answer d m.server (answer_of m))
    answer-in kd n = record {
      named = di.named;
      places = length-set d.answers m.server (answer_of m) ∙ di.places;
      own = λ u. set-either (λ (x : Answer). there x.counted ≡ true → addressed (touched d) u ≡ true) d.answers m.server u (answer_of m) no_answer (di.own u) (λ e z. subst (λ u. addressed (touched d) u ≡ true) (sym e) n.server);
      heard = λ u. set-either (λ (x : Answer). there x.counted ≡ true → Heard (slice_of c d.t) d.phase d.ballot u x) d.answers m.server u (answer_of m) no_answer (di.heard u) (λ e z. subst (λ u. Heard (slice_of c d.t) d.phase d.ballot u (answer_of m)) (sym e) (sound-answer kd n));
      stage = record { early = di.stage.early; free = di.stage.free; proposed = di.stage.proposed; alone = di.stage.alone; chosen = di.stage.chosen };
    }

    phase-early : Kind d m → d.phase < 3
    phase-early (prepared e z) = omega arith
    phase-early (pre_accepted e z) = omega arith
    phase-early (accepted e z) = omega arith

    count-in : Kind d m → Counts d m → Follows w c d (count d m.server (answer_of m))
    unfolding count settle
    count-in kd n = go (decided (with_answer d m.server (answer_of m))) refl
      where
        E : Drive
        E = with_answer d m.server (answer_of m)

        go : (b : Bool) → decided E ≡ b → Follows w c d (cond b (decide E) E)
        go true e = record { same = let s = decision-ballot (decision E) in record { number = s.number; ballot = s.ballot }; known = decide-in w c E (answer-in kd n) lw kept-form.pieces (decided_two E e) (phase-early kd) }
        go false e = record { same = record { number = refl; ballot = refl }; known = answer-in kd n }

    hears-in : {e : Drive} → Hears d m e → Follows w c d e
    hears-in (is_done e n z) = record { same = record { number = refl; ballot = refl }; known = done-in e n }
    hears-in (is_behind e n z) = record { same = record { number = refl; ballot = refl }; known = behind-in m.promise }
    hears-in (is_ok kd n) = count-in kd n

  pub hear-follows : (m : Message) → Memᴰ m c.sent → Follows w c d (hear d m).drive
  hear-follows m k = go (replied d m)
    where
      go : {r : Moved} → Replied d m r → Follows w c d r.drive
      go (refuses n) = stays
      go (takes z p h) = hears-in m k p h

  -- ---- move on

  move_in : move_on_refusal d ≡ 0 → Follows w c d (decide d)
  unfolding move_on_refusal
  move_in e =
      let p13 = not_first (not (formed d)) 13 _ (λ z. omega arith) e in
      let p8 = not_first (eqb d.phase 3) 8 _ (λ z. omega arith) p13.1 in
      let p7 = not_first (not (two_in_each d)) 7 0 (λ z. omega arith) p8.1 in
      let f = formed_parts d (not_no (formed d) p13.0) in
      record {
        same = decision-ballot (decision d);
        known = decide-in w c d di lw f.pieces (not_no (two_in_each d) p7.0) (let l = phase_below d f in let n = eqb-false d.phase 3 p8.0 in omega arith);
      }

  pub move_on-follows : Follows w c d (move_on d).drive
  unfolding move_on unless
  move_on-follows = go (eqb (move_on_refusal d) 0) refl
    where
      go : (b : Bool) → eqb (move_on_refusal d) 0 ≡ b → Follows w c d (cond b (moved (decide d)) (refused d (move_on_refusal d))).drive
      go true e = move_in (eqb-true (move_on_refusal d) 0 e)
      go false e = stays
