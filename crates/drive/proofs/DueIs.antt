-- The message due and to whom, in document 01's words and both ways: 13 exactly if the drive is not in form; else by phase a Prepare, PreAccept, Accept or Commit, to exactly the servers of T's shards.
-- Assumes nothing.
use mathlib.Core.Path.{◌≡◌, refl, sym, ap, ◌∙◌}
use mathlib.Core.Logic.{◌↔◌}
use mathlib.Core.Bool.{Bool, true, false, not, cond}
use Prim.Native.Nat.{ℕ, ◌/◌, ◌≤◌}
use native.Mathlib.Omega.{arith}
use lib.Dec.{ltb}
use borrow.Author.Tests.{eq-eqb, ne_eqb, ltb-true, lt-ltb}
use Rattle.masks.specs.Bits.{In}
use Rattle.masks.proofs.Bools.{and_yes, and_yes-l, and_yes_r}
use Rattle.masks.proofs.Laws.{has_in, in_has}
use Rattle.masks.proofs.FoldLaws.{has_mask}
use Rattle.rules.specs.Pieces.{shards_of}
use Rattle.rules.proofs.InTurn.{◌when◌otherwise◌, nothing, in_turn, at_last, denied}
use Rattle.wire.specs.Messages.{blank, prepare, pre_accept, accept, commit}
use Rattle.drive.specs.declared.Drive.{Drive}
use Rattle.drive.specs.declared.Sending.{Sending}
use Rattle.drive.specs.Held.{touched, addressed}
use Rattle.drive.specs.Form.{formed}
use Rattle.drive.specs.Due.{due_message, servers_of, due}
use Rattle.drive.proofs.FormDown.{InForm, form-is}

module _ (d : Drive) where
  due-by : (b : Bool) → formed d ≡ b → due d ≡ cond b (record { refusal = 0; message = due_message d; servers = servers_of (touched d) }) (record { refusal = 13; message = blank; servers = 0 })
  unfolding due
  due-by b e = rw e

  due-number : (b : Bool) → formed d ≡ b → (due d).refusal ≡ cond (not b) 13 0
  due-number true e = ap (λ (x : Sending). x.refusal) (due-by true e)
  due-number false e = ap (λ (x : Sending). x.refusal) (due-by false e)

  pub due-refuses : (n : ℕ) → ((due d).refusal ≡ n) ↔ (13 when (InForm d → ⊥) otherwise nothing) n
  due-refuses n =
      let t = in_turn (InForm d → ⊥) nothing (not (formed d)) 13 0 (denied (InForm d) (formed d) (form-is d)) at_last n in
      let e = due-number (formed d) refl in
      (λ q. t.0 (sym e ∙ q), λ q. e ∙ t.1 q)

  module _ (f : InForm d) where
    -- "Phases 0 to 2 address every server of T's shards; in phase 3 a Commit is due to the same servers"
    pub due-servers : (s : ℕ) → In (due d).servers s ↔ ((s ≤ 11) × In (shards_of d.pieces) (s / 3))
    unfolding servers_of
    due-servers s =
        let e = ap (λ (x : Sending). x.servers) (due-by true ((form-is d).1 f)) in (
          λ i.
              let h = sym (has_mask (addressed (touched d)) 12 s) ∙ in_has (rw e at i) in
              (omega (arith, ltb-true s 12 (and_yes-l (ltb s 12) (addressed (touched d) s) h)), has_in (and_yes_r (ltb s 12) (addressed (touched d) s) h)),
          λ h. rw e (has_in (has_mask (addressed (touched d)) 12 s ∙ and_yes (ltb s 12) (addressed (touched d) s) (lt-ltb s 12 (omega (arith, h.0))) (in_has h.1))),
        )

    message-is : (due d).message ≡ due_message d
    message-is = ap (λ (x : Sending). x.message) (due-by true ((form-is d).1 f))

    pub due-prepare : d.phase ≡ 0 → (due d).message ≡ prepare d.t d.ballot d.pieces
    unfolding due_message
    due-prepare p = message-is ∙ rw (eq-eqb d.phase 0 p)

    pub due-pre_accept : d.phase ≡ 1 → (due d).message ≡ pre_accept d.t d.ballot d.pieces
    unfolding due_message
    due-pre_accept p = message-is ∙ rw (ne_eqb d.phase 0 (λ z. omega arith), eq-eqb d.phase 1 p)

    pub due-accept : d.phase ≡ 2 → (due d).message ≡ accept d.t d.ballot d.pieces d.chosen.set
    unfolding due_message
    due-accept p = message-is ∙ rw (ne_eqb d.phase 0 (λ z. omega arith), ne_eqb d.phase 1 (λ z. omega arith), eq-eqb d.phase 2 p)

    pub due-commit : d.phase ≡ 3 → (due d).message ≡ commit d.t d.pieces d.chosen.set
    unfolding due_message
    due-commit p = message-is ∙ rw (ne_eqb d.phase 0 (λ z. omega arith), ne_eqb d.phase 1 (λ z. omega arith), ne_eqb d.phase 2 (λ z. omega arith))
