-- `server_read::form::read_form` meets its contract: each part of the form is read, and the first that is broken refuses.
use Rattle.std.proofs.Common.{◌≡◌, refl, sym, ap, ◌∙◌, arith, ℕ}
use Rattle.masks.specs.Folds.{all_below}
use Rattle.masks.proofs.Turns.{all_none}
use Rattle.server.specs.Held.{record_at}
use Rattle.server_form.specs.OnePass.{number_formed, number_formed_at}
use Rattle.server_read.proofs.StepInPlace.{strange, log-broken, number-broken, number-more, all_fine}
use Rattle.server_read.proofs.form.read_form.Goals as goal

pub returns-then-bad_server : goal.returns-then-bad_server
returns-then-bad_server c = (strange c.args.s.now (sym c.bad_server.ensures ∙ c.if-bad_server.true), refl)

pub returns-in_default : goal.returns-in_default
returns-in_default c = (log-broken c.args.s.now c.in_default.ensures, refl)

pub loop-t-init : goal.loop-t-init
loop-t-init c = sym (all_none _)

pub loop-t-preserved : goal.loop-t-preserved
loop-t-preserved c =
    let s = c.args.s.now in
    let word = c.in-Some.word in
    let t = c.loop-t.t in
    number-more s word c.in-Some.ensures.1 t c.loop-t.invariant
    (ap (λ (k : ℕ). number_formed k word t (record_at s t)) (sym c.shard_of-shard.ensures) ∙ sym c.number_formed-kept.ensures ∙ c.if-not-kept.false)

pub returns-then-not-kept : goal.returns-then-not-kept
returns-then-not-kept c =
    let s = c.args.s.now in
    let word = c.in-Some.word in
    let t = c.loop-t.t in (
      number-broken s word c.in-Some.ensures.1 t (omega arith)
          (ap (λ (k : ℕ). number_formed k word t (record_at s t)) (sym c.shard_of-shard.ensures) ∙ sym c.number_formed-kept.ensures ∙ c.if-not-kept.true),
      refl,
    )

pub returns : goal.returns
returns c =
    let s = c.args.s.now in
    let word = c.in-Some.word in
    let end : c.loop-t.t ≡ 64 = omega arith in (
      all_fine s word c.in-Some.ensures.1 (sym c.bad_server.ensures ∙ c.if-bad_server.false) c.in-Some.ensures.0
          (ap (all_below (number_formed_at s word)) (sym end) ∙ c.loop-t.invariant),
      rw (c.shard_of-shard.ensures, c.in-Some.ensures.1),
    )
