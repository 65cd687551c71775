-- Case E, that a run leaves the server as it is: the server is written out, and computed by the Commit alone and then by the runs. In one go it is too much for the prover.
use Rattle.std.specs.Prelude.{◌≡◌, refl, Bool, true, eqb, replicate, set}
use Rattle.std.proofs.Common.{sym, ◌∙◌, ap, subst}
use Rattle.rules.specs.Choice.{◌if◌else◌}
use Rattle.rules.specs.Maybe.{no_word, no_vote, some_set}
use Rattle.rules.specs.Values.{no_values}
use Rattle.counters.specs.Effects.{no_counters}
use Rattle.server.specs.declared.Server.{Server}
use Rattle.server.specs.Held.{fresh_record}
use Rattle.server.specs.Refusals.{refusal}
use Rattle.server.specs.Run.{run, run_all}
use Rattle.server.specs.Serve.{refused, taken, then_runs, stepped, serve}
use Rattle.cases.specs.Inputs.{only, after, server0, put55, commit8, in_e}
use Rattle.cases.specs.Computes.{computes}

-- what the server of E is, written out: T8 is held as committed, and nothing ran
abbrev held_e : Server
held_e = record {
  id = 0;
  records = set (replicate 64 fresh_record) 8 (record { pieces = put55; promise = 0; arrival = no_word; accepted = no_vote; committed = some_set (only 1 2); ran = 0; values = no_values });
  counters = no_counters;
  log = record { list = replicate 64 0; count = 0 };
}

-- by the Commit alone, and then by the runs
taken-E : eqb (refusal server0 commit8) 0 ≡ true
unfolding computes
taken-E = refl

alone_E : (taken server0 commit8).server ≡ held_e
unfolding computes
alone_E = refl

rests-E : (run_all held_e).server ≡ held_e
unfolding computes
rests-E = refl

is_held : in_e ≡ held_e
unfolding after serve stepped then_runs
is_held =
    ap (λ (b : Bool). (stepped server0 commit8 if b else refused server0 (refusal server0 commit8)).server) taken-E
    ∙ ap (λ s. (run_all s).server) alone_E
    ∙ rests-E

stays-held : (run held_e).server ≡ held_e
unfolding computes
stays-held = refl

pub leaves-E : (run in_e).server ≡ in_e
leaves-E = subst (λ s. (run s).server ≡ s) (sym is_held) stays-held
