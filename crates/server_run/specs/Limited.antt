-- Document 01, "Running": a run and runs until 0 are both runs up to a limit, of a server that keeps its form.
use Rattle.std.specs.Prelude.{ℕ, Bool}
use Rattle.rules.specs.Choice.{◌if◌else◌}
use Rattle.server.specs.declared.Server.{Server}
use Rattle.server.specs.declared.Ran.{Ran}
use Rattle.server.specs.Form.{formed}
use Rattle.server.specs.Run.{ran_none, ran_from, turns}

unfoldable pub allowed : (form : Bool) (limit : ℕ) → ℕ
allowed form limit = limit if form else 0

unfoldable pub refusal_of : (form : Bool) → ℕ
refusal_of form = 0 if form else 13

unfoldable pub ran_up_to : (limit : ℕ) → Server → Ran
ran_up_to limit s = ran_from s (turns limit s) if formed s else ran_none s 13
