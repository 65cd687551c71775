-- A transaction's pieces run one after the other, each storing in place: where a key's counter stands, and what a piece leaves there and gives.
use Rattle.std.specs.Prelude.{ℕ, ltb}
use Rattle.rules.specs.declared.Piece.{Piece}
use Rattle.rules.specs.Choice.{◌if◌else◌}
use Rattle.rules.specs.Cluster.{KEYS}
use Rattle.counters.specs.declared.Counter.{Counter}
use Rattle.counters.specs.declared.Outcome.{Outcome}
use Rattle.counters.specs.Effects.{zeroed, effect}

unfoldable pub place_of : (key : ℕ) → ℕ
place_of key = key if ltb key KEYS else 0

unfoldable pub run_at : Piece → Counter → Outcome
run_at p there =
    let x = effect p.kind p.operand (there if ltb p.key KEYS else zeroed) in
    record { counter = x.counter if ltb p.key KEYS else there; result = x.result }
