-- Document 01, "Held at a server": the counters, the log and the results, read a part at a time. Nothing is judged: each answer shows what is held there, or none where there is no such place.
use Rattle.std.specs.Prelude.{ℕ, ◌&&◌, ltb, ℤ, pos, get_or}
use Rattle.rules.specs.Choice.{◌if◌else◌}
use Rattle.rules.specs.Flags.{there}
use Rattle.rules.specs.Cluster.{NUMBERS, KEYS, PIECES}
use Rattle.rules.specs.Values.{no_value}
use Rattle.counters.specs.declared.Counters.{Counters}
use Rattle.counters.specs.Effects.{kept_of, counter_at}
use Rattle.server.specs.declared.Log.{Log}
use Rattle.server.specs.declared.Record.{Record}
use Rattle.server.specs.declared.Server.{Server}
use Rattle.server.specs.Held.{record_at, entry_at}
use Rattle.door.specs.declared.Reading.{Reading}
use Rattle.door.specs.declared.LogEntry.{LogEntry}

abbrev pub reading : ℤ → ℕ → Reading
reading v kept = record { some = 1; value = v; kept = kept }

abbrev pub no_reading : Reading
no_reading = record { some = 0; value = pos 0; kept = 0 }

-- the counter of a key: its value, kept exactly if it is full
unfoldable pub counter : Server → ℕ → Reading
counter s key = reading (counter_at s.counters key).value (kept_of (counter_at s.counters key)) if ltb key KEYS else no_reading

-- the same of the counters alone
unfoldable pub counter_in : Counters → ℕ → Reading
counter_in c key = reading (counter_at c key).value (kept_of (counter_at c key)) if ltb key KEYS else no_reading

-- the number at a place of the log
unfoldable pub log_entry : Server → ℕ → LogEntry
log_entry s i = record { some = 1; number = entry_at s.log i } if ltb i s.log.count && ltb i NUMBERS else record { some = 0; number = 0 }

unfoldable pub entry_in : Log → ℕ → LogEntry
entry_in l i = record { some = 1; number = entry_at l i } if ltb i l.count && ltb i NUMBERS else record { some = 0; number = 0 }

-- the result at a place of a record, where its number has run
unfoldable pub result_in : Record → ℕ → Reading
result_in v i =
    reading (get_or v.values.list i no_value).value (get_or v.values.list i no_value).kept if there v.ran && ltb i v.values.count && ltb i PIECES
    else no_reading

unfoldable pub result_reading : Server → ℕ → ℕ → Reading
result_reading s t i = result_in (record_at s t) i if ltb t NUMBERS else no_reading

-- the same of the record that stands at the number's place
unfoldable pub result_at : Record → (t i : ℕ) → Reading
result_at v t i = result_in v i if ltb t NUMBERS else no_reading
