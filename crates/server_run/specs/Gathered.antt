-- Document 01, "Running": what a run and the wanted set ask of the records.
use Rattle.std.specs.Prelude.{ℕ}
use Rattle.masks.specs.Bits.{without}
use Rattle.rules.specs.Choice.{◌if◌else◌}
use Rattle.rules.specs.Flags.{there}
use Rattle.rules.specs.Sets.{no_set}
use Rattle.rules.specs.declared.Set.{Set}
use Rattle.rules.specs.declared.MaybeSet.{MaybeSet}
use Rattle.server.specs.declared.Server.{Server}
use Rattle.server.specs.Run.{deps_at}
use Rattle.server_form.specs.OnePass.{read_log}

-- the set that is committed, or nothing
unfoldable pub named : MaybeSet → Set
named c = c.set if there c.some else no_set

-- the numbers of t's committed set that are not in the log, in one word
unfoldable pub unrun_at : Server → ℕ → ℕ
unrun_at s t = without (deps_at s t) (read_log s.log).word

-- what is in v and not in w, shard by shard
abbrev pub set_without : Set → ℕ → Set
set_without v w = record { w0 = without v.w0 w; w1 = without v.w1 w; w2 = without v.w2 w; w3 = without v.w3 w }
