-- What a server in memory is known to be: how long its arrays are, and that its words are words. Assumes nothing.
use Prim.Native.Nat.{ℕ, zero, suc, ◌<◌, ◌^◌}
use mathlib.Core.Path.{◌≡◌}
use mathlib.Core.Bool.{Bool, true, false, cond}
use lib.ListN.{length, get_or}
use lib.Pow.{pow_pos}
use denote.Laws.{Is}
use denote.Array.{each}
use denote.RattleType.{RattleType}
use denote.Shadow.{shadow}
use denote.Struct.Loose.{Facts}
use mir.Val.{Val}
use native.Mathlib.Omega.{arith}
use mathlib.Core.List.{List, [], ◌∷◌}
use denote.Struct.Laws as LL
use Rattle.masks.specs.Folds.{union_of}
use Rattle.masks.proofs.Laws.{union_lt}
use Rattle.rules.specs.declared.Set.{Set}
use Rattle.rules.specs.Sets.{members, word}
use Rattle.rules.specs.contracts.Set as RSet
use Rattle.rules.proofs.Set.TheLaws as LSet
use Rattle.rules.specs.contracts.MaybeSet as RMaybeSet
use Rattle.rules.proofs.MaybeSet.TheLaws as LMaybeSet
use Rattle.counters.specs.contracts.Counters as RCounters
use Rattle.counters.proofs.Counters.TheLaws as LCounters
use Rattle.server.specs.declared.Server.{Server}
use Rattle.server.specs.Held.{no_record, record_at, committed_at}
use Rattle.server.specs.Run.{deps_at}
use Rattle.server.specs.contracts.Server as RServer
use Rattle.server.proofs.Server.TheLaws as LServer
use Rattle.server.specs.contracts.Record as RRecord
use Rattle.server.proofs.Record.TheLaws as LRecord
use Rattle.server.specs.contracts.Log as RLog
use Rattle.server.proofs.Log.TheLaws as LLog

members_lt : (v : Set) → v.w0 < 2 ^ 64 → v.w1 < 2 ^ 64 → v.w2 < 2 ^ 64 → v.w3 < 2 ^ 64 → members v < 2 ^ 64
unfolding members union_of word
members_lt v a b c d = union_lt 64 _ _ (union_lt 64 _ _ (union_lt 64 _ _ (union_lt 64 _ _ (pow_pos 64) a) b) c) d

-- an element of an array is owed what its type says
element : (R : RattleType) (d : R.Denot) (xs : List R.Denot) (us : List Val) → shadow (each R.Denot R.own_val xs us) → (i : ℕ) → i < length xs → (u : Val) × Is R (get_or xs i d) (u ∷ [])
element R d [] us p i l = absurd (omega (arith, l))
element R d (x ∷ xs) [] p i l = absurd p
element R d (x ∷ xs) (u ∷ us) p zero l = (u, p.0)
element R d (x ∷ xs) (u ∷ us) p (suc i) l = element R d xs us p.1 i (omega (arith, l))

-- what a function is told of a server in memory
abbrev pub Told : Server → Type 0
Told s = Facts RServer.the_type.parts LServer.the_maybe (RServer.the_type.to s)

module _ (s : Server) (was : Told s) where
  pub records-long : length s.records ≡ 64
  records-long = was.1.0.1.0.1

  pub counters-long : length s.counters.list ≡ 16
  counters-long = (LL.owed RCounters.the_type LCounters.the_laws s.counters _ was.1.1.0).0.1.0.1

  pub log-long : length s.log.list ≡ 64
  log-long = (LL.owed RLog.the_type LLog.the_laws s.log _ was.1.1.1.0).0.1.0.1

  module _ (t : ℕ) (l : t < 64) where
    record_is : (u : Val) × Is RRecord.the_row (record_at s t) (u ∷ [])
    record_is = element RRecord.the_row no_record s.records _ was.1.0.1.1 t (rw records-long l)

    committed-is : (u : Val) × Is RMaybeSet.the_row (record_at s t).committed (u ∷ [])
    committed-is = (_, (LL.owed RRecord.the_type LRecord.the_laws (record_at s t) _ record_is.1).1.1.1.1.0)

    set_is : (u : Val) × Is RSet.the_row (record_at s t).committed.set (u ∷ [])
    set_is = (_, (LL.owed RMaybeSet.the_type LMaybeSet.the_laws (record_at s t).committed _ committed-is.1).1.0)

    pub words_small : deps_at s t < 2 ^ 64
    unfolding deps_at
    words_small = go (committed_at s t)
      where
        go : (b : Bool) → cond b (members (record_at s t).committed.set) 0 < 2 ^ 64
        go true = let w = LL.owed RSet.the_type LSet.the_laws (record_at s t).committed.set _ set_is.1 in members_lt (record_at s t).committed.set w.0.1 w.1.0.1 w.1.1.0.1 w.1.1.1.0.1
        go false = pow_pos 64
