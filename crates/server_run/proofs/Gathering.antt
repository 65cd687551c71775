-- What a committed set names, and what the pass over the records has of one number more. Assumes nothing.
use Prim.Native.Nat.{ℕ, ◌+◌}
use mathlib.Core.Path.{◌≡◌, refl, ap, ◌∙◌}
use mathlib.Core.Bool.{Bool, true, false, cond}
use Rattle.masks.specs.Bits.{union}
use Rattle.masks.specs.Folds.{union_of}
use Rattle.masks.proofs.Turns.{unions-step}
use Rattle.rules.specs.declared.Set.{Set}
use Rattle.rules.specs.Sets.{no_set, word, members, set_of, union_set}
use Rattle.server.specs.declared.Server.{Server}
use Rattle.server.specs.Held.{record_at, committed_at}
use Rattle.server.specs.Run.{deps_at}
use Rattle.server.specs.Host.{committed_in}
use Rattle.server_run.specs.Gathered.{named}

members_or : (b : Bool) (v : Set) → members (cond b v no_set) ≡ cond b (members v) 0
unfolding members union_of word union
members_or true v = refl
members_or false v = refl

-- the direct dependencies of t
pub named-deps : (s : Server) (t : ℕ) → members (named (record_at s t).committed) ≡ deps_at s t
unfolding named deps_at
named-deps s t = members_or (committed_at s t) (record_at s t).committed.set

-- what the committed sets of the numbers below n name, shard by shard
abbrev pub named_below : Server → ℕ → Set
named_below s n = set_of (λ k. union_of (committed_in s k) n)

pub named_none : (s : Server) → no_set ≡ named_below s 0
unfolding union_of
named_none s = refl

words_or : (b : Bool) (v : Set) → cond b v no_set ≡ set_of (λ k. cond b (word v k) 0)
unfolding word
words_or true v = refl
words_or false v = refl

named-words : (s : Server) (t : ℕ) → named (record_at s t).committed ≡ set_of (λ k. committed_in s k t)
unfolding named committed_in
named-words s t = words_or (committed_at s t) (record_at s t).committed.set

one_more : (s : Server) (n : ℕ) → union_set (named_below s n) (set_of (λ k. committed_in s k n)) ≡ named_below s (n + 1)
unfolding union_set
one_more s n = simp unions-step

pub named_step : (s : Server) (n : ℕ) → union_set (named_below s n) (named (record_at s n).committed) ≡ named_below s (n + 1)
named_step s n = ap (union_set (named_below s n)) (named-words s n) ∙ one_more s n
