-- A second history that happens: two numbers on one key of shard 2, one of them on shard 3 too, where the first counters differ and are full. One takes the fast path, and its drive is gone; a recovery at a floor of 20 is gone too; another, at a floor of 9, is behind, tries again, is told Done and commits. The other number moves on in phase 1. A server that gets its Commit first runs nothing, and both numbers, one after the other, once the Commit of the first comes. All servers run in one order, a sum that is too large is kept and marks its counter, a read and an add that fits are kept where the counter is full, a put clears the mark, and a Fetch is answered with Results.
-- Assumes nothing.
use mathlib.Core.Path.{◌≡◌, refl}
use mathlib.Core.Option.{Option, none, some}
use mathlib.Core.List.{List, [], ◌∷◌, ◌++◌}
use Prim.Native.Nat.{ℕ, ◌*◌}
use lib.Dec.{eqb}
use lib.IntN.{pos, negsuc}
use lib.ListN.{replicate, set}
use Rattle.rules.specs.declared.Pieces.{Pieces}
use Rattle.rules.specs.declared.Value.{Value}
use Rattle.rules.specs.Choice.{◌if◌else◌}
use Rattle.rules.specs.Flags.{flag}
use Rattle.rules.specs.Pieces.{no_piece, read, put, add}
use Rattle.rules.specs.Maybe.{some_word, no_vote}
use Rattle.rules.specs.Values.{no_value}
use Rattle.wire.specs.declared.Message.{Message}
use Rattle.wire.specs.Messages.{prepare_ok, commit_ok, results}
use Rattle.counters.specs.declared.Counters.{Counters}
use Rattle.counters.specs.Effects.{holding, marked}
use Rattle.drive.specs.declared.Drive.{Drive}
use Rattle.safety.specs.Cluster.{World, Cluster, Taken, at_first, Reached}
use Rattle.safety.proofs.Scripts.{Event, takes, fetches, runs, sends, hears, moves_on, starts, recovers, tries_again, vanishes, sent_as, play, Shown, shown_at, on_end, scripts, ends_with}

-- number 9 adds 1 to key 5 of shard 2; at shard 3 it puts 7 on key 0, reads key 1 and takes 1 from key 2
nine : Pieces
nine = record {
  list =
      record { shard = 2; key = 5; kind = add; operand = pos 1 } ∷ record { shard = 3; key = 0; kind = put; operand = pos 7 } ∷ record { shard = 3; key = 1; kind = read; operand = pos 0 }
      ∷ record { shard = 3; key = 2; kind = add; operand = negsuc 0 } ∷ replicate 4 no_piece;
  count = 4;
}

-- number 12 adds 2 to key 5 of shard 2, and too much to key 6
twelve : Pieces
twelve = record { list = record { shard = 2; key = 5; kind = add; operand = pos 2 } ∷ record { shard = 2; key = 6; kind = add; operand = pos 2147483647 } ∷ replicate 6 no_piece; count = 2 }

-- shard k begins with 10 k at every key, and at shard 3 every counter is full
tens : ℕ → Counters
tens k = record { list = replicate 16 (record { value = pos (10 * k); full = flag (eqb k 3) }) }

world : World
unfolding tens
world = record { pieces = λ t. nine if eqb t 9 else twelve; counters = tens; sixteen = λ k. refl }

-- coordinator 1 starts 9, hears all servers of both shards with equal words and takes the fast path; it is gone when server 9 alone has its Commit
exchange : List Event
exchange =
    starts 0 1 9 ∷ sends 0 ∷ takes 6 0 ∷ takes 7 0 ∷ takes 8 0 ∷ takes 9 0 ∷ takes 10 0 ∷ takes 11 0
    ∷ hears 0 1 ∷ hears 0 2 ∷ hears 0 3 ∷ hears 0 4 ∷ hears 0 5 ∷ hears 0 6 ∷ sends 0 ∷ takes 9 7 ∷ vanishes 0 ∷ []

-- coordinator 5 recovers it above 20, so at ballot 21, and is gone before server 6 promises that
gone : List Event
gone = recovers 2 5 9 20 ∷ sends 2 ∷ vanishes 2 ∷ takes 6 9 ∷ []

-- coordinator 2 recovers it above 9, so at ballot 10, and is behind; it tries again at ballot 26, is told Done by server 9, and commits that at the others
recovery : List Event
recovery =
    recovers 1 2 9 9 ∷ sends 1 ∷ takes 6 11 ∷ hears 1 12 ∷ tries_again 1 ∷ sends 1 ∷ takes 9 13 ∷ hears 1 14
    ∷ sends 1 ∷ takes 6 15 ∷ takes 8 15 ∷ takes 10 15 ∷ []

-- coordinator 4 starts 12, hears two servers, moves on in phase 1 and commits
conflicting : List Event
conflicting =
    starts 3 4 12 ∷ sends 3 ∷ takes 6 19 ∷ takes 8 19 ∷ hears 3 20 ∷ hears 3 21 ∷ moves_on 3
    ∷ sends 3 ∷ takes 6 22 ∷ takes 8 22 ∷ hears 3 23 ∷ hears 3 24 ∷ sends 3 ∷ takes 6 25 ∷ takes 8 25 ∷ []

-- server 7 gets the Commit of 12 first and runs nothing; then that of 9, and runs 9 and 12; then nothing is left to run
late : List Event
late = takes 7 25 ∷ takes 7 15 ∷ runs 7 ∷ []

-- server 6 tells the results of 12
telling : List Event
telling = fetches 6 12 ∷ []

script : List Event
script = exchange ++ (gone ++ (recovery ++ (conflicting ++ (late ++ telling))))

-- ---- what it ends with

pub record End : Type 0 where
  pub at6 : Shown
  pub at7 : Shown
  pub at8 : Shown
  pub at9 : Shown
  pub at10 : Shown
  pub told : Message
  pub too_early : Message
  pub runs_both : Message
  pub unheard : Message
  pub station0 : Option Drive
  pub station2 : Option Drive
  pub order : List ℕ
  pub taken : List Taken

unfoldable pub end_of : Cluster → End
end_of c = record {
  at6 = shown_at c 6 12;
  at7 = shown_at c 7 12;
  at8 = shown_at c 8 12;
  at9 = shown_at c 9 9;
  at10 = shown_at c 10 9;
  told = sent_as c 30;
  too_early = sent_as c 28;
  runs_both = sent_as c 29;
  unheard = sent_as c 10;
  station0 = c.stations 0;
  station2 = c.stations 2;
  order = c.order;
  taken = c.taken;
}

-- what 12 gave: 20 and 1 and 2; and the 20 that was there, marked kept, since the sum leaves the signed 32 bits
abbrev sums : List Value
sums = record { value = pos 23; kept = 0 } ∷ record { value = pos 20; kept = 1 } ∷ []

-- servers of shard 2: key 6 is full
unfoldable pub second : Shown
second = record { log = 9 ∷ 12 ∷ []; counters = set (set (replicate 16 (holding (pos 20))) 5 (holding (pos 23))) 6 (marked (holding (pos 20))); results = sums }

-- servers of shard 3: the 7 of 9 at a counter that is no longer full, and the 30 of two others that are
unfoldable pub third : Shown
third = record {
  log = 9 ∷ [];
  counters = set (replicate 16 (marked (holding (pos 30)))) 0 (holding (pos 7));
  results = record { value = pos 7; kept = 0 } ∷ record { value = pos 30; kept = 1 } ∷ record { value = pos 30; kept = 1 } ∷ [];
}

-- servers of a shard show the same; the Fetch was answered with Results; at server 7 the Commit of 12 ran nothing and that of 9 ran two; the Prepare at ballot 21 was answered too, but no drive is where the two were that are gone; five ballots were taken
unfoldable pub end : End
end = record {
  at6 = second;
  at7 = second;
  at8 = second;
  at9 = third;
  at10 = third;
  told = results 12 6 (record { list = sums ++ replicate 6 no_value; count = 2 });
  too_early = commit_ok 12 7 0;
  runs_both = commit_ok 9 7 2;
  unheard = prepare_ok 9 6 21 (some_word 0) no_vote;
  station0 = none;
  station2 = none;
  order = 9 ∷ 12 ∷ [];
  taken = record { number = 12; ballot = 0 } ∷ record { number = 9; ballot = 26 } ∷ record { number = 9; ballot = 10 } ∷ record { number = 9; ballot = 21 } ∷ record { number = 9; ballot = 0 } ∷ [];
}

pub second_witness : (w : World) × (c : Cluster) × Reached w c × (end_of c ≡ end)
unfolding scripts nine twelve tens world exchange gone recovery conflicting late telling script end_of second third end
second_witness =
    let happens : on_end end_of (play world script (at_first world)) ≡ some end = refl in
    let e = ends_with world script end_of end happens in (world, e.0, e.1, e.2)
