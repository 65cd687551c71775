-- A history that happens, so that nothing holds emptily: an exchange over two shards that loses messages, a recovery by another coordinator, Commits that run it at servers of both shards, and a learner that is told of it by a Done, which runs it, and shows the same counters.
-- Assumes nothing.
use mathlib.Core.Path.{◌≡◌, refl}
use mathlib.Core.Bool.{Bool, true, false}
use mathlib.Core.Option.{some}
use mathlib.Core.List.{List, [], ◌∷◌, ◌++◌}
use Prim.Native.Nat.{ℕ}
use lib.IntN.{pos}
use lib.ListN.{replicate, set}
use Rattle.rules.specs.declared.Pieces.{Pieces}
use Rattle.rules.specs.Pieces.{no_piece, put}
use Rattle.wire.specs.declared.Message.{Message}
use Rattle.wire.specs.Messages.{commit_ok}
use Rattle.counters.specs.Effects.{holding, no_counters}
use Rattle.server.specs.Held.{arrived_at, committed_at}
use Rattle.safety.specs.Cluster.{World, Cluster, Taken, at_first, Reached}
use Rattle.safety.proofs.Scripts.{Event, takes, inquires, runs_out, sends, hears, moves_on, starts, recovers, vanishes, sent_as, play, Shown, shown_at, on_end, scripts, ends_with}

-- put 5 on key 3 of shard 0 and on key 0 of shard 1
both : Pieces
both = record { list = record { shard = 0; key = 3; kind = put; operand = pos 5 } ∷ record { shard = 1; key = 0; kind = put; operand = pos 5 } ∷ replicate 6 no_piece; count = 2 }

world : World
world = record { pieces = λ t. both; counters = λ k. no_counters; sixteen = λ k. refl }

-- the origin starts number 8; servers 2 and 5 get nothing, and the answers of 1 and 4 are lost; then the drive is gone
exchange : List Event
exchange = starts 0 0 8 ∷ sends 0 ∷ takes 0 0 ∷ takes 1 0 ∷ takes 3 0 ∷ takes 4 0 ∷ hears 0 1 ∷ hears 0 3 ∷ vanishes 0 ∷ []

-- coordinator 3 recovers it: prepare at ballot 11, then accept, each answered by two servers of each shard
recovery : List Event
recovery =
    recovers 1 3 8 0 ∷ sends 1 ∷ takes 0 5 ∷ takes 1 5 ∷ takes 3 5 ∷ takes 4 5 ∷ hears 1 6 ∷ hears 1 7 ∷ hears 1 8 ∷ hears 1 9 ∷ moves_on 1
    ∷ sends 1 ∷ takes 0 10 ∷ takes 1 10 ∷ takes 3 10 ∷ takes 5 10 ∷ hears 1 11 ∷ hears 1 12 ∷ hears 1 13 ∷ hears 1 14 ∷ []

-- commit at servers of both shards, which run it; server 3 is started again and runs until nothing is left, and there is nothing
commitment : List Event
commitment = sends 1 ∷ takes 0 15 ∷ takes 3 15 ∷ takes 5 15 ∷ runs_out 3 ∷ []

-- server 2 lost its disk: its further life, learner 14, asks server 0 and takes the Done that it answers
rebuilding : List Event
rebuilding = inquires 0 8 ∷ takes 14 19 ∷ []

script : List Event
script = exchange ++ (recovery ++ (commitment ++ rebuilding))

-- ---- what it ends with

pub record End : Type 0 where
  pub at0 : Shown
  pub at3 : Shown
  pub at5 : Shown
  pub at14 : Shown
  pub committed5 : Bool
  pub arrived5 : Bool
  pub arrived14 : Bool
  pub answer0 : Message
  pub answer14 : Message
  pub order : List ℕ
  pub taken : List Taken

unfoldable pub end_of : Cluster → End
end_of c = record {
  at0 = shown_at c 0 8;
  at3 = shown_at c 3 8;
  at5 = shown_at c 5 8;
  at14 = shown_at c 14 8;
  committed5 = committed_at (c.servers 5) 8;
  arrived5 = arrived_at (c.servers 5) 8;
  arrived14 = arrived_at (c.servers 14) 8;
  answer0 = sent_as c 16;
  answer14 = sent_as c 20;
  order = c.order;
  taken = c.taken;
}

-- 8 ran, and put 5 on the key x
unfoldable pub with5 : ℕ → Shown
with5 x = record { log = 8 ∷ []; counters = set (replicate 16 (holding (pos 0))) x (holding (pos 5)); results = record { value = pos 5; kept = 0 } ∷ [] }

-- 8 ran at servers of both shards, and put 5 into a counter of each; the learner shows what server 0 shows; server 5 holds 8 as committed and ran it, and neither it nor the learner ever got its PreAccept; the Commit at server 0 and the Done at the learner, which has the id 2, each ran one number; two ballots were taken
unfoldable pub end : End
end = record {
  at0 = with5 3;
  at3 = with5 0;
  at5 = with5 0;
  at14 = with5 3;
  committed5 = true;
  arrived5 = false;
  arrived14 = false;
  answer0 = commit_ok 8 0 1;
  answer14 = commit_ok 8 2 1;
  order = 8 ∷ [];
  taken = record { number = 8; ballot = 11 } ∷ record { number = 8; ballot = 0 } ∷ [];
}

pub witness : (w : World) × (c : Cluster) × Reached w c × (end_of c ≡ end)
unfolding scripts both world exchange recovery commitment rebuilding script end_of with5 end
witness =
    let happens : on_end end_of (play world script (at_first world)) ≡ some end = refl in
    let e = ends_with world script end_of end happens in (world, e.0, e.1, e.2)
