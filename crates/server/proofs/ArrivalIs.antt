-- The arrival set, both ways: "all numbers with an arrival set here that conflict at this shard". Assumes nothing.
use mathlib.Core.Path.{◌≡◌, sym, ◌∙◌}
use mathlib.Core.Logic.{◌↔◌}
use mathlib.Core.Bool.{true}
use Prim.Native.Nat.{ℕ, ◌/◌, ◌≤◌}
use native.Mathlib.Omega.{arith}
use lib.Dec.{ltb}
use borrow.Author.Tests.{ltb-true, lt-ltb}
use Rattle.masks.specs.Bits.{In}
use Rattle.masks.proofs.Bools.{and_yes, and_yes-l, and_yes_r}
use Rattle.masks.proofs.Laws.{has_in, in_has}
use Rattle.masks.proofs.FoldLaws.{has_mask}
use Rattle.rules.specs.declared.Pieces.{Pieces}
use Rattle.rules.specs.Conflict.{conflict}
use Rattle.wire.proofs.FaultsAre.{There, there_is}
use Rattle.server.specs.declared.Server.{Server}
use Rattle.server.specs.Held.{record_at, arrived_at}
use Rattle.server.specs.Serve.{came_earlier, arrival_set}

pub record Earlier (s : Server) (ps : Pieces) (u : ℕ) : Type 0 where
  pub number : u ≤ 63
  pub arrived : There (record_at s u).arrival.some
  pub conflicts : conflict (s.id / 3) ps (record_at s u).pieces ≡ true

module _ (s : Server) (ps : Pieces) (u : ℕ) where
  pub arrival-is : In (arrival_set s ps) u ↔ Earlier s ps u
  unfolding arrival_set came_earlier
  arrival-is = (there-it, back)
    where
      there-it : In (arrival_set s ps) u → Earlier s ps u
      there-it i =
          let e = sym (has_mask (came_earlier s ps) 64 u) ∙ in_has i in
          let c = and_yes_r (ltb u 64) (came_earlier s ps u) e in
          record {
            number = omega (arith, ltb-true u 64 (and_yes-l (ltb u 64) (came_earlier s ps u) e));
            arrived = (there_is (record_at s u).arrival.some).0 (and_yes-l (arrived_at s u) (conflict (s.id / 3) ps (record_at s u).pieces) c);
            conflicts = and_yes_r (arrived_at s u) (conflict (s.id / 3) ps (record_at s u).pieces) c;
          }

      back : Earlier s ps u → In (arrival_set s ps) u
      back h =
          has_in (has_mask (came_earlier s ps) 64 u
          ∙ and_yes (ltb u 64) (came_earlier s ps u) (lt-ltb u 64 (omega (arith, h.number))) (and_yes (arrived_at s u) (conflict (s.id / 3) ps (record_at s u).pieces) ((there_is (record_at s u).arrival.some).1 h.arrived) h.conflicts))
