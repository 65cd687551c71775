-- Demand 3: every cluster that is reached is safe. Assumes nothing but what a world gives: one transaction to a number, and the same first counters at the servers of a shard.
use Rattle.safety.specs.Cluster.{World, Cluster, Reached}
use Rattle.safety.specs.Statements.{Safe, Safety}
use Rattle.safety.proofs.Histories.{agreement}
use Rattle.safety.proofs.Coverage.{coverage}
use Rattle.safety.proofs.OneOrder.{one_order, order-grows}
use Rattle.safety.proofs.EqualCounters.{equal-counters}
use Rattle.safety.proofs.InForm.{in_form}
use Rattle.safety.proofs.Never13.{never_13}
use Rattle.safety.proofs.NeverOther.{never_other}
use Rattle.safety.proofs.NothingLeft.{nothing_left}

safe : (w : World) (c : Cluster) → Reached w c → Safe w c
safe w c r = record {
  agreement = agreement w c r;
  coverage = coverage w c r;
  one_order = one_order w c r;
  equal_counters = equal-counters w c r;
  in_form = in_form w c r;
  never13 = never_13 c (in_form w c r);
  never_other = never_other w c r;
  nothing_left = nothing_left w c r;
}

pub safety : (w : World) → Safety w
safety w = record { always = safe w; order_grows = order-grows w }
