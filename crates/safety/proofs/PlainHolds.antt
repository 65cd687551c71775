-- Demand 3 in plain numbers, whole: what `Plain` shows, and that nothing waits. It stands apart from `Plain`, whose must-fail edits are so refused at what they make false.
-- Assumes nothing.
use mathlib.Core.Path.{ap}
use Prim.Native.Nat.{ℕ, ◌<◌}
use Rattle.server.specs.declared.Ran.{Ran}
use Rattle.safety.specs.Cluster.{World, Cluster, Reached}
use Rattle.safety.specs.Plain.{NothingWaits, Plain}
use Rattle.safety.proofs.Plain.{safe, same-words, one-has-the-other, never-turned, one_list, same-shown, sent-is-taken, no-bad-form, server-kept, all-ran, drive-kept, order-stays}

module _ (w : World) (c : Cluster) (r : Reached w c) where
  nothing-waits : (s : ℕ) → s < 12 → NothingWaits c s
  nothing-waits s l = record {
    closed = all-ran w c r s;
    runs = let e = (safe w c r).nothing_left.runs s in (ap (λ (r : Ran). r.refusal) e, ap (λ (r : Ran). r.many) e, ap (λ (r : Ran). r.server) e);
    runs_out = let e = (safe w c r).nothing_left.runs_out s in (ap (λ (r : Ran). r.refusal) e, ap (λ (r : Ran). r.many) e, ap (λ (r : Ran). r.server) e);
  }

pub plain : (w : World) → Plain w
plain w = record {
  same_words = same-words w;
  one_has_the_other = one-has-the-other w;
  never_turned = never-turned w;
  one_list = one_list w;
  same_shown = same-shown w;
  sent_is_taken = sent-is-taken w;
  no_bad_form = no-bad-form w;
  server_kept = server-kept w;
  nothing_waits = nothing-waits w;
  drive_kept = drive-kept w;
  order_stays = λ c c' r l. order-stays w c r l;
}
