-- At a cluster that is reached, a message that a server refuses changes nothing of the servers, the messages and the order, and a run changes nothing, nor do runs until nothing is left. Assumes nothing.
use mathlib.Core.Path.{◌≡◌, refl, sym, ◌∙◌, ap, subst}
use mathlib.Core.Logic.{◌≢◌}
use mathlib.Core.Bool.{Bool, cond}
use mathlib.Core.List.{◌∷◌}
use Prim.Native.Nat.{ℕ}
use borrow.Author.Tests.{ne_eqb}
use Rattle.wire.specs.declared.Message.{Message}
use Rattle.wire.specs.Messages.{blank}
use Rattle.server.specs.declared.Server.{Server}
use Rattle.server.specs.declared.Ran.{Ran}
use Rattle.server.specs.declared.Served.{Served}
use Rattle.server.specs.Refusals.{refusal}
use Rattle.server.specs.Run.{ran_none, run, run_all}
use Rattle.server.specs.Serve.{serve}
use Rattle.server.proofs.StepIs.{step-refused}
use Rattle.server.proofs.Passed.{serve-refusal}
use Rattle.safety.specs.Orders.{entries}
use Rattle.safety.specs.Cluster.{World, Cluster, answered, ran, Reached}
use Rattle.safety.proofs.View.{put_all}
use Rattle.safety.proofs.Lists.{firsts-known}
use Rattle.safety.proofs.Changes.{Quiet}
use Rattle.safety.proofs.OneOrder.{one_order}
use Rattle.safety.proofs.NothingLeft.{nothing_left}

module _ (w : World) (c : Cluster) (r : Reached w c) (i : ℕ) where
  idle-quiet : (n : ℕ) → Quiet c (ran c i (ran_none (c.servers i) n))
  unfolding ran
  idle-quiet n = record {
    servers = put_all (λ s (x : Server). x ≡ c.servers s) c.servers i (c.servers i) refl (λ s. refl);
    sent = refl;
    order = firsts-known c.order (entries (c.servers i).log) ((one_order w c r).ran i);
  }

  pub run-quiet : Quiet c (ran c i (run (c.servers i)))
  run-quiet = subst (λ (q : Ran). Quiet c (ran c i q)) (sym ((nothing_left w c r).runs i)) (idle-quiet 0)

  pub run_all-quiet : Quiet c (ran c i (run_all (c.servers i)))
  run_all-quiet = subst (λ (q : Ran). Quiet c (ran c i q)) (sym ((nothing_left w c r).runs_out i)) (idle-quiet 0)

  pub refused-quiet : (m : Message) → (serve (c.servers i) m).refusal ≢ 0 → Quiet c (answered c i (serve (c.servers i) m))
  unfolding answered ran
  refused-quiet m n =
      let k : refusal (c.servers i) m ≢ 0 = λ e. n (serve-refusal (c.servers i) m ∙ e) in
      let q = idle-quiet 0 in
      subst (λ (v : Served). Quiet c (answered c i v)) (sym (step-refused (c.servers i) m k))
      (record { servers = q.servers; sent = ap (λ (b : Bool). cond b (blank ∷ c.sent) c.sent) (ne_eqb (refusal (c.servers i) m) 0 k); order = q.order })
