-- A run writes results, counters and the log, and leaves all else that a server holds. Assumes nothing.
use mathlib.Core.Path.{◌≡◌, refl, sym, ◌∙◌, subst}
use mathlib.Core.Bool.{Bool, true, false, cond}
use Prim.Native.Nat.{ℕ, ◌<◌}
use native.Mathlib.Omega.{arith}
use native.Mathlib.Decide.{dec_lt, ℕ_discrete}
use lib.ListN.{length, get_or, set}
use lib.Seq.{get_or-set_same, get_or-set_other, set_out}
use mathlib.Core.List.{List}
use Rattle.masks.proofs.FoldLaws.{over_keeps}
use Rattle.server.specs.declared.Record.{Record}
use Rattle.server.specs.declared.Server.{Server}
use Rattle.server.specs.Held.{record_at}
use Rattle.server.specs.Form.{formed}
use Rattle.server.proofs.RunTurns.{turns-keep}
use Rattle.server.proofs.RunGroups.{one-id, one-long, one-part}
use Rattle.server.specs.Run.{run_one, run_group, next_run, turn, run, turns, run_all, ran_none, ran_from}

-- what a law says of the entries of an array, after one was set
pub set-either : {A : Type 0} (P : A → Type 0) (l : List A) (i j : ℕ) (a d : A) → P (get_or l j d) → (j ≡ i → P a) → P (get_or (set l i a) j d)
set-either P l i j a d h f = go (ℕ_discrete j i) (dec_lt i (length l))
  where
    go : Dec (j ≡ i) → Dec (i < length l) → P (get_or (set l i a) j d)
    go (no n) q = subst P (sym (get_or-set_other l i j a d n)) h
    go (yes e) (yes q) = subst (λ j. P (get_or (set l i a) j d)) (sym e) (subst P (sym (get_or-set_same l i a d q)) (f e))
    go (yes e) (no q) = subst (λ l. P (get_or l j d)) (sym (set_out l i a (omega arith))) h

-- two records that differ in their results alone
pub record SameHeld (v v' : Record) : Type 0 where
  pub pieces : v'.pieces ≡ v.pieces
  pub promise : v'.promise ≡ v.promise
  pub arrival : v'.arrival ≡ v.arrival
  pub accepted : v'.accepted ≡ v.accepted
  pub committed : v'.committed ≡ v.committed

-- two servers that differ in results, counters and log alone
pub record Leaves (s s' : Server) : Type 0 where
  pub id : s'.id ≡ s.id
  pub size : length s'.records ≡ length s.records
  pub held : (u : ℕ) → SameHeld (record_at s u) (record_at s' u)

pub leaves-refl : (s : Server) → Leaves s s
leaves-refl s = record { id = refl; size = refl; held = λ u. record { pieces = refl; promise = refl; arrival = refl; accepted = refl; committed = refl } }

pub leaves-trans : {a b c : Server} → Leaves a b → Leaves b c → Leaves a c
leaves-trans p q = record {
  id = q.id ∙ p.id;
  size = q.size ∙ p.size;
  held = λ u. record {
    pieces = (q.held u).pieces ∙ (p.held u).pieces;
    promise = (q.held u).promise ∙ (p.held u).promise;
    arrival = (q.held u).arrival ∙ (p.held u).arrival;
    accepted = (q.held u).accepted ∙ (p.held u).accepted;
    committed = (q.held u).committed ∙ (p.held u).committed;
  };
}

pub run_one-leaves : (s : Server) (t : ℕ) → Leaves s (run_one s t)
run_one-leaves s t = record {
  id = one-id s t;
  size = one-long s t;
  held = λ u. record {
    pieces = one-part s t (λ v. v.pieces) (λ r v. refl) u;
    promise = one-part s t (λ v. v.promise) (λ r v. refl) u;
    arrival = one-part s t (λ v. v.arrival) (λ r v. refl) u;
    accepted = one-part s t (λ v. v.accepted) (λ r v. refl) u;
    committed = one-part s t (λ v. v.committed) (λ r v. refl) u;
  };
}

pub run_group-leaves : (s : Server) (g : ℕ) → Leaves s (run_group s g)
unfolding run_group
run_group-leaves s g = over_keeps (Leaves s) run_one s g 64 (leaves-refl s) (λ x i l h p. leaves-trans p (run_one-leaves x i))

pub turns-leaves : (n : ℕ) (s : Server) → Leaves s (turns n s)
turns-leaves n s = turns-keep (Leaves s) (λ x p. leaves-trans p (run_group-leaves x (next_run x))) n s (leaves-refl s)

pub run-leaves : (s : Server) → Leaves s (run s).server
unfolding run turn
run-leaves s = go (formed s)
  where
    go : (b : Bool) → Leaves s (cond b (turn s (next_run s)) (ran_none s 13)).server
    go true = run_group-leaves s (next_run s)
    go false = leaves-refl s

pub run_all-leaves : (s : Server) → Leaves s (run_all s).server
unfolding run_all
run_all-leaves s = go (formed s)
  where
    go : (b : Bool) → Leaves s (cond b (ran_from s (turns 64 s)) (ran_none s 13)).server
    go true = turns-leaves 64 s
    go false = leaves-refl s
