-- Every cluster that is reached keeps what is kept; and so committed sets agree. Assumes nothing.
use mathlib.Core.Path.{◌≡◌, refl, sym, subst}
use mathlib.Core.Logic.{◌⊎◌, inl, inr}
use mathlib.Core.Bool.{true, true≢false}
use mathlib.Core.Option.{some, none-ne-some}
use mathlib.Core.List.Memᴰ
use mathlib.Core.List.{Memᴰ}
use Prim.Native.Nat.{ℕ, zero, suc}
use native.Mathlib.Omega.{arith}
use lib.Dec.{lit<}
use lib.ListN.{get_or, replicate}
use Rattle.rules.specs.declared.Set.{Set}
use Rattle.rules.specs.Flags.{there}
use Rattle.rules.specs.Ballots.{next_above}
use Rattle.wire.specs.declared.Message.{Message}
use Rattle.server.specs.declared.Record.{Record}
use Rattle.server.specs.Held.{no_record, fresh_record, record_at}
use Rattle.server.specs.Host.{fresh_server}
use Rattle.server.specs.Run.{run, run_all}
use Rattle.server.proofs.RunLeaves.{run-leaves, run_all-leaves}
use Rattle.drive.specs.declared.Drive.{Drive}
use Rattle.drive.specs.Hear.{hear}
use Rattle.drive.specs.Host.{start_refusal, start, recover_refusal, recover, above, again_refusal, again, unless, move_on}
use Rattle.drive.specs.Held.{began}
use Rattle.safety.specs.Cluster.{World, Cluster, ballot_of, first_server, at_first, Next, takes, runs, runs_out, sends, hears, moves_on, starts, recovers, tries_again, vanishes, Reached, fresh, then, Unused}
use Rattle.safety.specs.Statements.{Agreement}
use Rattle.safety.proofs.Agreement.{chosen-agree}
use Rattle.safety.proofs.View.{Said, CommitOf, sent, held, record_of}
use Rattle.safety.proofs.Kept.{Kept}
use Rattle.safety.proofs.ServersKeep.{answered-kept, ran_kept}
use Rattle.safety.proofs.DriveMoves.{hear-follows, move_on-follows}
use Rattle.safety.proofs.DrivesKeep.{moved-kept, begins, unless_kept, vanished_kept}
use Rattle.safety.proofs.SendsKeep.{asked_kept}

-- ---- at first

-- a fresh server holds nothing of any number
pub fresh_record_lem : (w : World) (i t : ℕ) → (record_at (first_server w i) t ≡ fresh_record) ⊎ (record_at (first_server w i) t ≡ no_record)
unfolding first_server fresh_server
fresh_record_lem w i t = go 64 t
  where
    go : (n t : ℕ) → (get_or (replicate n fresh_record) t no_record ≡ fresh_record) ⊎ (get_or (replicate n fresh_record) t no_record ≡ no_record)
    go zero t = inr refl
    go (suc n) zero = inl refl
    go (suc n) (suc t) = go n t

module _ (w : World) where
  -- what is so of no record and of a fresh one is so at first
  pub at_first_lem : (P : Record → Type 0) → P fresh_record → P no_record → (s t : ℕ) → P (record_of (at_first w) s t)
  unfolding at_first
  at_first_lem P f n s t = go (fresh_record_lem w s t)
    where
      go : (record_at (first_server w s) t ≡ fresh_record) ⊎ (record_at (first_server w s) t ≡ no_record) → P (record_at (first_server w s) t)
      go (inl e) = subst P (sym e) f
      go (inr e) = subst P (sym e) n

  nothing-sent : {t k : ℕ} {P : Message → Type 0} → Said (at_first w).sent t k P → ⊥
  unfolding at_first
  nothing-sent h = Memᴰ.not-nil h.within

  nothing-accepted : (s t : ℕ) → there (record_of (at_first w) s t).accepted.some ≡ true → ⊥
  nothing-accepted = at_first_lem (λ (v : Record). there v.accepted.some ≡ true → ⊥) (λ e. true≢false (sym e)) (λ e. true≢false (sym e))

  nothing-arrived : (s t : ℕ) → there (record_of (at_first w) s t).arrival.some ≡ true → ⊥
  nothing-arrived = at_first_lem (λ (v : Record). there v.arrival.some ≡ true → ⊥) (λ e. true≢false (sym e)) (λ e. true≢false (sym e))

  nothing-committed : (s t : ℕ) → there (record_of (at_first w) s t).committed.some ≡ true → ⊥
  nothing-committed = at_first_lem (λ (v : Record). there v.committed.some ≡ true → ⊥) (λ e. true≢false (sym e)) (λ e. true≢false (sym e))

  no-commit : (t : ℕ) (v : Set) → CommitOf (at_first w) t v → ⊥
  unfolding at_first
  no-commit t v (sent m k e n z) = Memᴰ.not-nil k
  no-commit t v (held s k e) = nothing-committed s t k

  no-drive : (j : ℕ) (d : Drive) → (at_first w).stations j ≡ some d → ⊥
  unfolding at_first
  no-drive j d e = none-ne-some d e

  first-kept : Kept w (at_first w)
  first-kept = record {
    sizes = record { ids = λ i. unfold at_first first_server fresh_server in refl; records = λ i. unfold at_first first_server fresh_server in refl };
    ballots = record {
      took = λ j d e. absurd (no-drive j d e);
      alone = λ i j d e p. absurd (no-drive i d p);
      proposed = λ t b v a. absurd (nothing-sent a);
    };
    drives = λ j d e. absurd (no-drive j d e);
    lawful = λ t. record {
      accepted = record { each = λ s b v h. absurd (nothing-accepted s t h.some) };
      votes = record { each = λ s b h. absurd (nothing-sent h) };
      promises = record { each = λ s b a o h. absurd (nothing-sent h) };
      words = record { each = λ s x h. absurd (nothing-sent h) };
      fit = record { each = λ s x h. absurd (nothing-arrived s t h.some) };
      proposals = record { one = λ b v v' h. absurd (nothing-sent h); sound = λ b v h. absurd (nothing-sent h) };
      committed = record { each = λ v h. absurd (no-commit t v h) };
    };
  }

-- ---- each step

module _ (w : World) where
  not_taken_lem : (c : Cluster) (n : ℕ) (lent z : Drive) → Unused c (unless lent n z) → n ≡ 0 → Memᴰ (ballot_of z) c.taken → ⊥
  unfolding unless
  not_taken_lem c n lent z u e = subst (λ n. Unused c (unless lent n z)) e u refl

  pub next-kept : {c c' : Cluster} → Next w c c' → Kept w c → Kept w c'
  unfolding start recover again
  next-kept {c} (takes i m may r) k = answered-kept w c i m may r k
  next-kept {c} (runs i) k = ran_kept w c i (run (c.servers i)) (run-leaves (c.servers i)) k
  next-kept {c} (runs_out i) k = ran_kept w c i (run_all (c.servers i)) (run_all-leaves (c.servers i)) k
  next-kept {c} (sends j d at) k = asked_kept w c j d at k
  next-kept {c} (hears j d m at h) k = moved-kept w c j d (hear d m) at k (hear-follows w c d (k.drives j d at) (k.lawful d.t) m h)
  next-kept {c} (moves_on j d at) k = moved-kept w c j d (move_on d) at k (move_on-follows w c d (k.drives j d at) (k.lawful d.t))
  next-kept {c} (starts j lent q t u) k =
      unless_kept w c j (start_refusal q t (w.pieces t)) lent (began t q 0 1 (w.pieces t) 0) k
      (λ e. begins w c t q 0 1 0 (w.pieces t) k refl (not_taken_lem c (start_refusal q t (w.pieces t)) lent (began t q 0 1 (w.pieces t) 0) u e) (lit< tt) (λ z. refl))
  next-kept {c} (recovers j lent q t floor u) k =
      unless_kept w c j (recover_refusal q t (w.pieces t) floor) lent (began t q (next_above q floor) 0 (w.pieces t) 0) k
      (λ e. begins w c t q (next_above q floor) 0 0 (w.pieces t) k refl (not_taken_lem c (recover_refusal q t (w.pieces t) floor) lent (began t q (next_above q floor) 0 (w.pieces t) 0) u e) (lit< tt) (λ z. absurd (omega arith)))
  next-kept {c} (tries_again j d at u) k =
      let z = began d.t d.coordinator (next_above d.coordinator (above d)) 0 d.pieces d.seen in
      unless_kept w c j (again_refusal d) d z k
      (λ e. begins w c d.t d.coordinator (next_above d.coordinator (above d)) 0 d.seen d.pieces k (k.drives j d at).named (not_taken_lem c (again_refusal d) d z u e) (lit< tt) (λ z. absurd (omega arith)))
  next-kept {c} (vanishes j) k = vanished_kept w c j k

  pub reached-kept : {c : Cluster} → Reached w c → Kept w c
  reached-kept fresh = first-kept w
  reached-kept (then r s) = next-kept s (reached-kept r)

-- ---- agreement

pub agreement : (w : World) (c : Cluster) → Reached w c → Agreement c
agreement w c r s s' t v v' h h' =
    let l = (reached-kept w r).lawful t in
    chosen-agree l (l.committed.each v (CommitOf.held _ h.holds h.is)) (l.committed.each v' (CommitOf.held _ h'.holds h'.is))
