-- A station that sends the message due keeps what is kept: a set that it proposes may be proposed, and one that it commits is chosen. Assumes nothing.
use mathlib.Core.Path.{◌≡◌, refl, sym, ◌∙◌, ap, subst}
use mathlib.Core.Logic.{◌⊎◌, inl, inr}
use mathlib.Core.Bool.{Bool, true, false, cond, false≢true}
use mathlib.Core.Option.{some, some-injective}
use mathlib.Core.List.Memᴰ
use mathlib.Core.List.{◌∷◌, Memᴰ}
use Prim.Native.Nat.{ℕ, ◌≤◌}
use native.Mathlib.Omega.{arith}
use native.Mathlib.Decide.{ℕ_discrete}
use borrow.Author.Tests.{eqb-true, eqb-false}
use lib.Dec.{eqb}
use Rattle.rules.specs.declared.Set.{Set}
use Rattle.wire.specs.declared.Message.{Message}
use Rattle.wire.specs.Codes.{Accept}
use Rattle.wire.specs.Messages.{blank, prepare, pre_accept, accept, commit}
use Rattle.server.proofs.RunLeaves.{leaves-refl}
use Rattle.drive.specs.declared.Drive.{Drive}
use Rattle.drive.specs.Held.{touched}
use Rattle.drive.specs.Form.{formed}
use Rattle.drive.specs.Due.{due_message, servers_of, due}
use Rattle.drive.proofs.FormParts.{formed_parts, phase_below}
use Rattle.safety.specs.Cluster.{World, Cluster, asked}
use Rattle.safety.proofs.Summary.{Step}
use Rattle.safety.proofs.Agreement.{lawful_kept}
use Rattle.safety.proofs.View.{CommitOf, slice_of, touched_of, NewSound, of_another, step_of}
use Rattle.safety.proofs.ServerStep.{moves_still, new_or_old}
use Rattle.safety.proofs.DriveIn.{DriveIn}
use Rattle.safety.proofs.Kept.{Kept, drive-stays}
use Rattle.safety.proofs.ServersKeep.{still_kept}

pub data Due (d : Drive) : Message → Type 0 where
  due_prepare : Due d (prepare d.t d.ballot d.pieces)
  due_pre_accept : Due d (pre_accept d.t d.ballot d.pieces)
  due_accept : d.phase ≡ 2 → Due d (accept d.t d.ballot d.pieces d.chosen.set)
  due_commit : d.phase ≡ 3 → Due d (commit d.t d.pieces d.chosen.set)

pub due_is : (d : Drive) → d.phase ≤ 3 → Due d (due_message d)
unfolding due_message
due_is d l = go (eqb d.phase 0) refl (eqb d.phase 1) refl (eqb d.phase 2) refl
  where
    go : (a : Bool) → eqb d.phase 0 ≡ a → (b : Bool) → eqb d.phase 1 ≡ b → (c : Bool) → eqb d.phase 2 ≡ c →
        Due d (cond a (prepare d.t d.ballot d.pieces) (cond b (pre_accept d.t d.ballot d.pieces) (cond c (accept d.t d.ballot d.pieces d.chosen.set) (commit d.t d.pieces d.chosen.set))))
    go true e b e' c e'' = due_prepare
    go false e true e' c e'' = due_pre_accept
    go false e false e' true e'' = due_accept (eqb-true d.phase 2 e'')
    go false e false e' false e'' = due_commit (omega (arith, eqb-false d.phase 0 e, eqb-false d.phase 1 e', eqb-false d.phase 2 e''))

-- only a proposal is an Accept
due-accept : {d : Drive} {m : Message} → Due d m → m.code ≡ Accept → (d.phase ≡ 2) × (m.t ≡ d.t) × (m.ballot ≡ d.ballot) × (m.set ≡ d.chosen.set)
due-accept due_prepare e = absurd (omega arith)
due-accept due_pre_accept e = absurd (omega arith)
due-accept (due_accept p) e = (p, refl, refl, refl)
due-accept (due_commit p) e = absurd (omega arith)

module _ (w : World) (c : Cluster) (j : ℕ) (d : Drive) (m : Message) (at : c.stations j ≡ some d) (k : Kept w c) (du : Due d m) where
  abbrev C' : Cluster
  C' = record { servers = c.servers; stations = c.stations; taken = c.taken; sent = m ∷ c.sent; order = c.order }

  di : DriveIn w c d
  di = k.drives j d at

  -- what is proposed after it was before, or is this drive's
  accept-or : (t b : ℕ) (v : Set) → (slice_of C' t).Accept b v → (slice_of c t).Accept b v ⊎ ((d.phase ≡ 2) × (t ≡ d.t) × (b ≡ d.ballot) × (v ≡ d.chosen.set))
  accept-or t b v a = go (Memᴰ.cases_cons a.within)
    where
      go : (a.message ≡ m) ⊎ Memᴰ a.message c.sent → (slice_of c t).Accept b v ⊎ ((d.phase ≡ 2) × (t ≡ d.t) × (b ≡ d.ballot) × (v ≡ d.chosen.set))
      go (inr h) = inl (record { message = a.message; within = h; coded = a.coded; numbered = a.numbered; says = a.says })
      go (inl e) =
          let r = due-accept du (ap (λ (x : Message). x.code) (sym e) ∙ a.coded) in
          inr (r.0, sym a.numbered ∙ ap (λ (x : Message). x.t) e ∙ r.1, sym a.says.0 ∙ ap (λ (x : Message). x.ballot) e ∙ r.2, sym a.says.1 ∙ ap (λ (x : Message). x.set) e ∙ r.3)

  sound-here : {x : Message} → Due d x → x ≡ m → NewSound (touched_of w d.t) (slice_of c d.t) (slice_of C' d.t) d.t x
  sound-here due_prepare e = record {
    accept = λ z n. absurd (omega arith);
    accept_ok = λ z n. absurd (omega arith);
    pre_accept_ok = λ z n. absurd (omega arith);
    prepare_ok = λ z n. absurd (omega arith);
    commit = λ z n. absurd (false≢true z);
  }
  sound-here due_pre_accept e = record {
    accept = λ z n. absurd (omega arith);
    accept_ok = λ z n. absurd (omega arith);
    pre_accept_ok = λ z n. absurd (omega arith);
    prepare_ok = λ z n. absurd (omega arith);
    commit = λ z n. absurd (false≢true z);
  }
  sound-here (due_accept p) e = record {
    accept = λ z n. record { sound = di.stage.proposed p; alone = λ v a. alone v (accept-or d.t d.ballot v a) };
    accept_ok = λ z n. absurd (omega arith);
    pre_accept_ok = λ z n. absurd (omega arith);
    prepare_ok = λ z n. absurd (omega arith);
    commit = λ z n. absurd (false≢true z);
  }
    where
      alone : (v : Set) → (slice_of c d.t).Accept d.ballot v ⊎ ((d.phase ≡ 2) × (d.t ≡ d.t) × (d.ballot ≡ d.ballot) × (v ≡ d.chosen.set)) → v ≡ d.chosen.set
      alone v (inl a) = di.stage.alone p v a
      alone v (inr h) = h.3
  sound-here (due_commit p) e = record {
    accept = λ z n. absurd (omega arith);
    accept_ok = λ z n. absurd (omega arith);
    pre_accept_ok = λ z n. absurd (omega arith);
    prepare_ok = λ z n. absurd (omega arith);
    commit = λ z n. inr (di.stage.chosen p);
  }

  due-number : {x : Message} → Due d x → x.t ≡ d.t
  due-number due_prepare = refl
  due-number due_pre_accept = refl
  due-number (due_accept p) = refl
  due-number (due_commit p) = refl

  sound : (t : ℕ) → NewSound (touched_of w t) (slice_of c t) (slice_of C' t) t m
  sound t = go (ℕ_discrete d.t t)
    where
      go : Dec (d.t ≡ t) → NewSound (touched_of w t) (slice_of c t) (slice_of C' t) t m
      go (yes e) = subst (λ t. NewSound (touched_of w t) (slice_of c t) (slice_of C' t) t m) e (sound-here du refl)
      go (no n) = of_another (touched_of w t) (slice_of c t) (slice_of C' t) t m (λ e. n (sym (due-number du) ∙ e))

  step-sent : (t : ℕ) → Step (touched_of w t) (slice_of c t) (slice_of C' t)
  step-sent t = step_of (touched_of w t) c C' t
      (λ s. moves_still c C' t s refl)
      (λ x h. Memᴰ.tail h)
      (new_or_old (NewSound (touched_of w t) (slice_of c t) (slice_of C' t) t) m c.sent (sound t))
      (λ s v h e. inl (CommitOf.held s h e))

  -- a drive with this number and ballot is this one
  own-proposal : (i : ℕ) (e : Drive) → c.stations i ≡ some e → (v : Set) → (slice_of C' e.t).Accept e.ballot v → (slice_of c e.t).Accept e.ballot v ⊎ ((e.phase ≡ 2) × (v ≡ e.chosen.set))
  own-proposal i e q v a = go (accept-or e.t e.ballot v a)
    where
      go : (slice_of c e.t).Accept e.ballot v ⊎ ((d.phase ≡ 2) × (e.t ≡ d.t) × (e.ballot ≡ d.ballot) × (v ≡ d.chosen.set)) → (slice_of c e.t).Accept e.ballot v ⊎ ((e.phase ≡ 2) × (v ≡ e.chosen.set))
      go (inl h) = inl h
      go (inr h) =
          let z = k.ballots.alone i j e d q at h.1 h.2 in
          let s : d ≡ e = some-injective _ _ (sym at ∙ subst (λ i. c.stations i ≡ some e) z q) in
          inr (subst (λ (x : Drive). (x.phase ≡ 2) × (v ≡ x.chosen.set)) s (h.0, h.3))

  pub sent-kept : Kept w C'
  sent-kept = record {
    sizes = record { ids = k.sizes.ids; records = k.sizes.records };
    ballots = record {
      took = k.ballots.took;
      alone = k.ballots.alone;
      proposed = λ t b v a. took t b v (accept-or t b v a);
    };
    drives = λ i e q. drive-stays w c C' e (step-sent e.t) (record { pre_accept_ok = λ h. record { message = h.message; within = Memᴰ.tail h.within; coded = h.coded; numbered = h.numbered; says = h.says } }) (own-proposal i e q) (k.drives i e q);
    lawful = λ t. lawful_kept (step-sent t) (k.lawful t);
  }
    where
      took : (t b : ℕ) (v : Set) → (slice_of c t).Accept b v ⊎ ((d.phase ≡ 2) × (t ≡ d.t) × (b ≡ d.ballot) × (v ≡ d.chosen.set)) → Memᴰ (record { number = t; ballot = b }) c.taken
      took t b v (inl a) = k.ballots.proposed t b v a
      took t b v (inr h) = let p = h.1 in let q = h.2 in subst (λ x. Memᴰ x c.taken) (λ i. record { number = sym p i; ballot = sym q i }) (k.ballots.took j d at)

pub asked_kept : (w : World) (c : Cluster) (j : ℕ) (d : Drive) → c.stations j ≡ some d → Kept w c → Kept w (asked c (due d))
unfolding asked due
asked_kept w c j d at k = go (formed d) refl
  where
    go : (b : Bool) → formed d ≡ b → Kept w (asked c (cond b (record { refusal = 0; message = due_message d; servers = servers_of (touched d) }) (record { refusal = 13; message = blank; servers = 0 })))
    go true e = sent-kept w c j d (due_message d) at k (due_is d (phase_below d (formed_parts d e)))
    go false e = still_kept w c _ (λ s u. (leaves-refl (c.servers s)).held u) refl refl refl (record { ids = k.sizes.ids; records = k.sizes.records }) k
