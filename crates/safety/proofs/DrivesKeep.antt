-- The drives' steps keep what is kept: a reply heard, a move, a ballot taken, a drive gone. Assumes nothing.
use mathlib.Core.Path.{◌≡◌, refl, sym, ◌∙◌, ap, subst}
use mathlib.Core.Logic.{inl, ◌≢◌}
use mathlib.Core.Bool.{Bool, true, false, cond}
use mathlib.Core.Option.{Option, none, some, some-injective, none-ne-some}
use mathlib.Core.List.{◌∷◌, Memᴰ}
use Prim.Native.Nat.{ℕ, ◌<◌}
use native.Mathlib.Omega.{arith}
use native.Mathlib.Decide.{ℕ_discrete}
use borrow.Author.Tests.{eqb-true}
use lib.Dec.{eqb}
use Rattle.masks.proofs.Bools.{true_and_false}
use Rattle.rules.specs.declared.Pieces.{Pieces}
use Rattle.wire.specs.declared.Message.{Message}
use lib.ListN.{length}
use Rattle.server.specs.declared.Server.{Server}
use Rattle.server.specs.Held.{record_at}
use Rattle.server.proofs.RunLeaves.{SameHeld, leaves-refl}
use Rattle.drive.specs.declared.Drive.{Drive}
use Rattle.drive.specs.declared.Moved.{Moved}
use Rattle.drive.specs.Held.{began as beginning}
use Rattle.drive.specs.Hear.{moved as moved_to, refused}
use Rattle.drive.specs.Host.{unless}
use Rattle.safety.specs.Cluster.{World, Cluster, put, id_of, moved, began, vanished, ballot_of}
use Rattle.safety.proofs.Summary.{Step}
use Rattle.safety.proofs.Agreement.{lawful_kept}
use Rattle.safety.proofs.View.{Said, slice_of, touched_of, put_same, put_other}
use Rattle.safety.proofs.DriveIn.{DriveIn}
use Rattle.drive.proofs.DecideKeepsForm.{nobody}
use Rattle.safety.proofs.Kept.{Sizes, Kept, drive-stays}
use Rattle.safety.proofs.ServersKeep.{still-step}
use Rattle.safety.proofs.DriveMoves.{Follows}

-- what a station holds after one was put
pub data AtStation (f : ℕ → Option Drive) (j : ℕ) (o : Option Drive) (i : ℕ) (e : Drive) : Type 0 where
  here : i ≡ j → o ≡ some e → AtStation f j o i e
  other : i ≢ j → f i ≡ some e → AtStation f j o i e

pub at_station : (f : ℕ → Option Drive) (j : ℕ) (o : Option Drive) (i : ℕ) (e : Drive) → put f j o i ≡ some e → AtStation f j o i e
at_station f j o i e h = go (ℕ_discrete i j)
  where
    go : Dec (i ≡ j) → AtStation f j o i e
    go (yes z) = here z (sym (put_same f j o) ∙ subst (λ i. put f j o i ≡ some e) z h)
    go (no z) = other z (sym (put_other f j o i z) ∙ h)

-- servers and what was sent stay
module _ (w : World) (c c' : Cluster) (es : c'.servers ≡ c.servers) (em : c'.sent ≡ c.sent) where
  step-to : (t : ℕ) → Step (touched_of w t) (slice_of c t) (slice_of c' t)
  step-to = still-step w c c' (λ s u. subst (λ (f : ℕ → Server). SameHeld (record_at (c.servers s) u) (record_at (f s) u)) (sym es) ((leaves-refl (c.servers s)).held u)) em

  said-to : {t k : ℕ} {P : Message → Type 0} → Said c.sent t k P → Said c'.sent t k P
  said-to h = record { message = h.message; within = subst (Memᴰ h.message) (sym em) h.within; coded = h.coded; numbered = h.numbered; says = h.says }

  said-from : {t k : ℕ} {P : Message → Type 0} → Said c'.sent t k P → Said c.sent t k P
  said-from h = record { message = h.message; within = subst (Memᴰ h.message) em h.within; coded = h.coded; numbered = h.numbered; says = h.says }

  drive-to : (d : Drive) → DriveIn w c d → DriveIn w c' d
  drive-to d di = drive-stays w c c' d (step-to d.t) (record { pre_accept_ok = said-to }) (λ v a. inl (said-from a)) di

  sizes-to : Sizes c → Sizes c'
  sizes-to sz = record {
    ids = λ i. subst (λ (f : ℕ → Server). (f i).id ≡ id_of i) (sym es) (sz.ids i);
    records = λ i. subst (λ (f : ℕ → Server). length (f i).records ≡ 64) (sym es) (sz.records i);
  }

-- ---- a drive becomes another of its ballot

module _ (w : World) (c : Cluster) (j : ℕ) (d : Drive) (r : Moved) (at : c.stations j ≡ some d) (k : Kept w c) (fo : Follows w c d r.drive) where
  same-ballot : ballot_of r.drive ≡ ballot_of d
  same-ballot = let p = fo.same.number in let q = fo.same.ballot in λ i. record { number = p i; ballot = q i }

  moved-took : (i : ℕ) (e : Drive) → AtStation c.stations j (some r.drive) i e → Memᴰ (ballot_of e) c.taken
  moved-took i e (here z q) = subst (λ x. Memᴰ (ballot_of x) c.taken) (some-injective _ _ q) (subst (λ x. Memᴰ x c.taken) (sym same-ballot) (k.ballots.took j d at))
  moved-took i e (other z q) = k.ballots.took i e q

  moved-alone : (i i' : ℕ) (e e' : Drive) → AtStation c.stations j (some r.drive) i e → AtStation c.stations j (some r.drive) i' e' → e.t ≡ e'.t → e.ballot ≡ e'.ballot → i ≡ i'
  moved-alone i i' e e' (here z q) (here z' q') n b = z ∙ sym z'
  moved-alone i i' e e' (other z q) (other z' q') n b = k.ballots.alone i i' e e' q q' n b
  moved-alone i i' e e' (here z q) (other z' q') n b =
      let x = some-injective _ _ q in
      absurd (z' (sym (k.ballots.alone j i' d e' at q' (sym fo.same.number ∙ ap (λ (y : Drive). y.t) x ∙ n) (sym fo.same.ballot ∙ ap (λ (y : Drive). y.ballot) x ∙ b))))
  moved-alone i i' e e' (other z q) (here z' q') n b =
      let x = some-injective _ _ q' in
      absurd (z (k.ballots.alone i j e d q at (n ∙ sym (ap (λ (y : Drive). y.t) x) ∙ fo.same.number) (b ∙ sym (ap (λ (y : Drive). y.ballot) x) ∙ fo.same.ballot)))

  pub moved-kept : Kept w (moved c j r)
  unfolding moved
  moved-kept = record {
    sizes = sizes-to w c (moved c j r) refl refl k.sizes;
    ballots = record {
      took = λ i e h. moved-took i e (at_station c.stations j _ i e h);
      alone = λ i i' e e' h h'. moved-alone i i' e e' (at_station c.stations j _ i e h) (at_station c.stations j _ i' e' h');
      proposed = λ t b v a. k.ballots.proposed t b v (said-from w c (moved c j r) refl refl a);
    };
    drives = λ i e h. drives i e (at_station c.stations j _ i e h);
    lawful = λ t. lawful_kept (step-to w c (moved c j r) refl refl t) (k.lawful t);
  }
    where
      drives : (i : ℕ) (e : Drive) → AtStation c.stations j (some r.drive) i e → DriveIn w (moved c j r) e
      drives i e (here z q) = subst (DriveIn w (moved c j r)) (some-injective _ _ q) (drive-to w c (moved c j r) refl refl r.drive fo.known)
      drives i e (other z q) = drive-to w c (moved c j r) refl refl e (k.drives i e q)

-- ---- a ballot is taken

-- what begins: the number's pieces, no answers, nothing proposed at its ballot yet
pub record Begins (w : World) (c : Cluster) (d : Drive) : Type 0 where
  pub known : DriveIn w c d
  pub unused : Memᴰ (ballot_of d) c.taken → ⊥

module _ (w : World) (c : Cluster) (j : ℕ) (d : Drive) (k : Kept w c) (bg : Begins w c d) where
  abbrev C' : Cluster
  C' = record { servers = c.servers; stations = put c.stations j (some d); taken = ballot_of d ∷ c.taken; sent = c.sent; order = c.order }

  pub begun_kept : Kept w C'
  begun_kept = record {
    sizes = sizes-to w c C' refl refl k.sizes;
    ballots = record {
      took = λ i e h. took i e (at_station c.stations j _ i e h);
      alone = λ i i' e e' h h'. alone i i' e e' (at_station c.stations j _ i e h) (at_station c.stations j _ i' e' h');
      proposed = λ t b v a. Memᴰ.tail (k.ballots.proposed t b v (said-from w c C' refl refl a));
    };
    drives = λ i e h. drives i e (at_station c.stations j _ i e h);
    lawful = λ t. lawful_kept (step-to w c C' refl refl t) (k.lawful t);
  }
    where
      took : (i : ℕ) (e : Drive) → AtStation c.stations j (some d) i e → Memᴰ (ballot_of e) (ballot_of d ∷ c.taken)
      took i e (here z q) = Memᴰ.head (ap ballot_of (sym (some-injective _ _ q)))
      took i e (other z q) = Memᴰ.tail (k.ballots.took i e q)

      clash : (i : ℕ) (e : Drive) → c.stations i ≡ some e → e.t ≡ d.t → e.ballot ≡ d.ballot → ⊥
      clash i e q n b = bg.unused (subst (λ x. Memᴰ x c.taken) (λ l. record { number = n l; ballot = b l }) (k.ballots.took i e q))

      alone : (i i' : ℕ) (e e' : Drive) → AtStation c.stations j (some d) i e → AtStation c.stations j (some d) i' e' → e.t ≡ e'.t → e.ballot ≡ e'.ballot → i ≡ i'
      alone i i' e e' (here z q) (here z' q') n b = z ∙ sym z'
      alone i i' e e' (other z q) (other z' q') n b = k.ballots.alone i i' e e' q q' n b
      alone i i' e e' (here z q) (other z' q') n b = let x = some-injective _ _ q in absurd (clash i' e' q' (sym n ∙ sym (ap (λ (y : Drive). y.t) x)) (sym b ∙ sym (ap (λ (y : Drive). y.ballot) x)))
      alone i i' e e' (other z q) (here z' q') n b = let x = some-injective _ _ q' in absurd (clash i e q (n ∙ sym (ap (λ (y : Drive). y.t) x)) (b ∙ sym (ap (λ (y : Drive). y.ballot) x)))

      drives : (i : ℕ) (e : Drive) → AtStation c.stations j (some d) i e → DriveIn w C' e
      drives i e (here z q) = subst (DriveIn w C') (some-injective _ _ q) (drive-to w c C' refl refl d bg.known)
      drives i e (other z q) = drive-to w c C' refl refl e (k.drives i e q)

-- a drive that begins at a ballot not taken, with its number's pieces: at ballot 0 in phase 1, or in phase 0
pub begins : (w : World) (c : Cluster) (t q b p seen : ℕ) (ps : Pieces) → Kept w c → ps ≡ w.pieces t → (Memᴰ (record { number = t; ballot = b }) c.taken → ⊥) → p < 2 → (p ≡ 1 → b ≡ 0) → Begins w c (beginning t q b p ps seen)
begins w c t q b p seen ps k e un l z = record {
  unused = un;
  known = record {
    named = e;
    places = refl;
    own = λ s h. absurd (true_and_false h (nobody s));
    heard = λ s h. absurd (true_and_false h (nobody s));
    stage = record {
      early = λ l v a. un (k.ballots.proposed t b v a);
      free = λ h n. absurd (omega (arith, z h));
      proposed = λ h. absurd (omega arith);
      alone = λ h. absurd (omega arith);
      chosen = λ h. absurd (omega arith);
    };
  };
}

-- a host's call that takes a ballot
pub unless_kept : (w : World) (c : Cluster) (j n : ℕ) (lent z : Drive) → Kept w c → (n ≡ 0 → Begins w c z) → Kept w (began c j (unless lent n z))
unfolding began unless
unless_kept w c j n lent z k f = go (eqb n 0) refl
  where
    go : (b : Bool) → eqb n 0 ≡ b → Kept w (began c j (cond b (moved_to z) (refused lent n)))
    go true e = begun_kept w c j z k (f (eqb-true n 0 e))
    go false e = subst (λ (b : Bool). Kept w (cond b (record { servers = c.servers; stations = put c.stations j (some lent); taken = ballot_of lent ∷ c.taken; sent = c.sent; order = c.order }) c)) (sym e) k

pub vanished_kept : (w : World) (c : Cluster) (j : ℕ) → Kept w c → Kept w (vanished c j)
unfolding vanished
vanished_kept w c j k = record {
  sizes = sizes-to w c (vanished c j) refl refl k.sizes;
  ballots = record {
    took = λ i e h. k.ballots.took i e (left i e (at_station c.stations j none i e h));
    alone = λ i i' e e' h h'. k.ballots.alone i i' e e' (left i e (at_station c.stations j none i e h)) (left i' e' (at_station c.stations j none i' e' h'));
    proposed = λ t b v a. k.ballots.proposed t b v (said-from w c (vanished c j) refl refl a);
  };
  drives = λ i e h. drive-to w c (vanished c j) refl refl e (k.drives i e (left i e (at_station c.stations j none i e h)));
  lawful = λ t. lawful_kept (step-to w c (vanished c j) refl refl t) (k.lawful t);
}
  where
    left : (i : ℕ) (e : Drive) → AtStation c.stations j none i e → c.stations i ≡ some e
    left i e (here z q) = absurd (none-ne-some _ q)
    left i e (other z q) = q
