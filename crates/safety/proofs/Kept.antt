-- What is kept in every history about ballots and sets: each number lawful, each drive known, each ballot with one drive. And how a step that moves no drive keeps it.
-- Assumes nothing.
use mathlib.Core.Path.{◌≡◌, sym, ◌∙◌, ap, subst}
use mathlib.Core.Logic.{◌⊎◌, inl, inr}
use mathlib.Core.Option.{Option, some}
use mathlib.Core.List.{Memᴰ}
use Prim.Native.Nat.{ℕ, ◌<◌}
use lib.ListN.{length}
use native.Mathlib.Omega.{arith}
use Rattle.rules.specs.declared.Set.{Set}
use Rattle.drive.specs.declared.Answer.{Answer}
use Rattle.drive.specs.declared.Drive.{Drive}
use Rattle.safety.specs.Cluster.{World, Cluster, id_of, ballot_of}
use Rattle.safety.proofs.Slice.{Slice}
use Rattle.safety.proofs.Summary.{Step, free_stays, proposal-stays, chosen-stays}
use Rattle.safety.proofs.Agreement.{Lawful, lawful_kept}
use Rattle.safety.proofs.View.{slice_of, touched_of}
use Rattle.safety.proofs.DriveIn.{Heard, DriveIn}

-- the servers' ids and sizes
pub record Sizes (c : Cluster) : Type 0 where
  pub ids : (i : ℕ) → (c.servers i).id ≡ id_of i
  pub records : (i : ℕ) → length (c.servers i).records ≡ 64

-- each ballot of a number is held by one drive at most, and was taken; what was proposed was at a ballot taken
pub record Ballots (c : Cluster) : Type 0 where
  pub took : (j : ℕ) (d : Drive) → c.stations j ≡ some d → Memᴰ (ballot_of d) c.taken
  pub alone : (i j : ℕ) (d e : Drive) → c.stations i ≡ some d → c.stations j ≡ some e → d.t ≡ e.t → d.ballot ≡ e.ballot → i ≡ j
  pub proposed : (t b : ℕ) (v : Set) → (slice_of c t).Accept b v → Memᴰ (record { number = t; ballot = b }) c.taken

pub record Kept (w : World) (c : Cluster) : Type 0 where
  pub sizes : Sizes c
  pub ballots : Ballots c
  pub drives : (j : ℕ) (d : Drive) → c.stations j ≡ some d → DriveIn w c d
  pub lawful : (t : ℕ) → Lawful (touched_of w t) (slice_of c t)

-- ---- a drive while others step

-- what was sent stays sent
pub record Grows (c c' : Slice) : Type 0 where
  pub pre_accept_ok : {s x : ℕ} → c.PreAcceptOK s x → c'.PreAcceptOK s x

module _ (w : World) (c c' : Cluster) (d : Drive) (st : Step (touched_of w d.t) (slice_of c d.t) (slice_of c' d.t)) (gr : Grows (slice_of c d.t) (slice_of c' d.t)) where
  heard-stays : (p b s : ℕ) (a : Answer) → Heard (slice_of c d.t) p b s a → Heard (slice_of c' d.t) p b s a
  heard-stays p b s a h = record {
    prepared = λ e. st.prepare_ok-stays (h.prepared e);
    worded = h.worded;
    pre_accepted = λ e. gr.pre_accept_ok (h.pre_accepted e);
    accepted = λ e. st.accept_ok-stays (h.accepted e);
  }

  -- where what was proposed at its ballot is what was, or its own set
  pub drive-stays : ((v : Set) → (slice_of c' d.t).Accept d.ballot v → (slice_of c d.t).Accept d.ballot v ⊎ ((d.phase ≡ 2) × (v ≡ d.chosen.set))) → DriveIn w c d → DriveIn w c' d
  drive-stays f di = record {
    named = di.named;
    places = di.places;
    own = di.own;
    heard = λ s q. heard-stays _ _ s _ (di.heard s q);
    stage = record {
      early = λ l v a. early l v (f v a);
      free = λ e p. free_stays st (di.stage.free e p);
      proposed = λ e. proposal-stays st (di.stage.proposed e);
      alone = λ e v a. alone e v (f v a);
      chosen = λ e. chosen-stays st (di.stage.chosen e);
    };
  }
    where
      early : d.phase < 2 → (v : Set) → (slice_of c d.t).Accept d.ballot v ⊎ ((d.phase ≡ 2) × (v ≡ d.chosen.set)) → ⊥
      early l v (inl a) = di.stage.early l v a
      early l v (inr h) = let e = h.0 in omega arith

      alone : d.phase ≡ 2 → (v : Set) → (slice_of c d.t).Accept d.ballot v ⊎ ((d.phase ≡ 2) × (v ≡ d.chosen.set)) → v ≡ d.chosen.set
      alone e v (inl a) = di.stage.alone e v a
      alone e v (inr h) = h.1

-- ---- a step that moves no drive and proposes nothing

module _ (w : World) (c c' : Cluster) (es : c'.stations ≡ c.stations) (et : c'.taken ≡ c.taken) (st : (t : ℕ) → Step (touched_of w t) (slice_of c t) (slice_of c' t)) (gr : (t : ℕ) → Grows (slice_of c t) (slice_of c' t)) where
  pub at_station : (j : ℕ) (d : Drive) → c'.stations j ≡ some d → c.stations j ≡ some d
  at_station j d e = ap (λ (f : ℕ → Option Drive). f j) (sym es) ∙ e

  pub quiet-kept : ((t b : ℕ) (v : Set) → (slice_of c' t).Accept b v → (slice_of c t).Accept b v) → Sizes c' → Kept w c → Kept w c'
  quiet-kept old sz k = record {
    sizes = sz;
    ballots = record {
      took = λ j d e. subst (Memᴰ (ballot_of d)) (sym et) (k.ballots.took j d (at_station j d e));
      alone = λ i j d e p q. k.ballots.alone i j d e (at_station i d p) (at_station j e q);
      proposed = λ t b v a. subst (Memᴰ (record { number = t; ballot = b })) (sym et) (k.ballots.proposed t b v (old t b v a));
    };
    drives = λ j d e. drive-stays w c c' d (st d.t) (gr d.t) (λ v a. inl (old d.t d.ballot v a)) (k.drives j d (at_station j d e));
    lawful = λ t. lawful_kept (st t) (k.lawful t);
  }
