-- A step's summary for one number: what may grow, and what each new thing rests on. Every step of a cluster has one, and every invariant is shown kept by it once.
-- Assumes nothing.
use mathlib.Core.Path.{◌≡◌}
use mathlib.Core.Logic.{◌⊎◌}
use Prim.Native.Nat.{ℕ, ◌^◌, ◌≤◌, ◌<◌}
use Rattle.rules.specs.declared.Set.{Set}
use Rattle.rules.specs.declared.MaybeWord.{MaybeWord}
use Rattle.rules.specs.declared.MaybeVote.{MaybeVote}
use Rattle.safety.proofs.Quorum.{maj_map, all_map}
use Rattle.safety.proofs.Slice.{Slice, Holds, Votes, Part, Covers, Unanimous, Prepared, PreparedBare, Free, Justified, free, highest, Proposal, Chosen, quick, voted}

-- the server s accepts v at the ballot b, as it was asked
pub record Voting (c c' : Slice) (s b : ℕ) (v : Set) : Type 0 where
  pub low : c.promise s ≤ b
  pub promises : c'.promise s ≡ b
  pub now : Votes (c'.accepted s) b v
  pub asked : c.Accept b v

-- the server s answers Prepare b with what it holds
pub record Preparing (c c' : Slice) (s b : ℕ) (a : MaybeWord) (o : MaybeVote) : Type 0 where
  pub low : c.promise s ≤ b
  pub promises : c'.promise s ≡ b
  pub arrived : a ≡ c.arrival s
  pub held : o ≡ c.accepted s
  pub quiet : (b' : ℕ) → c'.AcceptOK s b' → c.AcceptOK s b'

-- v is proposed at b, where nothing else was or is
pub record Proposing (touched : ℕ) (c c' : Slice) (b : ℕ) (v : Set) : Type 0 where
  pub sound : Proposal touched c b v
  pub alone : (v' : Set) → c'.Accept b v' → v' ≡ v

pub record Step (touched : ℕ) (c c' : Slice) : Type 0 where
  pub promise-le : (s : ℕ) → c.promise s ≤ c'.promise s
  pub arrival-stays : (s w : ℕ) → Holds (c.arrival s) w → Holds (c'.arrival s) w
  pub arrival-new : (s w : ℕ) → Holds (c'.arrival s) w → Holds (c.arrival s) w ⊎ (w < 2 ^ 64)
  pub accepted-moves : (s : ℕ) → (c'.accepted s ≡ c.accepted s) ⊎ ((b : ℕ) × (v : Set) × Voting c c' s b v)
  pub accept-stays : {b : ℕ} {v : Set} → c.Accept b v → c'.Accept b v
  pub accept_ok-stays : {s b : ℕ} → c.AcceptOK s b → c'.AcceptOK s b
  pub prepare_ok-stays : {s b : ℕ} {a : MaybeWord} {o : MaybeVote} → c.PrepareOK s b a o → c'.PrepareOK s b a o
  pub accept-new : (b : ℕ) (v : Set) → c'.Accept b v → c.Accept b v ⊎ Proposing touched c c' b v
  pub accept_ok-new : (s b : ℕ) → c'.AcceptOK s b → c.AcceptOK s b ⊎ ((v : Set) × Voting c c' s b v)
  pub pre_accept_ok-new : (s w : ℕ) → c'.PreAcceptOK s w → c.PreAcceptOK s w ⊎ Holds (c'.arrival s) w
  pub prepare_ok-new : (s b : ℕ) (a : MaybeWord) (o : MaybeVote) → c'.PrepareOK s b a o → c.PrepareOK s b a o ⊎ Preparing c c' s b a o
  pub commit-new : (v : Set) → c'.Commit v → c.Commit v ⊎ Chosen touched c v

-- ---- what stays true once it is true

module _ {touched : ℕ} {c c' : Slice} (st : Step touched c c') where
  part_stays : (w s : ℕ) → Part c w s → Part c' w s
  part_stays w s h = record { own = h.own; holds = st.arrival-stays s _ h.holds; part = h.part }

  pub covers-stays : {v : Set} → Covers touched c v → Covers touched c' v
  covers-stays h = record {
    parts = λ k t. maj_map (part_stays _) (h.parts k t);
    fixed = λ k t w f. h.fixed k t w (λ s w' i a. f s w' i (st.arrival-stays s w' a));
    outside = h.outside;
    fits = h.fits;
  }

  pub unanimous-stays : {v : Set} → Unanimous touched c v → Unanimous touched c' v
  unanimous-stays h = record { each = λ k t. all_map (λ s a. st.arrival-stays s _ a) (h.each k t); outside = h.outside }

  prepared-stays : (b m s : ℕ) → Prepared touched c b m s → Prepared touched c' b m s
  prepared-stays b m s h = record { a = h.a; o = h.o; said = st.prepare_ok-stays h.said; below = h.below }

  bare-stays : (b s : ℕ) → PreparedBare touched c b s → PreparedBare touched c' b s
  bare-stays b s h = record { a = h.a; o = h.o; said = st.prepare_ok-stays h.said; bare = h.bare }

  pub free_stays : {b : ℕ} → Free touched c b → Free touched c' b
  free_stays {b} h = record { bare = λ k t. maj_map (bare-stays b) (h.bare k t) }

  pub justified-stays : {b : ℕ} {v : Set} → Justified touched c b v → Justified touched c' b v
  justified-stays (free h) = free (free_stays h)
  justified-stays {b} (highest m l a h) = highest m l (st.accept-stays a) (λ k t. maj_map (prepared-stays b m) (h k t))

  pub proposal-stays : {b : ℕ} {v : Set} → Proposal touched c b v → Proposal touched c' b v
  proposal-stays h = record { just = λ p. justified-stays (h.just p); covers = covers-stays h.covers }

  pub chosen-stays : {v : Set} → Chosen touched c v → Chosen touched c' v
  chosen-stays (quick h) = quick (unanimous-stays h)
  chosen-stays (voted b k t a m) = voted b k t (st.accept-stays a) (maj_map (λ s h. st.accept_ok-stays h) m)
