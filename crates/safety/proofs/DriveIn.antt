-- What is known of a live drive: its pieces are its number's, its counted answers were sent to it, and what it has decided may be. It stays true while servers and other drives step.
-- Assumes nothing.
use mathlib.Core.Path.{◌≡◌}
use mathlib.Core.Bool.{true}
use Prim.Native.Nat.{ℕ, ◌<◌}
use lib.ListN.{length}
use Rattle.rules.specs.declared.Set.{Set}
use Rattle.rules.specs.Flags.{there}
use Rattle.drive.specs.declared.Answer.{Answer}
use Rattle.drive.specs.declared.Drive.{Drive}
use Rattle.drive.specs.Held.{answer_at, counted, touched, addressed}
use Rattle.safety.specs.Cluster.{World, Cluster}
use Rattle.safety.proofs.Slice.{Slice, Free, Proposal, Chosen}
use Rattle.safety.proofs.View.{slice_of, touched_of}

-- the counted answer of the server s was sent, for this number, ballot and phase
pub record Heard (c : Slice) (phase ballot s : ℕ) (a : Answer) : Type 0 where
  pub prepared : phase ≡ 0 → c.PrepareOK s ballot a.arrival a.accepted
  pub worded : phase ≡ 1 → there a.arrival.some ≡ true
  pub pre_accepted : phase ≡ 1 → c.PreAcceptOK s a.arrival.word
  pub accepted : phase ≡ 2 → c.AcceptOK s ballot

-- before phase 2 nothing was proposed at this ballot; in phase 2 only its set, which may be; in phase 3 its set is chosen
pub record Stage (touched : ℕ) (c : Slice) (d : Drive) : Type 0 where
  pub early : d.phase < 2 → (v : Set) → c.Accept d.ballot v → ⊥
  pub free : d.phase ≡ 1 → 0 < d.ballot → Free touched c d.ballot
  pub proposed : d.phase ≡ 2 → Proposal touched c d.ballot d.chosen.set
  pub alone : d.phase ≡ 2 → (v : Set) → c.Accept d.ballot v → v ≡ d.chosen.set
  pub chosen : d.phase ≡ 3 → Chosen touched c d.chosen.set

pub record DriveIn (w : World) (c : Cluster) (d : Drive) : Type 0 where
  pub named : d.pieces ≡ w.pieces d.t
  pub places : length d.answers ≡ 12
  pub own : (s : ℕ) → counted d s ≡ true → addressed (touched d) s ≡ true
  pub heard : (s : ℕ) → counted d s ≡ true → Heard (slice_of c d.t) d.phase d.ballot s (answer_at d s)
  pub stage : Stage (touched_of w d.t) (slice_of c d.t) d
