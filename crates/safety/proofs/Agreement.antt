-- Any two chosen sets of a number are equal. Assumes nothing.
use mathlib.Core.Path.{◌≡◌, refl, sym, ◌∙◌, subst}
use mathlib.Core.Bool.{Bool, true, false, true≢false}
use Prim.Native.Nat.{ℕ, zero, suc, ◌^◌, ◌≤◌, ◌<◌}
use native.Mathlib.Omega.{arith}
use native.Mathlib.Decide.{dec_le, ℕ_discrete}
use lib.Pow.{pow_pos}
use Rattle.masks.specs.Bits.{has}
use Rattle.rules.specs.declared.Set.{Set}
use Rattle.rules.specs.Sets.{word}
use Rattle.rules.proofs.SetLaws.{same-words}
use Rattle.safety.proofs.Quorum.{Maj, InShard, maj_meet, all_at, all_maj, maj_map}
use Rattle.safety.proofs.Slice.{Slice, Covers, Unanimous, Justified, free, highest, Chosen, quick, voted}
use Rattle.safety.proofs.Summary.{Step}
use Rattle.safety.proofs.AcceptedBelowPromise.{AcceptedBelowPromise, accepted-kept}
use Rattle.safety.proofs.VotesStay.{VotesStay, votes-kept}
use Rattle.safety.proofs.PromisesHold.{PromisesHold, promises-kept}
use Rattle.safety.proofs.WordsAreTrue.{WordsAreTrue, words-kept}
use Rattle.safety.proofs.ArrivalsFit.{ArrivalsFit, fit-kept}
use Rattle.safety.proofs.OneProposal.{OneProposal, proposal-kept}
use Rattle.safety.proofs.CommittedIsChosen.{CommittedIsChosen, committed-kept}

-- all that is kept of one number
pub record Lawful (touched : ℕ) (c : Slice) : Type 0 where
  pub accepted : AcceptedBelowPromise c
  pub votes : VotesStay c
  pub promises : PromisesHold c
  pub words : WordsAreTrue c
  pub fit : ArrivalsFit c
  pub proposals : OneProposal touched c
  pub committed : CommittedIsChosen touched c

pub lawful_kept : {touched : ℕ} {c c' : Slice} → Step touched c c' → Lawful touched c → Lawful touched c'
lawful_kept st l = record {
  accepted = accepted-kept st l.accepted;
  votes = votes-kept st l.accepted l.votes;
  promises = promises-kept st l.accepted l.votes l.promises;
  words = words-kept st l.words;
  fit = fit-kept st l.fit;
  proposals = proposal-kept st l.proposals;
  committed = committed-kept st l.committed;
}

module _ {touched : ℕ} {c : Slice} where
  -- a set that covers the arrivals is the one that all the words are
  unanimous-covered : {v v' : Set} → Unanimous touched c v → Covers touched c v' → v ≡ v'
  unanimous-covered {v} {v'} a h = same-words v v' (λ k l. go k l (has touched k) refl)
    where
      go : (k : ℕ) → k < 4 → (t : Bool) → has touched k ≡ t → word v k ≡ word v' k
      go k l true t = sym (h.fixed k t (word v k) (λ s w i e. let z = all_at (a.each k t) i in sym e.is ∙ z.is))
      go k l false t = a.outside k l t ∙ sym (h.outside k l t)

  unanimous-covers : ArrivalsFit c → {v : Set} → Unanimous touched c v → Covers touched c v
  unanimous-covers f {v} a = record {
    parts = λ k t. maj_map (λ s h. record { own = _; holds = h; part = record { all = λ i z. z } }) (all_maj (a.each k t));
    fixed = λ k t w f. f _ _ (InShard.i0 refl) (a.each k t).a0;
    outside = a.outside;
    fits = λ k l. fits k l (has touched k) refl;
  }
    where
      fits : (k : ℕ) → k < 4 → (t : Bool) → has touched k ≡ t → word v k < 2 ^ 64
      fits k l true t = f.each _ _ (a.each k t).a0
      fits k l false t = subst (λ w. w < 2 ^ 64) (sym (a.outside k l t)) (pow_pos 64)

  pub chosen-covers : Lawful touched c → {v : Set} → Chosen touched c v → Covers touched c v
  chosen-covers l (quick a) = unanimous-covers l.fit a
  chosen-covers l (voted b k t a m) = (l.proposals.sound b _ a).covers

  -- once v has the votes of two servers of a shard at b, nothing else is proposed at b or above
  module _ (l : Lawful touched c) (b k : ℕ) (v : Set) (t : has touched k ≡ true) (a : c.Accept b v) (m : Maj k (λ s. c.AcceptOK s b)) where
    proposed_at : (n b' : ℕ) (v' : Set) → b' < n → b ≤ b' → c.Accept b' v' → v' ≡ v
    proposed_at zero b' v' h q a' = absurd (omega arith)
    proposed_at (suc n) b' v' h q a' = at (λ b₂ p. proposed_at n b₂ v' p) (ℕ_discrete b b')
      where
        above : ((b₂ : ℕ) → b₂ < n → b ≤ b₂ → c.Accept b₂ v' → v' ≡ v) → b < b' → Justified touched c b' v' → v' ≡ v
        above ih p (free f) =
            let r = maj_meet m (f.bare k t) in
            let g = (l.promises.each _ _ _ _ r.3.said).past b p r.2 in
            absurd (true≢false (sym g.holds.some ∙ r.3.bare))
        above ih p (highest b₂ p₂ a₂ f) =
            let r = maj_meet m (f k t) in
            let g = (l.promises.each _ _ _ _ r.3.said).past b p r.2 in
            ih b₂ (omega (arith, p₂)) (omega (arith, g.since, g.holds.at, r.3.below g.holds.some)) a₂

        at : ((b₂ : ℕ) → b₂ < n → b ≤ b₂ → c.Accept b₂ v' → v' ≡ v) → Dec (b ≡ b') → v' ≡ v
        at ih (yes e) = l.proposals.one b v' v (subst (λ n. c.Accept n v') (sym e) a') a
        at ih (no e) = above ih (omega arith) ((l.proposals.sound b' v' a').just (omega arith))

  pub chosen-agree : Lawful touched c → {v v' : Set} → Chosen touched c v → Chosen touched c v' → v ≡ v'
  chosen-agree l (quick a) q = unanimous-covered a (chosen-covers l q)
  chosen-agree l (voted b k t a m) (quick a') = sym (unanimous-covered a' (l.proposals.sound b _ a).covers)
  chosen-agree l {v} {v'} (voted b k t a m) (voted b' k' t' a' m') = go (dec_le b b')
    where
      go : Dec (b ≤ b') → v ≡ v'
      go (yes h) = sym (proposed_at l b k v t a m (suc b') b' v' (omega arith) h a')
      go (no h) = proposed_at l b' k' v' t' a' m' (suc b) b v (omega arith) (omega arith) a
