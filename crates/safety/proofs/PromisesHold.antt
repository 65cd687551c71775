-- A PrepareOK at a ballot says what its server had accepted; below that ballot the server accepts nothing more. Assumes nothing.
use mathlib.Core.Path.{sym, subst}
use mathlib.Core.Logic.{◌⊎◌, inl, inr}
use Prim.Native.Nat.{ℕ, ◌≤◌, ◌<◌}
use native.Mathlib.Omega.{arith}
use Rattle.rules.specs.declared.Set.{Set}
use Rattle.rules.specs.declared.MaybeWord.{MaybeWord}
use Rattle.rules.specs.declared.MaybeVote.{MaybeVote}
use Rattle.safety.proofs.Slice.{Slice, Holds, Votes}
use Rattle.safety.proofs.Summary.{Voting, Preparing, Step}
use Rattle.safety.proofs.AcceptedBelowPromise.{AcceptedBelowPromise}
use Rattle.safety.proofs.VotesStay.{VotesStay}

-- o has something accepted at the ballot b or a higher one
pub record VotesFrom (o : MaybeVote) (b : ℕ) : Type 0 where
  pub at : ℕ
  pub set : Set
  pub holds : Votes o at set
  pub since : b ≤ at

pub record Promised (c : Slice) (s b : ℕ) (a : MaybeWord) (o : MaybeVote) : Type 0 where
  pub low : b ≤ c.promise s
  pub arrived : (w : ℕ) → Holds a w → Holds (c.arrival s) w
  pub below : (b' : ℕ) (v : Set) → Votes o b' v → b' ≤ b
  pub asked : (b' : ℕ) (v : Set) → Votes o b' v → c.Accept b' v
  pub past : (b' : ℕ) → b' < b → c.AcceptOK s b' → VotesFrom o b'

pub record PromisesHold (c : Slice) : Type 0 where
  pub each : (s b : ℕ) (a : MaybeWord) (o : MaybeVote) → c.PrepareOK s b a o → Promised c s b a o

module _ {touched : ℕ} {c c' : Slice} (st : Step touched c c') (low : AcceptedBelowPromise c) (votes : VotesStay c) where
  pub promises-kept : PromisesHold c → PromisesHold c'
  promises-kept i = record { each = λ s b a o k. go s b a o (st.prepare_ok-new s b a o k) }
    where
      past : (s b : ℕ) (a : MaybeWord) (o : MaybeVote) → Promised c s b a o → (b' : ℕ) → b' < b → c.AcceptOK s b' ⊎ ((v : Set) × Voting c c' s b' v) → VotesFrom o b'
      past s b a o h b' l (inl k) = h.past b' l k
      past s b a o h b' l (inr (v, n)) = absurd (omega (arith, n.low, h.low))

      old : (s b : ℕ) (a : MaybeWord) (o : MaybeVote) → Promised c s b a o → Promised c' s b a o
      old s b a o h = record {
        low = omega (arith, h.low, st.promise-le s);
        arrived = λ w e. st.arrival-stays s w (h.arrived w e);
        below = h.below;
        asked = λ b' v e. st.accept-stays (h.asked b' v e);
        past = λ b' l k. past s b a o h b' l (st.accept_ok-new s b' k);
      }

      new : (s b : ℕ) (a : MaybeWord) (o : MaybeVote) → Preparing c c' s b a o → Promised c' s b a o
      new s b a o n =
          let held : (b' : ℕ) (v : Set) → Votes o b' v → Votes (c.accepted s) b' v = λ b' v e. subst (λ (o : MaybeVote). Votes o b' v) n.held e in
          record {
            low = omega (arith, n.promises);
            arrived = λ w e. st.arrival-stays s w (subst (λ (a : MaybeWord). Holds a w) n.arrived e);
            below = λ b' v e. omega (arith, (low.each s b' v (held b' v e)).low, n.low);
            asked = λ b' v e. st.accept-stays (low.each s b' v (held b' v e)).asked;
            past = λ b' l k.
                let h = votes.each s b' (n.quiet b' k) in
                record { at = h.at; set = h.set; holds = subst (λ (o : MaybeVote). Votes o h.at h.set) (sym n.held) h.holds; since = h.since };
          }

      go : (s b : ℕ) (a : MaybeWord) (o : MaybeVote) → c.PrepareOK s b a o ⊎ Preparing c c' s b a o → Promised c' s b a o
      go s b a o (inl k) = old s b a o (i.each s b a o k)
      go s b a o (inr n) = new s b a o n
