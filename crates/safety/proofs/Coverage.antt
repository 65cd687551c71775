-- Of two committed numbers in conflict at a shard, one is in the other's word there. Assumes nothing.
use mathlib.Core.Path.{◌≡◌, sym, subst}
use mathlib.Core.Logic.{◌⊎◌, inl, inr}
use mathlib.Core.Bool.{true, true≢false, false≢true}
use mathlib.Core.List.Memᴰ
use Prim.Native.Nat.{ℕ}
use Rattle.masks.specs.Bits.{In, has}
use Rattle.rules.specs.declared.Pieces.{Pieces}
use Rattle.rules.specs.declared.Set.{Set}
use Rattle.rules.specs.Flags.{there}
use Rattle.rules.specs.Pieces.{pieces_kept}
use Rattle.rules.specs.Conflict.{conflict}
use Rattle.rules.specs.Sets.{word}
use Rattle.server.specs.declared.Record.{Record}
use Rattle.drive.proofs.QuorumOfTwo.{shard_below}
use Rattle.safety.specs.Cluster.{World, Cluster, at_first, Reached}
use Rattle.safety.specs.Statements.{Committed, Coverage}
use Rattle.safety.proofs.Quorum.{Maj, InShard, maj_meet, in_home}
use Rattle.safety.proofs.Slice.{Part, Sub}
use Rattle.safety.proofs.Agreement.{chosen-covers}
use Rattle.safety.proofs.View.{CommitOf, slice_of, touched_of}
use Rattle.safety.proofs.Histories.{at_first_lem, reached-kept}
use Rattle.safety.proofs.Changes.{always}
use Rattle.safety.proofs.Conflicts.{conflict-touches}
use Rattle.rules.proofs.ConflictIs.{conflict-turned}
use Rattle.safety.proofs.PiecesNamed.{NamedRecord, Named, named_kept}
use Rattle.safety.proofs.ArrivalOrder.{ArrivalOrder, order_kept}

module _ (w : World) where
  pub first-named : Named w (at_first w)
  unfolding at_first
  first-named = record {
    records = λ s t. at_first_lem w (λ v. NamedRecord w t v)
        (record { any = λ h. absurd (false≢true h); arrived = λ h. absurd (false≢true h); committed = λ h. absurd (false≢true h); kept = λ h. absurd (false≢true h) })
        (record { any = λ h. absurd (false≢true h); arrived = λ h. absurd (false≢true h); committed = λ h. absurd (false≢true h); kept = λ h. absurd (false≢true h) })
        s t;
    messages = λ m h. absurd (Memᴰ.not-nil h);
  }

  pub reached-named : {c : Cluster} → Reached w c → Named w c
  reached-named r = always w (Named w) (λ c c' k k' ch. named_kept w k ch) first-named r

  first-ordered : ArrivalOrder w (at_first w)
  unfolding at_first
  first-ordered s = record { each = λ t u x y ne h. absurd (at_first_lem w (λ (v : Record). there v.arrival.some ≡ true → ⊥) (λ e. true≢false (sym e)) (λ e. true≢false (sym e)) s t h.some) }

  pub reached-ordered : {c : Cluster} → Reached w c → ArrivalOrder w c
  reached-ordered r = (always w (λ c. Named w c × ArrivalOrder w c) (λ c c' k k' ch h. (named_kept w k ch h.0, order_kept w k h.0 ch h.1)) (first-named, first-ordered) r).1

  pub coverage : (c : Cluster) → Reached w c → Coverage w c
  coverage c r s s' t u k v v' h h' ne cf = go (maj_meet (parts _ t k v h here) (parts _ u k v' h' (touched _ u t k v' h' (conflict-turned k (w.pieces t) (w.pieces u) cf))))
    where
      touched : (s t u k : ℕ) (v : Set) → Committed c s t v → conflict k (w.pieces t) (w.pieces u) ≡ true → has (touched_of w t) k ≡ true
      touched s t u k v h cf =
          let n = (reached-named r).records s t in
          conflict-touches k (w.pieces t) (w.pieces u) (subst (λ (p : Pieces). pieces_kept p ≡ true) (n.committed h.holds) (n.kept h.holds)) cf

      here : has (touched_of w t) k ≡ true
      here = touched _ t u k v h cf

      parts : (s t k : ℕ) (v : Set) → Committed c s t v → has (touched_of w t) k ≡ true → Maj k (Part (slice_of c t) (word v k))
      parts s t k v h z =
          let l = (reached-kept w r).lawful t in
          (chosen-covers l (l.committed.each v (CommitOf.held s h.holds h.is))).parts k z

      up : (x y : ℕ) → Sub x (word v k) → Sub y (word v' k) → In x u ⊎ In y t → In (word v k) u ⊎ In (word v' k) t
      up x y f g (inl z) = inl (f.all u z)
      up x y f g (inr z) = inr (g.all t z)

      go : (s : ℕ) × InShard k s × Part (slice_of c t) (word v k) s × Part (slice_of c u) (word v' k) s → In (word v k) u ⊎ In (word v' k) t
      go (s, i, p, q) = up p.own q.own p.part q.part ((reached-ordered r s).each t u p.own q.own ne p.holds q.holds (subst (λ k. conflict k (w.pieces t) (w.pieces u) ≡ true) (sym (in_home k s (shard_below (w.pieces t) k here) i)) cf))
