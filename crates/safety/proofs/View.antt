-- The cluster seen from one number, and a step's summary made of what the step did to the records and of the one message that it sent.
-- Assumes nothing.
use mathlib.Core.Path.{◌≡◌, refl, sym, subst}
use mathlib.Core.Logic.{◌⊎◌, inl, inr, ◌≢◌}
use mathlib.Core.Bool.{Bool, true, false}
use mathlib.Core.List.{List, Memᴰ}
use Prim.Native.Nat.{ℕ, ◌^◌, ◌≤◌, ◌<◌}
use native.Mathlib.Decide.{ℕ_discrete}
use borrow.Author.Tests.{eq-eqb, ne_eqb}
use lib.Dec.{eqb}
use Rattle.rules.specs.Choice.{◌if◌else◌}
use Rattle.rules.specs.declared.Set.{Set}
use Rattle.rules.specs.declared.MaybeWord.{MaybeWord}
use Rattle.rules.specs.declared.MaybeVote.{MaybeVote}
use Rattle.rules.specs.Pieces.{shards_of}
use Rattle.wire.specs.declared.Message.{Message}
use Rattle.wire.specs.Codes.{Accept, AcceptOK, PreAcceptOK, PrepareOK, commits}
use Rattle.server.specs.declared.Record.{Record}
use Rattle.server.specs.Held.{record_at, committed_at}
use Rattle.safety.specs.Cluster.{World, Cluster, put}
use Rattle.safety.proofs.Slice.{Slice, Holds, Chosen}
use Rattle.safety.proofs.Summary.{Voting, Preparing, Proposing, Step}

-- a message of t with this code is in l, and says P
pub record Said (l : List Message) (t code : ℕ) (P : Message → Type 0) : Type 0 where
  pub message : Message
  pub within : Memᴰ message l
  pub coded : message.code ≡ code
  pub numbered : message.t ≡ t
  pub says : P message

abbrev pub SaysAccept : ℕ → Set → Message → Type 0
SaysAccept b v m = (m.ballot ≡ b) × (m.set ≡ v)

abbrev pub SaysAcceptOK : ℕ → ℕ → Message → Type 0
SaysAcceptOK s b m = (m.server ≡ s) × (m.ballot ≡ b)

abbrev pub SaysPreAcceptOK : ℕ → ℕ → Message → Type 0
SaysPreAcceptOK s w m = (m.server ≡ s) × (m.word ≡ w)

pub record SaysPrepareOK (s b : ℕ) (a : MaybeWord) (o : MaybeVote) (m : Message) : Type 0 where
  pub server : m.server ≡ s
  pub ballot : m.ballot ≡ b
  pub arrival : m.arrival ≡ a
  pub accepted : m.accepted ≡ o

-- what the server s holds for t
abbrev pub record_of : Cluster → ℕ → ℕ → Record
record_of c s t = record_at (c.servers s) t

pub data CommitOf (c : Cluster) (t : ℕ) (v : Set) : Type 0 where
  sent : (m : Message) → Memᴰ m c.sent → commits m.code ≡ true → m.t ≡ t → m.set ≡ v → CommitOf c t v
  held : (s : ℕ) → committed_at (c.servers s) t ≡ true → (record_of c s t).committed.set ≡ v → CommitOf c t v

abbrev pub slice_of : Cluster → ℕ → Slice
slice_of c t = record {
  promise = λ s. (record_of c s t).promise;
  arrival = λ s. (record_of c s t).arrival;
  accepted = λ s. (record_of c s t).accepted;
  Accept = λ b v. Said c.sent t Accept (SaysAccept b v);
  AcceptOK = λ s b. Said c.sent t AcceptOK (SaysAcceptOK s b);
  PreAcceptOK = λ s w. Said c.sent t PreAcceptOK (SaysPreAcceptOK s w);
  PrepareOK = λ s b a o. Said c.sent t PrepareOK (SaysPrepareOK s b a o);
  Commit = CommitOf c t;
}

-- the shards that t touches
abbrev pub touched_of : World → ℕ → ℕ
touched_of w t = shards_of (w.pieces t)

-- what the new message m rests on
pub record NewSound (touched : ℕ) (a a' : Slice) (t : ℕ) (m : Message) : Type 0 where
  pub accept : m.code ≡ Accept → m.t ≡ t → Proposing touched a a' m.ballot m.set
  pub accept_ok : m.code ≡ AcceptOK → m.t ≡ t → (v : Set) × Voting a a' m.server m.ballot v
  pub pre_accept_ok : m.code ≡ PreAcceptOK → m.t ≡ t → Holds (a'.arrival m.server) m.word
  pub prepare_ok : m.code ≡ PrepareOK → m.t ≡ t → Preparing a a' m.server m.ballot m.arrival m.accepted
  pub commit : commits m.code ≡ true → m.t ≡ t → a.Commit m.set ⊎ Chosen touched a m.set

-- a message of another number
pub of_another : (touched : ℕ) (a a' : Slice) (t : ℕ) (m : Message) → m.t ≢ t → NewSound touched a a' t m
of_another touched a a' t m n = record {
  accept = λ k e. absurd (n e);
  accept_ok = λ k e. absurd (n e);
  pre_accept_ok = λ k e. absurd (n e);
  prepare_ok = λ k e. absurd (n e);
  commit = λ k e. absurd (n e);
}

-- what became of a server's record of t
pub record RecordMoves (a a' : Slice) (s : ℕ) : Type 0 where
  pub promise : a.promise s ≤ a'.promise s
  pub arrival : (w : ℕ) → Holds (a.arrival s) w → Holds (a'.arrival s) w
  pub fresh : (w : ℕ) → Holds (a'.arrival s) w → Holds (a.arrival s) w ⊎ (w < 2 ^ 64)
  pub accepted : (a'.accepted s ≡ a.accepted s) ⊎ ((b : ℕ) × (v : Set) × Voting a a' s b v)

module _ (touched : ℕ) (c c' : Cluster) (t : ℕ) where
  abbrev A : Slice
  A = slice_of c t

  abbrev A' : Slice
  A' = slice_of c' t

  pub step_of :
      ((s : ℕ) → RecordMoves A A' s) →
      ((m : Message) → Memᴰ m c.sent → Memᴰ m c'.sent) →
      ((m : Message) → Memᴰ m c'.sent → Memᴰ m c.sent ⊎ NewSound touched A A' t m) →
      ((s : ℕ) (v : Set) → committed_at (c'.servers s) t ≡ true → (record_of c' s t).committed.set ≡ v → A.Commit v ⊎ Chosen touched A v) →
      Step touched A A'
  step_of records keep new committed = record {
    promise-le = λ s. (records s).promise;
    arrival-stays = λ s. (records s).arrival;
    arrival-new = λ s. (records s).fresh;
    accepted-moves = λ s. (records s).accepted;
    accept-stays = again;
    accept_ok-stays = again;
    prepare_ok-stays = again;
    accept-new = λ b v k. accepts b v k (new _ k.within);
    accept_ok-new = λ s b k. accept_o_ks s b k (new _ k.within);
    pre_accept_ok-new = λ s w k. pre_accept_o_ks s w k (new _ k.within);
    prepare_ok-new = λ s b a o k. prepare_o_ks s b a o k (new _ k.within);
    commit-new = commits-new;
  }
    where
      again : {k : ℕ} {P : Message → Type 0} → Said c.sent t k P → Said c'.sent t k P
      again h = record { message = h.message; within = keep _ h.within; coded = h.coded; numbered = h.numbered; says = h.says }

      old : {k : ℕ} {P : Message → Type 0} (h : Said c'.sent t k P) → Memᴰ h.message c.sent → Said c.sent t k P
      old h m = record { message = h.message; within = m; coded = h.coded; numbered = h.numbered; says = h.says }

      accepts : (b : ℕ) (v : Set) (h : Said c'.sent t Accept (SaysAccept b v)) → Memᴰ h.message c.sent ⊎ NewSound touched A A' t h.message → A.Accept b v ⊎ Proposing touched A A' b v
      accepts b v h (inl m) = inl (old h m)
      accepts b v h (inr n) = inr (subst (λ v. Proposing touched A A' b v) h.says.1 (subst (λ b. Proposing touched A A' b h.message.set) h.says.0 (n.accept h.coded h.numbered)))

      accept_o_ks : (s b : ℕ) (h : Said c'.sent t AcceptOK (SaysAcceptOK s b)) → Memᴰ h.message c.sent ⊎ NewSound touched A A' t h.message → A.AcceptOK s b ⊎ ((v : Set) × Voting A A' s b v)
      accept_o_ks s b h (inl m) = inl (old h m)
      accept_o_ks s b h (inr n) = inr (subst (λ s. (v : Set) × Voting A A' s b v) h.says.0 (subst (λ b. (v : Set) × Voting A A' h.message.server b v) h.says.1 (n.accept_ok h.coded h.numbered)))

      pre_accept_o_ks : (s w : ℕ) (h : Said c'.sent t PreAcceptOK (SaysPreAcceptOK s w)) → Memᴰ h.message c.sent ⊎ NewSound touched A A' t h.message → A.PreAcceptOK s w ⊎ Holds (A'.arrival s) w
      pre_accept_o_ks s w h (inl m) = inl (old h m)
      pre_accept_o_ks s w h (inr n) = inr (subst (λ s. Holds (A'.arrival s) w) h.says.0 (subst (λ w. Holds (A'.arrival h.message.server) w) h.says.1 (n.pre_accept_ok h.coded h.numbered)))

      prepare_o_ks : (s b : ℕ) (a : MaybeWord) (o : MaybeVote) (h : Said c'.sent t PrepareOK (SaysPrepareOK s b a o)) → Memᴰ h.message c.sent ⊎ NewSound touched A A' t h.message → A.PrepareOK s b a o ⊎ Preparing A A' s b a o
      prepare_o_ks s b a o h (inl m) = inl (old h m)
      prepare_o_ks s b a o h (inr n) = inr
          (subst (λ s. Preparing A A' s b a o) h.says.server
          (subst (λ b. Preparing A A' h.message.server b a o) h.says.ballot
          (subst (λ a. Preparing A A' h.message.server h.message.ballot a o) h.says.arrival
          (subst (λ o. Preparing A A' h.message.server h.message.ballot h.message.arrival o) h.says.accepted
          (n.prepare_ok h.coded h.numbered)))))

      by-sent : (v : Set) (m : Message) → commits m.code ≡ true → m.t ≡ t → m.set ≡ v → Memᴰ m c.sent ⊎ NewSound touched A A' t m → A.Commit v ⊎ Chosen touched A v
      by-sent v m k n e (inl h) = inl (CommitOf.sent m h k n e)
      by-sent v m k n e (inr h) = subst (λ v. A.Commit v ⊎ Chosen touched A v) e (h.commit k n)

      commits-new : (v : Set) → CommitOf c' t v → A.Commit v ⊎ Chosen touched A v
      commits-new v (sent m k e n z) = by-sent v m e n z (new m k)
      commits-new v (held s k e) = committed s v k e

-- ---- one server or one station of all

pub put_same : {A : Type 0} (f : ℕ → A) (i : ℕ) (a : A) → put f i a i ≡ a
unfolding put
put_same f i a = rw (eq-eqb i i refl)

pub put_other : {A : Type 0} (f : ℕ → A) (i : ℕ) (a : A) (j : ℕ) → j ≢ i → put f i a j ≡ f j
unfolding put
put_other f i a j n = rw (ne_eqb j i n)

-- what was put last is there
pub put-put : {A : Type 0} (f : ℕ → A) (i : ℕ) (a b : A) → put (put f i a) i b ≡ put f i b
unfolding put
put-put {A} f i a b = λ k. λ j. each j k
  where
    go : (j : ℕ) (t : Bool) → (b if t else (a if t else f j)) ≡ (b if t else f j)
    go j true = refl
    go j false = refl

    each : (j : ℕ) → put (put f i a) i b j ≡ put f i b j
    each j = go j (eqb j i)

-- a law of all, after one was put
pub put_all : {A : Type 0} (P : ℕ → A → Type 0) (f : ℕ → A) (i : ℕ) (a : A) → P i a → ((j : ℕ) → P j (f j)) → (j : ℕ) → P j (put f i a j)
put_all P f i a h g j = go (ℕ_discrete j i)
  where
    go : Dec (j ≡ i) → P j (put f i a j)
    go (yes e) = subst (λ j. P j (put f i a j)) (sym e) (subst (P i) (sym (put_same f i a)) h)
    go (no k) = subst (P j) (sym (put_other f i a j k)) (g j)
