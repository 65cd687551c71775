-- What any server or learner holds as committed was sent as a Commit or Done; so what each number depends on, anywhere, is read off the messages, and each server's dependencies are among these. Assumes nothing.
use mathlib.Core.Path.{◌≡◌, refl, sym, ◌∙◌, ap, subst}
use mathlib.Core.Logic.{◌⊎◌, inl, inr}
use mathlib.Core.Bool.{Bool, true, false, cond, ◌&&◌, true≢false, false≢true}
use mathlib.Core.List.Memᴰ
use mathlib.Core.List.{List, [], ◌∷◌, Memᴰ}
use Prim.Native.Nat.{ℕ, ◌≤◌, ◌<◌}
use native.Mathlib.Omega.{arith}
use native.Mathlib.Decide.{dec_lt}
use borrow.Author.Tests.{eqb-true, eq-eqb}
use lib.Dec.{eqb}
use lib.ListN.{get_or, get_or-eq_default}
use Rattle.masks.specs.Folds.{tab}
use Rattle.masks.proofs.FoldLaws.{get_d_tab, length-tab}
use Rattle.masks.proofs.Bools.{and_yes, and_yes-l, and_yes_r, true_and_false}
use Rattle.rules.specs.declared.Set.{Set}
use Rattle.rules.specs.declared.MaybeSet.{MaybeSet}
use Rattle.rules.specs.Flags.{there}
use Rattle.rules.specs.Sets.{members}
use Rattle.wire.specs.declared.Message.{Message}
use Rattle.wire.specs.Codes.{commits}
use Rattle.server.specs.declared.Record.{Record}
use Rattle.server.specs.declared.Server.{Server}
use Rattle.server.specs.declared.Changed.{Changed}
use Rattle.server.specs.Held.{no_record, committed_at}
use Rattle.server.specs.Run.{deps_of}
use Rattle.server.proofs.Passed.{number_below}
use Rattle.server.proofs.Did.{Did, tells, is_done, pre_accepts_first, pre_accepts_again, accepts, prepares, commits_first}
use Rattle.server.proofs.RunKeepsForm.{deps-committed}
use Rattle.safety.specs.Cluster.{World, Cluster, at_first, ran, Reached}
use Rattle.safety.proofs.Agreement.{chosen-agree}
use Rattle.safety.proofs.View.{record_of, CommitOf, put_all}
use Rattle.safety.proofs.Serving.{runs_leave, was_sent_lem, all-records}
use Rattle.safety.proofs.Kept.{Kept}
use Rattle.safety.proofs.Histories.{at_first_lem}
use Rattle.safety.proofs.Changes.{Change, serves, has_run, sent, quiet, always}
use Rattle.safety.proofs.LogsInOrder.{More}
use Rattle.safety.proofs.RunsInOrder.{Holds}

-- a Commit or Done of t
unfoldable says_commit : ℕ → Message → Bool
says_commit t m = commits m.code && eqb m.t t

-- one of them was sent
pub record SentCommit (c : Cluster) (t : ℕ) : Type 0 where
  pub message : Message
  pub within : Memᴰ message c.sent
  pub commits : commits message.code ≡ true
  pub number : message.t ≡ t

-- ---- what is committed was sent so

more_sent : {c c' : Cluster} {t : ℕ} → ((m : Message) → Memᴰ m c.sent → Memᴰ m c'.sent) → SentCommit c t → SentCommit c' t
more_sent f a = record { message = a.message; within = f a.message a.within; commits = a.commits; number = a.number }

-- what was sent stays sent
sent-stays : (w : World) {c c' : Cluster} → Change w c c' → (m : Message) → Memᴰ m c.sent → Memᴰ m c'.sent
unfolding ran
sent-stays w (serves i m o rs p did) r h = Memᴰ.tail h
sent-stays w (has_run i q rn) r h = h
sent-stays w (sent j d m at du) r h = Memᴰ.tail h
sent-stays w (quiet q) r h = subst (Memᴰ r) (sym q.sent) h

abbrev pub CommitsSent : Cluster → Type 0
CommitsSent c = (s t : ℕ) → committed_at (c.servers s) t ≡ true → SentCommit c t

-- a record became committed by a Commit or Done
did_commit : {id a : ℕ} {v : Record} {m : Message} {o : Changed} → Did id a v m o → there o.after.committed.some ≡ true → there v.committed.some ≡ true ⊎ (commits m.code ≡ true)
did_commit (tells r p) h = inl h
did_commit (is_done e) h = inl h
did_commit (pre_accepts_first k op n) h = inl h
did_commit (pre_accepts_again k op n) h = inl h
did_commit (accepts k op) h = inl h
did_commit (prepares k op) h = inl h
did_commit (commits_first j k n) h = inr k

pub commits_kept : (w : World) {c c' : Cluster} → Kept w c → Change w c c' → CommitsSent c → CommitsSent c'
unfolding ran
commits_kept w {c} {c'} k (serves i m o rs p did) h =
    all-records c i m.t o (let n = number_below m p.numbers in omega (arith, k.sizes.records i)) (λ s t v. there v.committed.some ≡ true → SentCommit c' t)
    (λ e. here (did_commit did e)) (λ s t e. more_sent {c = c} {c' = c'} (λ r q. Memᴰ.tail q) (h s t e))
  where
    here : there (record_of c i m.t).committed.some ≡ true ⊎ (commits m.code ≡ true) → SentCommit c' m.t
    here (inl e) = more_sent {c = c} {c' = c'} (λ r q. Memᴰ.tail q) (h i m.t e)
    here (inr e) = record { message = m; within = Memᴰ.tail (was_sent_lem rs (λ z. false≢true (sym (ap commits z) ∙ e)) (λ z. false≢true (sym (ap commits z) ∙ e))); commits = e; number = refl }
commits_kept w {c} {c'} k (has_run i r rn) h = λ s t. put_all (λ s (z : Server). committed_at z t ≡ true → SentCommit c' t) c.servers i r.server
    (λ e. more_sent {c = c} {c' = c'} (λ r q. q) (h i t (ap (λ (v : MaybeSet). there v.some) (sym ((runs_leave rn).held t).committed) ∙ e)))
    (λ s e. more_sent {c = c} {c' = c'} (λ r q. q) (h s t e)) s
commits_kept w {c} {c'} k (sent j d m at du) h = λ s t e. more_sent {c = c} {c' = c'} (λ r q. Memᴰ.tail q) (h s t e)
commits_kept w {c} {c'} k (quiet q) h = λ s t e. more_sent {c = c} {c' = c'} (λ r x. subst (Memᴰ r) (sym q.sent) x) (h s t (subst (λ (z : Server). committed_at z t ≡ true) (q.servers s) e))

pub first_commits : (w : World) → CommitsSent (at_first w)
first_commits w s t e = absurd (at_first_lem w (λ (v : Record). there v.committed.some ≡ true → ⊥) (λ e. true≢false (sym e)) (λ e. true≢false (sym e)) s t e)

pub commits-sent : (w : World) {c : Cluster} → Reached w c → CommitsSent c
commits-sent w r = always w CommitsSent (λ c c' k k' ch. commits_kept w k ch) (first_commits w) r

-- ---- what each number depends on

-- the numbers of the set that the last Commit or Done of t has
sent_deps : List Message → ℕ → ℕ
sent_deps [] t = 0
sent_deps (m ∷ l) t = cond (says_commit t m) (members m.set) (sent_deps l t)

pub all_deps : Cluster → List ℕ
all_deps c = tab (sent_deps c.sent) 64

-- where all of them have one set, it is that
sent-deps : (t : ℕ) (v : Set) (l : List Message) → ((m : Message) → Memᴰ m l → commits m.code ≡ true → m.t ≡ t → m.set ≡ v) → (m : Message) → Memᴰ m l → commits m.code ≡ true → m.t ≡ t → sent_deps l t ≡ members v
unfolding sent_deps says_commit
sent-deps t v [] f m k e n = absurd (Memᴰ.not-nil k)
sent-deps t v (x ∷ l) f m k e n = go (commits x.code && eqb x.t t) refl (Memᴰ.cases_cons k) (sent-deps t v l (λ y h. f y (Memᴰ.tail h)) m)
  where
    go : (b : Bool) → (commits x.code && eqb x.t t) ≡ b → (m ≡ x) ⊎ Memᴰ m l → (Memᴰ m l → commits m.code ≡ true → m.t ≡ t → sent_deps l t ≡ members v) → cond b (members x.set) (sent_deps l t) ≡ members v
    go true q h ih = ap members (f x (Memᴰ.head refl) (and_yes-l (commits x.code) (eqb x.t t) q) (eqb-true x.t t (and_yes_r (commits x.code) (eqb x.t t) q)))
    go false q (inr h) ih = ih h e n
    go false q (inl h) ih = absurd (true_and_false (and_yes (commits x.code) (eqb x.t t) (subst (λ (y : Message). commits y.code ≡ true) h e) (eq-eqb x.t t (ap (λ (y : Message). y.t) (sym h) ∙ n))) q)

-- a committed number is below 64
pub committed_small : (w : World) (c : Cluster) → Kept w c → (s t : ℕ) → committed_at (c.servers s) t ≡ true → t < 64
committed_small w c k s t e = go (dec_lt t 64)
  where
    go : Dec (t < 64) → t < 64
    go (yes l) = l
    go (no l) = absurd (true≢false (sym e ∙ ap (λ (v : Record). there v.committed.some) (get_or-eq_default (c.servers s).records no_record (subst (λ n. n ≤ t) (sym (k.sizes.records s)) (omega arith)))))

module _ (w : World) (c : Cluster) (k : Kept w c) where
  -- all that is committed of t, in a message or at a server, is one set
  one_set : (t : ℕ) (v v' : Set) → CommitOf c t v → CommitOf c t v' → v ≡ v'
  one_set t v v' h h' = let l = k.lawful t in chosen-agree l (l.committed.each v h) (l.committed.each v' h')

  said : {t : ℕ} (a : SentCommit c t) → CommitOf c t a.message.set
  said a = CommitOf.sent a.message a.within a.commits a.number refl

  deps-sent : (t : ℕ) → t < 64 → (a : SentCommit c t) → get_or (all_deps c) t 0 ≡ members a.message.set
  unfolding all_deps
  deps-sent t q a = get_d_tab (sent_deps c.sent) 64 t 0 q ∙ sent-deps t a.message.set c.sent (λ m h e n. one_set t _ _ (CommitOf.sent m h e n refl) (said a)) a.message a.within a.commits a.number

  pub deps-held : CommitsSent c → (s t : ℕ) → committed_at (c.servers s) t ≡ true → get_or (all_deps c) t 0 ≡ members (record_of c s t).committed.set
  deps-held h s t e =
      let a = h s t e in
      deps-sent t (committed_small w c k s t e) a ∙ ap members (one_set t _ _ (said a) (CommitOf.held s e refl))

  -- a server's dependencies are among them
  pub server-more : CommitsSent c → (s : ℕ) → More (deps_of (c.servers s)) (all_deps c) (Holds (c.servers s)) (SentCommit c)
  server-more h s = record {
    still = λ t e. h s t e;
    same = λ t e. deps-held h s t e ∙ sym (deps-committed (c.servers s) t (committed_small w c k s t e) e);
  }

-- a step leaves them
pub step_more : (w : World) (c c' : Cluster) → Kept w c → Kept w c' → Change w c c' → More (all_deps c) (all_deps c') (SentCommit c) (SentCommit c')
unfolding all_deps more_sent
step_more w c c' k k' ch = record {
  still = λ t a. more_sent {c = c} {c' = c'} (sent-stays w ch) a;
  same = λ t a. go t a (dec_lt t 64);
}
  where
    past : (l : List Message) (t : ℕ) → 64 ≤ t → get_or (tab (sent_deps l) 64) t 0 ≡ 0
    past l t h = get_or-eq_default (tab (sent_deps l) 64) 0 (subst (λ n. n ≤ t) (sym (length-tab (sent_deps l) 64)) h)

    go : (t : ℕ) → SentCommit c t → Dec (t < 64) → get_or (tab (sent_deps c'.sent) 64) t 0 ≡ get_or (tab (sent_deps c.sent) 64) t 0
    go t a (yes q) = deps-sent w c' k' t q (more_sent {c = c} {c' = c'} (sent-stays w ch) a) ∙ sym (deps-sent w c k t q a)
    go t a (no q) = past c'.sent t (omega arith) ∙ sym (past c.sent t (omega arith))
