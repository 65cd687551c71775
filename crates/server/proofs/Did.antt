-- What a server does with a message that it takes, case by case. Assumes nothing.
use mathlib.Core.Path.{◌≡◌, refl}
use mathlib.Core.Logic.{◌≢◌}
use mathlib.Core.Bool.{Bool, true, false, cond}
use Prim.Native.Nat.{ℕ, ◌≤◌, ◌<◌}
use native.Mathlib.Omega.{arith}
use lib.Dec.{eqb, ltb, lit<}
use borrow.Author.Tests.{eqb-true, ltb-false}
use Rattle.rules.specs.Flags.{there}
use Rattle.rules.specs.declared.Values.{Values}
use Rattle.wire.specs.declared.Message.{Message}
use Rattle.wire.specs.Codes.{shape_of, PreAccept, Accept, Prepare, Inquire, commits}
use Rattle.wire.specs.Messages.{pre_accept_ok, accept_ok, prepare_ok, commit_ok, done, behind, not_yet, results}
use Rattle.server.specs.declared.Record.{Record}
use Rattle.server.specs.declared.Changed.{Changed}
use Rattle.server.specs.Changes.{promised, with_arrival, with_accepted, with_committed, becomes, asked, arrive, pre_accepted, accepted, prepared, committed, inquired, fetched, change}

-- CommitOK, Behind, NotYet or Results: an answer on which nothing rests
pub record Plain (r : Message) : Type 0 where
  pub above : 17 < r.code
  pub not_prepare_ok : r.code ≢ 19
  pub not_done : r.code ≢ 20
  pub bare : (shape_of r.code).pieces ≡ false

commit_ok-plain : (t s n : ℕ) → Plain (commit_ok t s n)
unfolding shape_of
commit_ok-plain t s n = record { above = lit< tt; not_prepare_ok = λ z. omega arith; not_done = λ z. omega arith; bare = refl }

behind-plain : (t s b p : ℕ) → Plain (behind t s b p)
unfolding shape_of
behind-plain t s b p = record { above = lit< tt; not_prepare_ok = λ z. omega arith; not_done = λ z. omega arith; bare = refl }

not_yet-plain : (t s : ℕ) → Plain (not_yet t s)
unfolding shape_of
not_yet-plain t s = record { above = lit< tt; not_prepare_ok = λ z. omega arith; not_done = λ z. omega arith; bare = refl }

results-plain : (t s : ℕ) (r : Values) → Plain (results t s r)
unfolding shape_of
results-plain t s r = record { above = lit< tt; not_prepare_ok = λ z. omega arith; not_done = λ z. omega arith; bare = refl }

-- PreAccept, Accept or Prepare of a number that isn't committed, at a ballot that is at least the promise
pub record Open (v : Record) (m : Message) : Type 0 where
  pub uncommitted : there v.committed.some ≡ false
  pub low : v.promise ≤ m.ballot

pub data Did (id w : ℕ) (v : Record) (m : Message) : Changed → Type 0 where
  tells : (r : Message) → Plain r → Did id w v m (becomes v r)
  is_done : there v.committed.some ≡ true → Did id w v m (becomes v (done m.t v.pieces v.committed.set))
  pre_accepts_first : m.code ≡ PreAccept → Open v m → there v.arrival.some ≡ false → Did id w v m (becomes (with_arrival w (promised m v)) (pre_accept_ok m.t id m.ballot w))
  pre_accepts_again : m.code ≡ PreAccept → Open v m → there v.arrival.some ≡ true → Did id w v m (becomes (promised m v) (pre_accept_ok m.t id m.ballot v.arrival.word))
  accepts : m.code ≡ Accept → Open v m → Did id w v m (becomes (with_accepted m (promised m v)) (accept_ok m.t id m.ballot))
  prepares : m.code ≡ Prepare → Open v m → Did id w v m (becomes (promised m v) (prepare_ok m.t id m.ballot v.arrival v.accepted))
  commits_first : (n : ℕ) → commits m.code ≡ true → there v.committed.some ≡ false → Did id w v m (becomes (with_committed m v) (commit_ok m.t id n))

module _ (id w : ℕ) (v : Record) (m : Message) where
  asked-did : (c : Changed) → (Open v m → Did id w v m c) → Did id w v m (asked id v m c)
  unfolding asked
  asked-did c f = go (there v.committed.some) refl (ltb m.ballot v.promise) refl
    where
      go : (a : Bool) → there v.committed.some ≡ a → (b : Bool) → ltb m.ballot v.promise ≡ b →
          Did id w v m (cond a (becomes v (done m.t v.pieces v.committed.set)) (cond b (becomes v (behind m.t id m.ballot v.promise)) c))
      go true e b k = is_done e
      go false e true k = tells _ (behind-plain m.t id m.ballot v.promise)
      go false e false k = f (record { uncommitted = e; low = ltb-false m.ballot v.promise k })

  pre_accept-did : m.code ≡ PreAccept → Open v m → Did id w v m (pre_accepted id w v m)
  unfolding pre_accepted arrive
  pre_accept-did k o = go (there v.arrival.some) refl
    where
      go : (a : Bool) → there v.arrival.some ≡ a →
          Did id w v m (becomes (cond a (promised m v) (with_arrival w (promised m v))) (pre_accept_ok m.t id m.ballot (cond a (promised m v) (with_arrival w (promised m v))).arrival.word))
      go true e = pre_accepts_again k o e
      go false e = pre_accepts_first k o e

  -- with any count
  pub counts-did : (n : ℕ) → commits m.code ≡ true → Did id w v m (becomes (committed id v m).after (commit_ok m.t id n))
  unfolding committed
  counts-did n k = go (there v.committed.some) refl
    where
      go : (a : Bool) → there v.committed.some ≡ a → Did id w v m (becomes (cond a v (with_committed m v)) (commit_ok m.t id n))
      go true e = tells _ (commit_ok-plain m.t id n)
      go false e = commits_first n k e

  commit-did : commits m.code ≡ true → Did id w v m (committed id v m)
  unfolding committed
  commit-did k = counts-did 0 k

  inquire-did : Did id w v m (inquired id v m)
  unfolding inquired
  inquire-did = go (there v.committed.some) refl
    where
      go : (a : Bool) → there v.committed.some ≡ a → Did id w v m (becomes v (cond a (done m.t v.pieces v.committed.set) (not_yet m.t id)))
      go true e = is_done e
      go false e = tells _ (not_yet-plain m.t id)

  fetch-did : Did id w v m (fetched id v m)
  unfolding fetched
  fetch-did = go (there v.ran)
    where
      go : (a : Bool) → Did id w v m (becomes v (cond a (results m.t id v.values) (not_yet m.t id)))
      go true = tells _ (results-plain m.t id v.values)
      go false = tells _ (not_yet-plain m.t id)

  accept-did : m.code ≡ Accept → Open v m → Did id w v m (accepted id v m)
  unfolding accepted
  accept-did k o = accepts k o

  prepare-did : m.code ≡ Prepare → Open v m → Did id w v m (prepared id v m)
  unfolding prepared
  prepare-did k o = prepares k o

  -- one of two, by a test
  pick : (b : Bool) (x y : Changed) → (b ≡ true → Did id w v m x) → Did id w v m y → Did id w v m (cond b x y)
  pick true x y f g = f refl
  pick false x y f g = g

  pub change-did : Did id w v m (change id w v m)
  unfolding change
  change-did =
      pick (eqb m.code PreAccept) _ _ (λ e. asked-did _ (pre_accept-did (eqb-true m.code PreAccept e)))
      (pick (eqb m.code Accept) _ _ (λ e. asked-did _ (accept-did (eqb-true m.code Accept e)))
      (pick (eqb m.code Prepare) _ _ (λ e. asked-did _ (prepare-did (eqb-true m.code Prepare e)))
      (pick (commits m.code) _ _ commit-did
      (pick (eqb m.code Inquire) _ _ (λ e. inquire-did) fetch-did))))
