-- What a server does with each message that it takes, in document 01's words: for each message a condition and what then becomes of the record and is answered; the conditions shut out one another and leave nothing over.
-- Assumes nothing.
use mathlib.Core.Path.{◌≡◌, refl, sym, ap, ◌∙◌}
use mathlib.Core.List.{[], ◌∷◌}
use mathlib.Core.Bool.{true, false, cond, false≢true}
use Prim.Native.Nat.{ℕ, ◌≤◌, ◌<◌}
use native.Mathlib.Decide.{ℕ_discrete}
use native.Mathlib.Omega.{arith}
use lib.Dec.{eqb, ltb}
use borrow.Author.Tests.{eqb-true, eq-eqb, ne_eqb, lt-ltb, le-ltb}
use Rattle.masks.proofs.Bools.{cond_true, cond_false, not_true_false, true_and_false}
use Rattle.rules.specs.Flags.{there}
use Rattle.wire.specs.declared.Message.{Message}
use Rattle.wire.specs.Codes.{commits}
use Rattle.wire.specs.Messages.{pre_accept_ok, accept_ok, prepare_ok, commit_ok, done, behind, not_yet, results}
use Rattle.wire.proofs.Columns.{commit-codes}
use Rattle.wire.proofs.FaultsAre.{There, there_is, Of}
use Rattle.server.specs.declared.Record.{Record}
use Rattle.server.specs.declared.Server.{Server}
use Rattle.server.specs.declared.Changed.{Changed}
use Rattle.server.specs.Held.{record_at, put_record}
use Rattle.server.specs.Refusals.{refusal}
use Rattle.server.specs.Changes.{asked, arrive, pre_accepted, accepted, prepared, committed, inquired, fetched, change}
use Rattle.server.specs.Run.{run_all}
use Rattle.server.specs.Serve.{arrival_set, arrival_for, taken, serve}
use Rattle.server.proofs.StepIs.{step-alone, step-and-runs}

module _ (id w : ℕ) (v : Record) (m : Message) where
  -- the record afterwards and the answer
  abbrev Becomes : Record → Message → Type 0
  Becomes u r = change id w v m ≡ record { after = u; reply = r }

  abbrev Committed : Type 0
  Committed = There v.committed.some

  is-there : (n : ℕ) → There n → there n ≡ true
  is-there n h = (there_is n).1 h

  is_none : (n : ℕ) → (There n → ⊥) → there n ≡ false
  is_none n h = not_true_false (there n) (λ e. h ((there_is n).0 e))

  -- the branch of each code
  at-0 : m.code ≡ 0 → change id w v m ≡ asked id v m (pre_accepted id w v m)
  unfolding change
  at-0 c = cond_true (eqb m.code 0) _ _ (eq-eqb m.code 0 c)

  at_1 : m.code ≡ 1 → change id w v m ≡ asked id v m (accepted id v m)
  unfolding change
  at_1 c = cond_false (eqb m.code 0) _ _ (ne_eqb m.code 0 (λ z. omega arith)) ∙ cond_true (eqb m.code 1) _ _ (eq-eqb m.code 1 c)

  at-3 : m.code ≡ 3 → change id w v m ≡ asked id v m (prepared id v m)
  unfolding change
  at-3 c = cond_false (eqb m.code 0) _ _ (ne_eqb m.code 0 (λ z. omega arith)) ∙ cond_false (eqb m.code 1) _ _ (ne_eqb m.code 1 (λ z. omega arith)) ∙ cond_true (eqb m.code 3) _ _ (eq-eqb m.code 3 c)

  pub at-commit : Of m (2 ∷ 20 ∷ []) → change id w v m ≡ committed id v m
  unfolding change
  at-commit c =
      let e : commits m.code ≡ true = commit-codes m.code ∙ c in
      let away : (k : ℕ) → commits k ≡ false → eqb m.code k ≡ false = λ k z. not_true_false (eqb m.code k) (λ y. true_and_false (ap commits (sym (eqb-true m.code k y)) ∙ e) z) in
      cond_false (eqb m.code 0) _ _ (away 0 refl) ∙ cond_false (eqb m.code 1) _ _ (away 1 refl) ∙ cond_false (eqb m.code 3) _ _ (away 3 refl) ∙ cond_true (commits m.code) _ _ e

  other : (k : ℕ) → m.code ≡ k → commits k ≡ false → (k ≡ 0 → ⊥) → (k ≡ 1 → ⊥) → (k ≡ 3 → ⊥) → change id w v m ≡ cond (eqb m.code 4) (inquired id v m) (fetched id v m)
  unfolding change
  other k c z n0 n1 n3 =
      cond_false (eqb m.code 0) _ _ (ne_eqb m.code 0 (λ y. n0 (sym c ∙ y)))
      ∙ cond_false (eqb m.code 1) _ _ (ne_eqb m.code 1 (λ y. n1 (sym c ∙ y)))
      ∙ cond_false (eqb m.code 3) _ _ (ne_eqb m.code 3 (λ y. n3 (sym c ∙ y)))
      ∙ cond_false (commits m.code) _ _ (ap commits c ∙ z)

  -- ---- PreAccept, Accept, Prepare

  -- "if T is committed, answer Done and change nothing"
  asked-done : (c : Changed) → Committed → asked id v m c ≡ record { after = v; reply = done m.t v.pieces v.committed.set }
  unfolding asked
  asked-done c h = cond_true (there v.committed.some) _ _ (is-there v.committed.some h)

  -- "If the promise is greater than the ballot, answer Behind and change nothing"
  asked-behind : (c : Changed) → (Committed → ⊥) → m.ballot < v.promise → asked id v m c ≡ record { after = v; reply = behind m.t id m.ballot v.promise }
  unfolding asked
  asked-behind c n l = cond_false (there v.committed.some) _ _ (is_none v.committed.some n) ∙ cond_true (ltb m.ballot v.promise) _ _ (lt-ltb m.ballot v.promise l)

  asked-open : (c : Changed) → (Committed → ⊥) → v.promise ≤ m.ballot → asked id v m c ≡ c
  unfolding asked
  asked-open c n l = cond_false (there v.committed.some) _ _ (is_none v.committed.some n) ∙ cond_false (ltb m.ballot v.promise) _ _ (le-ltb m.ballot v.promise l)

  -- one of the three
  ask-of : Of m (0 ∷ 1 ∷ 3 ∷ []) → (c : Changed) × (change id w v m ≡ asked id v m c)
  ask-of c = go (ℕ_discrete m.code 0) (ℕ_discrete m.code 1) (ℕ_discrete m.code 3)
    where
      go : Dec (m.code ≡ 0) → Dec (m.code ≡ 1) → Dec (m.code ≡ 3) → (c : Changed) × (change id w v m ≡ asked id v m c)
      go (yes p) q r = (pre_accepted id w v m, at-0 p)
      go (no p) (yes q) r = (accepted id v m, at_1 q)
      go (no p) (no q) (yes r) = (prepared id v m, at-3 r)
      go (no p) (no q) (no r) = absurd (false≢true (rw (ne_eqb m.code 0 p, ne_eqb m.code 1 q, ne_eqb m.code 3 r) at c))

  pub ask-done : Of m (0 ∷ 1 ∷ 3 ∷ []) → Committed → Becomes v (done m.t v.pieces v.committed.set)
  ask-done c h = let a = ask-of c in a.1 ∙ asked-done a.0 h

  pub ask-behind : Of m (0 ∷ 1 ∷ 3 ∷ []) → (Committed → ⊥) → m.ballot < v.promise → Becomes v (behind m.t id m.ballot v.promise)
  ask-behind c n l = let a = ask-of c in a.1 ∙ asked-behind a.0 n l

  -- "Otherwise the promise becomes the ballot and the pieces are held"
  module _ (open-here : Committed → ⊥) (low : v.promise ≤ m.ballot) where
    -- "PreAccept: if there is no arrival set, fix it .. Answer it. It never changes again, and anything accepted stays"
    pub pre-accept-first : m.code ≡ 0 → (There v.arrival.some → ⊥)
        → Becomes (record { pieces = m.pieces; promise = m.ballot; arrival = record { some = 1; word = w }; accepted = v.accepted; committed = v.committed; ran = v.ran; values = v.values }) (pre_accept_ok m.t id m.ballot w)
    unfolding pre_accepted arrive
    pre-accept-first c n = at-0 c ∙ asked-open (pre_accepted id w v m) open-here low ∙ rw (is_none v.arrival.some n)

    pub pre-accept-again : m.code ≡ 0 → There v.arrival.some
        → Becomes (record { pieces = m.pieces; promise = m.ballot; arrival = v.arrival; accepted = v.accepted; committed = v.committed; ran = v.ran; values = v.values }) (pre_accept_ok m.t id m.ballot v.arrival.word)
    unfolding pre_accepted arrive
    pre-accept-again c h = at-0 c ∙ asked-open (pre_accepted id w v m) open-here low ∙ rw (is-there v.arrival.some h)

    -- "Accept: hold ballot and set as accepted, answer AcceptOK"
    pub accept-holds : m.code ≡ 1
        → Becomes (record { pieces = m.pieces; promise = m.ballot; arrival = v.arrival; accepted = record { some = 1; ballot = m.ballot; set = m.set }; committed = v.committed; ran = v.ran; values = v.values }) (accept_ok m.t id m.ballot)
    unfolding accepted
    accept-holds c = at_1 c ∙ asked-open (accepted id v m) open-here low

    -- "Prepare: answer what arrived and what is accepted"
    pub prepare-tells : m.code ≡ 3
        → Becomes (record { pieces = m.pieces; promise = m.ballot; arrival = v.arrival; accepted = v.accepted; committed = v.committed; ran = v.ran; values = v.values }) (prepare_ok m.t id m.ballot v.arrival v.accepted)
    unfolding prepared
    prepare-tells c = at-3 c ∙ asked-open (prepared id v m) open-here low

  -- ---- Commit, and Done as a Commit: "hold pieces and set as committed, answer CommitOK; a repeat with the same set changes nothing". What then runs is `step-runs`

  pub commit-holds : Of m (2 ∷ 20 ∷ []) → (Committed → ⊥)
      → Becomes (record { pieces = m.pieces; promise = v.promise; arrival = v.arrival; accepted = v.accepted; committed = record { some = 1; set = m.set }; ran = v.ran; values = v.values }) (commit_ok m.t id 0)
  unfolding committed
  commit-holds c n = at-commit c ∙ rw (is_none v.committed.some n)

  pub commit-again : Of m (2 ∷ 20 ∷ []) → Committed → Becomes v (commit_ok m.t id 0)
  unfolding committed
  commit-again c h = at-commit c ∙ rw (is-there v.committed.some h)

  -- ---- "Inquire: Done if committed, else NotYet. Fetch: Results .. once T has run, else NotYet"

  module _ (code : m.code ≡ 4) where
    at-4 : change id w v m ≡ inquired id v m
    at-4 = other 4 code refl (λ z. omega arith) (λ z. omega arith) (λ z. omega arith) ∙ cond_true (eqb m.code 4) _ _ (eq-eqb m.code 4 code)

    pub inquire-done : Committed → Becomes v (done m.t v.pieces v.committed.set)
    unfolding inquired
    inquire-done h = at-4 ∙ rw (is-there v.committed.some h)

    pub inquire-not-yet : (Committed → ⊥) → Becomes v (not_yet m.t id)
    unfolding inquired
    inquire-not-yet n = at-4 ∙ rw (is_none v.committed.some n)

  module _ (code : m.code ≡ 5) where
    at_5 : change id w v m ≡ fetched id v m
    at_5 = other 5 code refl (λ z. omega arith) (λ z. omega arith) (λ z. omega arith) ∙ cond_false (eqb m.code 4) _ _ (ne_eqb m.code 4 (λ z. omega arith))

    pub fetch-results : There v.ran → Becomes v (results m.t id v.values)
    unfolding fetched
    fetch-results h = at_5 ∙ rw (is-there v.ran h)

    pub fetch-not-yet : (There v.ran → ⊥) → Becomes v (not_yet m.t id)
    unfolding fetched
    fetch-not-yet n = at_5 ∙ rw (is_none v.ran n)

-- ---- the step that is taken: the record of T becomes that, and all else stays, but for what a Commit runs

module _ (s : Server) (m : Message) where
  -- what the record of T becomes, with the arrival set of a number that arrives now
  abbrev Become : Changed
  Become = change s.id (arrival_for s m) (record_at s m.t) m

  -- the server with it
  abbrev After : Server
  After = put_record s m.t Become.after

  pub step-taken : refusal s m ≡ 0 → (Of m (2 ∷ 20 ∷ []) → ⊥) → serve s m ≡ record { refusal = 0; reply = Become.reply; server = After }
  unfolding taken
  step-taken e n = step-alone s m e n

  -- "one call that answers CommitOK with the count that ran": T, the server, and the count
  pub step-runs : refusal s m ≡ 0 → Of m (2 ∷ 20 ∷ []) → serve s m ≡ record { refusal = 0; reply = commit_ok m.t s.id (run_all After).many; server = (run_all After).server }
  unfolding taken committed
  step-runs e c =
      step-and-runs s m e c
      ∙ ap (λ (x : Message). record { refusal = 0; reply = commit_ok x.t x.server (run_all After).many; server = (run_all After).server })
      (ap (λ (x : Changed). x.reply) (at-commit s.id (arrival_for s m) (record_at s m.t) m c))

  pub arrives-with : m.code ≡ 0 → (There (record_at s m.t).arrival.some → ⊥) → arrival_for s m ≡ arrival_set s m.pieces
  unfolding arrival_for
  arrives-with c n = rw (eq-eqb m.code 0 c, not_true_false (there (record_at s m.t).arrival.some) (λ e. n ((there_is (record_at s m.t).arrival.some).0 e)))
