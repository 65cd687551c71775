-- The step as it is computed is the step: a T that is no number is refused whatever record is read, a refusal stores the record that was read,
-- and a message that is not refused has a number. What a Commit then runs follows. Assumes nothing.
use Prim.Native.Nat.{ℕ, ◌<◌, ◌≤◌}
use mathlib.Core.Path.{◌≡◌, refl, sym, ap, ◌∙◌}
use mathlib.Core.Logic.{⊎_elim}
use mathlib.Core.Bool.{Bool, true, false, not, cond, ◌&&◌}
use native.Mathlib.Omega.{arith}
use lib.Dec.{leb, eqb}
use lib.Seq.{set-get_or}
use borrow.Author.Tests.{leb-false, lt-leb, eqb-true}
use Rattle.masks.specs.Folds.{mask_of}
use Rattle.masks.proofs.Bools.{true_or_false, true_and_false}
use Rattle.masks.proofs.Turns.{mask-none}
use Rattle.rules.specs.Flags.{there}
use Rattle.rules.specs.Cluster.{bad_number}
use Rattle.rules.specs.Pieces.{shards_of}
use Rattle.rules.specs.Keys.{keys_on, clashes}
use Rattle.rules.proofs.ConflictIs.{conflict-keys}
use Rattle.wire.specs.declared.Message.{Message}
use Rattle.wire.specs.Faults.{bad_numbers, bad_pieces, bad_sets}
use Rattle.server.specs.declared.Record.{Record}
use Rattle.server.specs.declared.Server.{Server}
use Rattle.server.specs.Held.{record_at, shard}
use Rattle.server.specs.Form.{formed}
use Rattle.server.specs.Refusals.{not_taken, untouched, other_pieces, other_set, refusal}
use Rattle.wire.specs.Codes.{commits}
use Rattle.server.specs.declared.Served.{Served}
use Rattle.server.specs.Changes.{change}
use Rattle.server.specs.Serve.{came_earlier, arrival_set, fixes, arrival_for, refused, taken, stepped, serve}
use Rattle.server_step.specs.OneStore.{first_refusal, refusal_by, change_by, looked, place_of, considered_at, considered, stored, followed}

-- ---- who came earlier, by keys

pub came_by_keys : (s : Server) (m : Message) (u : ℕ) → came_earlier s m.pieces u ≡ (there (record_at s u).arrival.some && clashes (keys_on m.pieces (shard s)) (keys_on (record_at s u).pieces (shard s)))
unfolding came_earlier
came_by_keys s m u = rw conflict-keys

-- ---- a number that is none

bad_numbers_lem : (m : Message) → bad_number m.t ≡ true → bad_numbers m ≡ true
unfolding bad_numbers
bad_numbers_lem m e = rw e

-- the third test fires: the later ones are not asked, and there is a refusal
any_later : (a b x y : Bool) (c d e f g h i j : Bool) → first_refusal a b true c d e f g ≡ first_refusal a b true h i j x y
any_later true b x y c d e f g h i j = refl
any_later false true x y c d e f g h i j = refl
any_later false false x y c d e f g h i j = refl

a_refusal : (a b c d e f g : Bool) → eqb (first_refusal a b true c d e f g) 0 ≡ false
a_refusal true b c d e f g = refl
a_refusal false true c d e f g = refl
a_refusal false false c d e f g = refl

module _ (form : Bool) (k : ℕ) (v : Record) (m : Message) (e : bad_number m.t ≡ true) where
  pub any-record : (x : Record) → refusal_by form k v m ≡ refusal_by form k x m
  unfolding refusal_by
  any-record x = rw (bad_numbers_lem m e) (any_later (not form) (not_taken m) (other_pieces x m) (other_set x m) (bad_pieces m) (bad_sets (shards_of m.pieces) m) (untouched k (shards_of m.pieces) m) (other_pieces v m) (other_set v m) (bad_pieces m) (bad_sets (shards_of m.pieces) m) (untouched k (shards_of m.pieces) m))

  pub bad-refused : eqb (refusal_by form k v m) 0 ≡ false
  unfolding refusal_by
  bad-refused = rw (bad_numbers_lem m e) (a_refusal (not form) (not_taken m) (bad_pieces m) (bad_sets (shards_of m.pieces) m) (untouched k (shards_of m.pieces) m) (other_pieces v m) (other_set v m))

-- ---- the answer

pub refusal_is : (s : Server) (m : Message) → refusal s m ≡ refusal_by (formed s) (shard s) (record_at s m.t) m
unfolding refusal refusal_by
refusal_is s m = refl

pub place_lt : (t i : ℕ) → i ≡ place_of t → i < 64
unfolding place_of
place_lt t i p = rw p (⊎_elim (λ e. rw e (omega arith)) (λ e. rw e (omega (arith, leb-false 64 t e))) (true_or_false (leb 64 t)))

pub looked_le : (b : Bool) (n : ℕ) → n ≡ looked b → n ≤ 64
unfolding looked
looked_le true n p = omega arith
looked_le false n p = omega arith

module _ (s : Server) (m : Message) where
  -- on a refusal the record is stored as it was read
  pub as_lent : (i n : ℕ) → eqb n 0 ≡ false → stored s (considered_at s i n (record_at s i) m) ≡ refused s n
  unfolding considered_at change_by
  as_lent i n e = rw (e, set-get_or)

  word-is : (b : Bool) → mask_of (came_earlier s m.pieces) (looked b) ≡ cond b (arrival_set s m.pieces) 0
  unfolding looked arrival_set
  word-is true = refl
  word-is false = sym (mask-none (came_earlier s m.pieces))

  pub as-changed : (n : ℕ) → n ≡ 0 → stored s (considered_at s m.t n (record_at s m.t) m) ≡ taken s m
  unfolding considered_at change_by taken arrival_for
  as-changed n e = rw (e, word-is (fixes (record_at s m.t) m))

  -- the step before anything runs
  abbrev pub alone : Served
  alone = cond (eqb (refusal s m) 0) (taken s m) (refused s (refusal s m))

  number : bad_number m.t ≡ false → stored s (considered s m) ≡ alone
  unfolding considered place_of
  number e =
      rw (e, ← refusal_is s m)
      (⊎_elim
      (λ h. rw h (as-changed (refusal s m) (eqb-true (refusal s m) 0 h)))
      (λ h. rw h (as_lent m.t (refusal s m) h))
      (true_or_false (eqb (refusal s m) 0)))

  no_number : bad_number m.t ≡ true → stored s (considered s m) ≡ alone
  unfolding considered place_of
  no_number e =
      let n = refusal_by (formed s) (shard s) (record_at s 0) m in
      let same : n ≡ refusal s m = any-record (formed s) (shard s) (record_at s 0) m e (record_at s m.t) ∙ sym (refusal_is s m) in
      let bad : eqb n 0 ≡ false = bad-refused (formed s) (shard s) (record_at s 0) m e in
      let refused-too : eqb (refusal s m) 0 ≡ false = ap (λ (x : ℕ). eqb x 0) (sym same) ∙ bad in
      rw (e, refused-too) (as_lent 0 n bad ∙ ap (refused s) same)

  runs_then : (a b : Bool) → eqb (refusal s m) 0 ≡ a → commits m.code ≡ b → followed m alone ≡ serve s m
  unfolding serve stepped taken
  runs_then true true e c = rw (e, c)
  runs_then true false e c = rw (e, c)
  runs_then false true e c = rw (e, c, e)
  runs_then false false e c = rw (e, c)

  pub step-alone : stored s (considered s m) ≡ alone
  step-alone = ⊎_elim no_number number (true_or_false (bad_number m.t))

  pub step-is-serve : followed m (stored s (considered s m)) ≡ serve s m
  step-is-serve = ap (followed m) step-alone ∙ runs_then _ _ refl refl

  -- a message that is not refused is of a number
  not-refused : refusal s m ≡ 0 → m.t < 64
  not-refused e =
      ⊎_elim
      (λ b. absurd (true_and_false (ap (λ (n : ℕ). eqb n 0) e) (ap (λ (n : ℕ). eqb n 0) (refusal_is s m) ∙ bad-refused (formed s) (shard s) (record_at s m.t) m b)))
      (λ b. omega (arith, leb-false 64 m.t b))
      (true_or_false (bad_number m.t))

  -- and it comes to what it does to the record of that number
  pub considered-taken : refusal s m ≡ 0 → let o = change s.id (arrival_for s m) (record_at s m.t) m in considered s m ≡ record { refusal = 0; place = m.t; after = o.after; reply = o.reply }
  unfolding considered considered_at change_by place_of arrival_for
  considered-taken e =
      let l = lt-leb 64 m.t (not-refused e) in
      rw (l, ← refusal_is s m, e, word-is (fixes (record_at s m.t) m))
