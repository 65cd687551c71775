-- The table of messages by its columns, both ways: the codes that there are, which of them have which field, and who takes which, each as a list of numbers.
-- Assumes nothing.
use mathlib.Core.Path.{◌≡◌, refl, sym, ap, ◌∙◌, subst}
use mathlib.Core.Bool.{Bool, true, false, not, ◌&&◌, ◌||◌, false≢true}
use mathlib.Core.List.{List, [], ◌∷◌}
use mathlib.Core.Logic.{⊎_elim}
use Prim.Native.Nat.{ℕ}
use native.Mathlib.Decide.{ℕ_discrete}
use native.Mathlib.Omega.{arith}
use lib.Dec.{eqb, leb}
use borrow.Author.Tests.{eqb-true, eqb-false, ne_eqb, lt-leb}
use Rattle.masks.proofs.Bools.{and_yes, and_yes-l, and_yes_r, or_no_l, or_no, not_yes, not_true_false, true_and_false, true_or_false}
use Rattle.wire.specs.declared.Shape.{Shape}
use Rattle.wire.specs.Codes.{shape_of, unknown, server_takes, drive_takes, asks, commits, oks}

-- ---- numbers of a list

-- k is one of these numbers
abbrev pub one_of : ℕ → List ℕ → Bool
one_of k [] = false
one_of k (c ∷ l) = eqb k c || one_of k l

-- PreAccept, Accept, Commit, Prepare, Inquire, Fetch; PreAcceptOK, AcceptOK, CommitOK, PrepareOK, Done, Behind, NotYet, Results
abbrev pub fourteen : List ℕ
fourteen = 0 ∷ 1 ∷ 2 ∷ 3 ∷ 4 ∷ 5 ∷ 16 ∷ 17 ∷ 18 ∷ 19 ∷ 20 ∷ 21 ∷ 22 ∷ 23 ∷ []

-- ---- what holds of each of the fourteen, and of what is none of them, holds of every code

abbrev pub Every : (ℕ → Type 0) → List ℕ → Type 0
Every P [] = Unit {0}
Every P (c ∷ l) = P c × Every P l

pub each : (P : ℕ → Type 0) (l : List ℕ) → Every P l → (k : ℕ) → one_of k l ≡ true → P k
each P [] h k e = absurd (false≢true e)
each P (c ∷ l) h k e = go (ℕ_discrete k c) (each P l h.1 k)
  where
    go : Dec (k ≡ c) → (one_of k l ≡ true → P k) → P k
    go (yes z) r = subst P (sym z) h.0
    go (no n) r = r (rw (ne_eqb k c n) at e)

pub by_code : (P : ℕ → Type 0) → Every P fourteen → ((k : ℕ) → one_of k fourteen ≡ false → P k) → (k : ℕ) → P k
by_code P h other k = ⊎_elim (each P fourteen h k) (other k) (true_or_false (one_of k fourteen))

-- two truths are the same
abbrev alike : Bool → Bool → Bool
alike true b = b
alike false b = not b

alike_is : (a b : Bool) → alike a b ≡ true → a ≡ b
alike_is true b e = sym e
alike_is false b e = sym (not_yes b e)

-- a code that is none of a list is none of a part of it
abbrev part : List ℕ → List ℕ → Bool
part [] l = true
part (c ∷ p) l = one_of c l && part p l

part_other : (p l : List ℕ) (k : ℕ) → part p l ≡ true → one_of k l ≡ false → one_of k p ≡ false
part_other [] l k h e = refl
part_other (c ∷ p) l k h e =
    or_no (eqb k c) (one_of k p)
    (not_true_false (eqb k c) (λ y. true_and_false (ap (λ (x : ℕ). one_of x l) (eqb-true k c y) ∙ and_yes-l (one_of c l) (part p l) h) e))
    (part_other p l k (and_yes_r (one_of c l) (part p l) h) e)

module _ (k : ℕ) (e : one_of k fourteen ≡ false) where
  not_code : (c : ℕ) → one_of c fourteen ≡ true → eqb k c ≡ false
  not_code c h = or_no_l (eqb k c) false (part_other (c ∷ []) fourteen k (and_yes (one_of c fourteen) true h refl) e)

  pub unknown-shape : shape_of k ≡ unknown
  unfolding shape_of
  unknown-shape =
      rw (
        not_code 0 refl,
        not_code 1 refl,
        not_code 2 refl,
        not_code 3 refl,
        not_code 4 refl,
        not_code 5 refl,
        not_code 16 refl,
        not_code 17 refl,
        not_code 18 refl,
        not_code 19 refl,
        not_code 20 refl,
        not_code 21 refl,
        not_code 22 refl,
        not_code 23 refl,
      )

-- ---- two tests that agree at each of the fourteen, and at nothing else, agree

abbrev agree : (ℕ → Bool) → (ℕ → Bool) → List ℕ → Bool
agree f g [] = true
agree f g (c ∷ l) = alike (f c) (g c) && agree f g l

agree-each : (f g : ℕ → Bool) (l : List ℕ) → agree f g l ≡ true → Every (λ c. f c ≡ g c) l
agree-each f g [] e = tt
agree-each f g (c ∷ l) e = (alike_is (f c) (g c) (and_yes-l (alike (f c) (g c)) (agree f g l) e), agree-each f g l (and_yes_r (alike (f c) (g c)) (agree f g l) e))

module _ (p : List ℕ) (inside : part p fourteen ≡ true) where
  list : (f : ℕ → Bool) → ((k : ℕ) → one_of k fourteen ≡ false → f k ≡ false) → agree f (λ c. one_of c p) fourteen ≡ true → (k : ℕ) → f k ≡ one_of k p
  list f none a = by_code (λ k. f k ≡ one_of k p) (agree-each f (λ c. one_of c p) fourteen a) (λ k e. none k e ∙ sym (part_other p fourteen k inside e))

  column : (f : Shape → Bool) → f unknown ≡ false → agree (λ c. f (shape_of c)) (λ c. one_of c p) fourteen ≡ true → (k : ℕ) → f (shape_of k) ≡ one_of k p
  column f z a = list (λ k. f (shape_of k)) (λ k e. ap f (unknown-shape k e) ∙ z) a

-- ---- the columns: the codes whose messages have the field

abbrev pub server_codes : List ℕ
server_codes = 16 ∷ 17 ∷ 18 ∷ 19 ∷ 21 ∷ 22 ∷ 23 ∷ []

abbrev pub ballot_codes : List ℕ
ballot_codes = 0 ∷ 1 ∷ 3 ∷ 16 ∷ 17 ∷ 19 ∷ 21 ∷ []

abbrev pub promise_codes : List ℕ
promise_codes = 21 ∷ []

abbrev pub ran_codes : List ℕ
ran_codes = 18 ∷ []

abbrev pub piece_codes : List ℕ
piece_codes = 0 ∷ 1 ∷ 2 ∷ 3 ∷ 20 ∷ []

abbrev pub set_codes : List ℕ
set_codes = 1 ∷ 2 ∷ 20 ∷ []

abbrev pub word_codes : List ℕ
word_codes = 16 ∷ []

abbrev pub prepared_codes : List ℕ
prepared_codes = 19 ∷ []

abbrev pub value_codes : List ℕ
value_codes = 23 ∷ []

module _ (k : ℕ) where
  pub known-codes : (shape_of k).known ≡ one_of k fourteen
  unfolding shape_of
  known-codes = column fourteen refl (λ h. h.known) refl refl k

  pub server-codes : (shape_of k).server ≡ one_of k server_codes
  unfolding shape_of
  server-codes = column server_codes refl (λ h. h.server) refl refl k

  pub ballot-codes : (shape_of k).ballot ≡ one_of k ballot_codes
  unfolding shape_of
  ballot-codes = column ballot_codes refl (λ h. h.ballot) refl refl k

  pub promise-codes : (shape_of k).promise ≡ one_of k promise_codes
  unfolding shape_of
  promise-codes = column promise_codes refl (λ h. h.promise) refl refl k

  pub ran-codes : (shape_of k).ran ≡ one_of k ran_codes
  unfolding shape_of
  ran-codes = column ran_codes refl (λ h. h.ran) refl refl k

  pub piece-codes : (shape_of k).pieces ≡ one_of k piece_codes
  unfolding shape_of
  piece-codes = column piece_codes refl (λ h. h.pieces) refl refl k

  pub set-codes : (shape_of k).set ≡ one_of k set_codes
  unfolding shape_of
  set-codes = column set_codes refl (λ h. h.set) refl refl k

  pub word-codes : (shape_of k).word ≡ one_of k word_codes
  unfolding shape_of
  word-codes = column word_codes refl (λ h. h.word) refl refl k

  pub prepared-codes : (shape_of k).prepared ≡ one_of k prepared_codes
  unfolding shape_of
  prepared-codes = column prepared_codes refl (λ h. h.prepared) refl refl k

  pub value-codes : (shape_of k).values ≡ one_of k value_codes
  unfolding shape_of
  value-codes = column value_codes refl (λ h. h.values) refl refl k

  -- "a server takes 0 to 5 and 20, a drive 16, 17, 19, 20, 21"
  pub server-takes : server_takes k ≡ one_of k (0 ∷ 1 ∷ 2 ∷ 3 ∷ 4 ∷ 5 ∷ 20 ∷ [])
  server-takes = list (0 ∷ 1 ∷ 2 ∷ 3 ∷ 4 ∷ 5 ∷ 20 ∷ []) refl server_takes past refl k
    where
      past : (j : ℕ) → one_of j fourteen ≡ false → server_takes j ≡ false
      past j e =
          let other : (c : ℕ) → one_of c fourteen ≡ true → j ≡ c → ⊥ = λ c h. eqb-false j c (not_code j e c h) in
          or_no (leb j 5) (eqb j 20) (lt-leb j 5 (omega (arith, other 0 refl, other 1 refl, other 2 refl, other 3 refl, other 4 refl, other 5 refl))) (not_code j e 20 refl)

  pub drive-takes : drive_takes k ≡ one_of k (16 ∷ 17 ∷ 19 ∷ 20 ∷ 21 ∷ [])
  drive-takes = list (16 ∷ 17 ∷ 19 ∷ 20 ∷ 21 ∷ []) refl drive_takes (λ j e. rw (not_code j e 16 refl, not_code j e 17 refl, not_code j e 19 refl, not_code j e 20 refl, not_code j e 21 refl)) refl k

  -- PreAccept, Accept and Prepare; Commit, and Done as a Commit; the OKs that a drive counts
  pub ask-codes : asks k ≡ one_of k (0 ∷ 1 ∷ 3 ∷ [])
  ask-codes = list (0 ∷ 1 ∷ 3 ∷ []) refl asks (λ j e. rw (not_code j e 0 refl, not_code j e 1 refl, not_code j e 3 refl)) refl k

  pub commit-codes : commits k ≡ one_of k (2 ∷ 20 ∷ [])
  commit-codes = list (2 ∷ 20 ∷ []) refl commits (λ j e. rw (not_code j e 2 refl, not_code j e 20 refl)) refl k

  pub ok-codes : oks k ≡ one_of k (16 ∷ 17 ∷ 19 ∷ [])
  ok-codes = list (16 ∷ 17 ∷ 19 ∷ []) refl oks (λ j e. rw (not_code j e 16 refl, not_code j e 17 refl, not_code j e 19 refl)) refl k
