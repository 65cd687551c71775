-- Transactions with the same pieces agree in all that is asked of pieces. Assumes nothing.
use Prim.Native.Nat.{ℕ, ◌-◌, ◌<◌}
use mathlib.Core.Path.{◌≡◌, refl, sym, ap, ap₂, ◌∙◌}
use mathlib.Core.Bool.{Bool, true, false, not, ◌&&◌, ◌||◌, and-false}
use native.Mathlib.Decide.{dec_lt}
use native.Mathlib.Omega.{arith}
use lib.Dec.{ltb, leb, eqb}
use lib.IntN.{ℤ, pos, negsuc}
use borrow.Author.Tests.{le-ltb, le-leb, lt-leb, eq-eqb, eqb-true}
use Rattle.masks.specs.Folds.{all_below}
use Rattle.masks.proofs.Bools.{and_yes, and_yes-l, and_yes_r, or_yes-l, or_yes_r}
use Rattle.masks.proofs.FoldLaws.{all_at, all_of, all_cong, any_cong, mask_cong}
use Rattle.masks.proofs.Counts.{count_cong}
use Rattle.rules.specs.declared.Piece.{Piece}
use Rattle.rules.specs.declared.Pieces.{Pieces}
use Rattle.rules.specs.Cluster.{SHARDS, KEYS, PIECES}
use Rattle.rules.specs.Pieces.{piece_at, read, same_int, same_piece, same_entry, same_pieces, entry_kept, pieces_kept, any_pieces, on_shard, touches, shards_of, pieces_on}
use Rattle.rules.specs.Conflict.{conflict}
use Rattle.rules.specs.Keys.{at_key, writes_at, has_key, writes_key, keys_on, clashes}
use Rattle.rules.proofs.ConflictIs.{conflict-keys}

pub same_int_lem : (x y : ℤ) → same_int x y ≡ true → x ≡ y
unfolding same_int
same_int_lem (pos m) (pos n) e = ap pos (eqb-true m n e)
same_int_lem (pos m) (negsuc n) e = absurd (mathlib.Core.Bool.false≢true e)
same_int_lem (negsuc m) (pos n) e = absurd (mathlib.Core.Bool.false≢true e)
same_int_lem (negsuc m) (negsuc n) e = ap negsuc (eqb-true m n e)

pub int_same : (x : ℤ) → same_int x x ≡ true
unfolding same_int
int_same (pos m) = eq-eqb m m refl
int_same (negsuc m) = eq-eqb m m refl

pub same_piece_lem : (p q : Piece) → same_piece p q ≡ true → p ≡ q
unfolding same_piece
same_piece_lem p q e =
    let three = and_yes-l (eqb p.shard q.shard && eqb p.key q.key && eqb p.kind q.kind) (same_int p.operand q.operand) e in
    let two = and_yes-l (eqb p.shard q.shard && eqb p.key q.key) (eqb p.kind q.kind) three in
    let s : p.shard ≡ q.shard = eqb-true p.shard q.shard (and_yes-l (eqb p.shard q.shard) (eqb p.key q.key) two) in
    let k : p.key ≡ q.key = eqb-true p.key q.key (and_yes_r (eqb p.shard q.shard) (eqb p.key q.key) two) in
    let m : p.kind ≡ q.kind = eqb-true p.kind q.kind (and_yes_r (eqb p.shard q.shard && eqb p.key q.key) (eqb p.kind q.kind) three) in
    let o : p.operand ≡ q.operand = same_int_lem p.operand q.operand (and_yes_r (eqb p.shard q.shard && eqb p.key q.key && eqb p.kind q.kind) (same_int p.operand q.operand) e) in
    λ i. record { shard = s i; key = k i; kind = m i; operand = o i }

pub piece_same : (p : Piece) → same_piece p p ≡ true
unfolding same_piece
piece_same p = rw (eq-eqb p.shard p.shard refl, eq-eqb p.key p.key refl, eq-eqb p.kind p.kind refl) (int_same p.operand)

-- the same pieces in words: as many, and equal up to the count
pub record Same (a b : Pieces) : Type 0 where
  pub count : a.count ≡ b.count
  pub piece : (i : ℕ) → i < PIECES → i < a.count → piece_at a i ≡ piece_at b i

pub same_is : (a b : Pieces) → same_pieces a b ≡ true → Same a b
unfolding same_pieces same_entry
same_is a b e =
    record {
      count = eqb-true a.count b.count (and_yes-l (eqb a.count b.count) (all_below (same_entry a b) PIECES) e);
      piece = λ i l c. same_piece_lem (piece_at a i) (piece_at b i) (rw (lt-leb a.count i c) at (all_at (same_entry a b) PIECES i (and_yes_r (eqb a.count b.count) (all_below (same_entry a b) PIECES) e) l));
    }

pub is_same : (a b : Pieces) → Same a b → same_pieces a b ≡ true
unfolding same_pieces same_entry
is_same a b s = and_yes (eqb a.count b.count) (all_below (same_entry a b) PIECES) (eq-eqb a.count b.count s.count) (all_of (same_entry a b) PIECES (λ i l. entry i l (dec_lt i a.count)))
  where
    entry : (i : ℕ) → i < PIECES → Dec (i < a.count) → (leb a.count i || same_piece (piece_at a i) (piece_at b i)) ≡ true
    entry i l (yes c) = or_yes_r (leb a.count i) (same_piece (piece_at a i) (piece_at b i)) (rw (s.piece i l c) (piece_same (piece_at b i)))
    entry i l (no g) = or_yes-l (leb a.count i) (same_piece (piece_at a i) (piece_at b i)) (le-leb a.count i (omega arith))

pub same_refl : (a : Pieces) → same_pieces a a ≡ true
same_refl a = is_same a a (record { count = refl; piece = λ i l c. refl })

pub same_sym : (a b : Pieces) → same_pieces a b ≡ true → same_pieces b a ≡ true
same_sym a b e = let s = same_is a b e in is_same b a (record { count = sym s.count; piece = λ i l c. sym (s.piece i l (rw (← s.count) at c)) })

pub same_trans : (a b d : Pieces) → same_pieces a b ≡ true → same_pieces b d ≡ true → same_pieces a d ≡ true
same_trans a b d e f =
    let s = same_is a b e in
    let t = same_is b d f in
    is_same a d (record { count = s.count ∙ t.count; piece = λ i l c. s.piece i l c ∙ t.piece i l (rw s.count at c) })

-- what follows from it
module _ (a b : Pieces) (same : same_pieces a b ≡ true) where
  -- a test agrees that asks whether a piece is there, and of that piece only if it is
  agrees : (f : Bool → Piece → Bool) → ((p q : Piece) → f false p ≡ f false q) → (i : ℕ) → i < PIECES → f (ltb i a.count) (piece_at a i) ≡ f (ltb i b.count) (piece_at b i)
  agrees f none i l = go (dec_lt i a.count)
    where
      s : Same a b
      s = same_is a b same

      go : Dec (i < a.count) → f (ltb i a.count) (piece_at a i) ≡ f (ltb i b.count) (piece_at b i)
      go (yes c) = rw (← s.count, s.piece i l c)
      go (no g) = rw (← s.count, le-ltb i a.count (omega arith)) (none (piece_at a i) (piece_at b i))

  pub same_count : a.count ≡ b.count
  same_count = (same_is a b same).count

  pub same-on-shard : (k i : ℕ) → i < PIECES → on_shard a k i ≡ on_shard b k i
  unfolding on_shard
  same-on-shard k i l = agrees (λ here p. here && eqb p.shard k) (λ p q. refl) i l

  pub same-touches : (k : ℕ) → touches a k ≡ touches b k
  unfolding touches
  same-touches k = any_cong (on_shard a k) (on_shard b k) PIECES (same-on-shard k)

  pub same-shards : shards_of a ≡ shards_of b
  unfolding shards_of
  same-shards = mask_cong (touches a) (touches b) SHARDS (λ k l. same-touches k)

  pub same-pieces-on : (k : ℕ) → pieces_on a k ≡ pieces_on b k
  unfolding pieces_on
  same-pieces-on k = count_cong (on_shard a k) (on_shard b k) PIECES (same-on-shard k)

  pub same-any-pieces : any_pieces a ≡ any_pieces b
  same-any-pieces = rw same_count

  at_key_lem : (k y i : ℕ) → i < PIECES → at_key a k y i ≡ at_key b k y i
  unfolding at_key on_shard
  at_key_lem k y i l = agrees (λ here p. here && eqb p.shard k && eqb p.key y) (λ p q. refl) i l

  writes-at : (k y i : ℕ) → i < PIECES → writes_at a k y i ≡ writes_at b k y i
  unfolding writes_at on_shard
  writes-at k y i l = agrees (λ here p. here && eqb p.shard k && not (eqb p.kind read) && eqb p.key y) (λ p q. refl) i l

  pub same_keys : (k : ℕ) → keys_on a k ≡ keys_on b k
  unfolding keys_on has_key writes_key
  same_keys k =
      let all : (keys_on a k).all ≡ (keys_on b k).all = mask_cong (has_key a k) (has_key b k) KEYS (λ y l. any_cong (at_key a k y) (at_key b k y) PIECES (at_key_lem k y)) in
      let written : (keys_on a k).written ≡ (keys_on b k).written = mask_cong (writes_key a k) (writes_key b k) KEYS (λ y l. any_cong (writes_at a k y) (writes_at b k y) PIECES (writes-at k y)) in
      λ i. record { all = all i; written = written i }

  entry_kept_lem : (i : ℕ) → i < PIECES → i < a.count → entry_kept a i ≡ entry_kept b i
  unfolding entry_kept
  entry_kept_lem i l c = let s = same_is a b same in rw (s.piece i l c, s.piece (i - 1) (omega arith) (omega arith))

  pub same_kept : pieces_kept a ≡ pieces_kept b
  unfolding pieces_kept entry_kept
  same_kept = rw (← same_count) (go (dec_lt PIECES a.count))
    where
      go : Dec (PIECES < a.count) → (leb 1 a.count && leb a.count PIECES && all_below (entry_kept a) a.count) ≡ (leb 1 a.count && leb a.count PIECES && all_below (entry_kept b) a.count)
      go (yes g) = rw (lt-leb a.count PIECES g, and-false)
      go (no l) = ap (λ (x : Bool). leb 1 a.count && leb a.count PIECES && x) (all_cong (entry_kept a) (entry_kept b) a.count (λ i c. entry_kept_lem i (omega arith) c))

pub same_conflict : (k : ℕ) (a b x y : Pieces) → same_pieces a x ≡ true → same_pieces b y ≡ true → conflict k a b ≡ conflict k x y
same_conflict k a b x y p q = conflict-keys k a b ∙ ap₂ clashes (same_keys a x p k) (same_keys b y q k) ∙ sym (conflict-keys k x y)
