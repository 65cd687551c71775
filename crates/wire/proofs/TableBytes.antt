-- The bytes of each message of document 01's table, with the count that request 2 puts at the end of a CommitOK: its code and then its fields, in the table's order and in no other. A number is four bytes, the greatest first, a word eight.
-- Assumes nothing.
use mathlib.Core.Path.{◌≡◌, refl}
use mathlib.Core.Bool.{Bool, true, false}
use mathlib.Core.List.{◌++◌, append-nil}
use Prim.Native.Nat.{ℕ}
use lib.ListN.{take}
use mir.Syntax.{w32}
use mir.Val.{of_z}
use Rattle.xdr.specs.Word.{be}
use Rattle.xdr.specs.Form.{u32, u64, int, flag as bool, ◌then◌, when, flat}
use Rattle.rules.specs.Choice.{◌if◌else◌}
use Rattle.rules.specs.Flags.{there}
use Rattle.rules.specs.Sets.{no_set}
use Rattle.rules.specs.declared.Piece.{Piece}
use Rattle.rules.specs.declared.Pieces.{Pieces}
use Rattle.rules.specs.declared.Set.{Set}
use Rattle.rules.specs.declared.Value.{Value}
use Rattle.rules.specs.declared.Values.{Values}
use Rattle.rules.specs.declared.MaybeWord.{MaybeWord}
use Rattle.rules.specs.declared.MaybeVote.{MaybeVote}
use Rattle.wire.specs.Codes.{shape_of}
use Rattle.wire.specs.Messages.{pre_accept, accept, commit, prepare, inquire, fetch, pre_accept_ok, accept_ok, commit_ok, prepare_ok, done, behind, not_yet, results}
use Rattle.wire.specs.Parts.{piece, pieces, set4, value, values, maybe_word, maybe_vote}
use Rattle.wire.specs.Bytes.{body, code, bytes}

-- ---- the parts

-- (shard, key, kind, operand), the operand in two's complement
pub piece_bytes : (p : Piece) → piece.put p ≡ be 4 p.shard ++ be 4 p.key ++ be 4 p.kind ++ be 4 (of_z w32 p.operand)
unfolding piece int be
piece_bytes p = refl

-- a count, and that many entries
pub pieces-bytes : (ps : Pieces) → pieces.put ps ≡ be 4 ps.count ++ flat piece (take ps.count ps.list)
unfolding pieces
pieces-bytes ps = refl

pub set-bytes : (v : Set) → set4.put v ≡ be 8 v.w0 ++ be 8 v.w1 ++ be 8 v.w2 ++ be 8 v.w3
unfolding set4 be
set-bytes v = refl

pub values-bytes : (r : Values) → values.put r ≡ be 4 r.count ++ flat value (take r.count r.list)
unfolding values
values-bytes r = refl

-- (value, bool kept): a bool is 1 or 0
pub value-bytes : (v : Value) → value.put v ≡ be 4 (of_z w32 v.value) ++ be 4 (1 if there v.kept else 0)
unfolding value int bool be
value-bytes v = go (there v.kept)
  where
    go : (b : Bool) → be 4 (of_z w32 v.value) ++ bool.put b ≡ be 4 (of_z w32 v.value) ++ be 4 (1 if b else 0)
    go true = refl
    go false = refl

-- optional-data: 0, or 1 and the item
pub maybe-word-bytes : (a : MaybeWord) → maybe_word.put a ≡ be 4 1 ++ be 8 a.word if there a.some else be 4 0
unfolding maybe_word bool be
maybe-word-bytes a = go (there a.some)
  where
    go : (b : Bool) → bool.put b ++ (when 0 u64 b).put a.word ≡ be 4 1 ++ be 8 a.word if b else be 4 0
    go true = refl
    go false = refl

pub maybe-vote-bytes : (a : MaybeVote) → maybe_vote.put a ≡ be 4 1 ++ be 4 a.ballot ++ set4.put a.set if there a.some else be 4 0
unfolding maybe_vote bool be
maybe-vote-bytes a = go (there a.some)
  where
    go : (b : Bool) → bool.put b ++ (when (0, no_set) (u32 then set4) b).put (a.ballot, a.set) ≡ be 4 1 ++ be 4 a.ballot ++ set4.put a.set if b else be 4 0
    go true = refl
    go false = refl

-- ---- the messages

module _ (t b : ℕ) (ps : Pieces) where
  pub pre_accept-bytes : bytes.put (pre_accept t b ps) ≡ be 4 0 ++ be 4 t ++ be 4 b ++ pieces.put ps
  unfolding bytes code body shape_of be
  pre_accept-bytes = simp append-nil

  pub prepare-bytes : bytes.put (prepare t b ps) ≡ be 4 3 ++ be 4 t ++ be 4 b ++ pieces.put ps
  unfolding bytes code body shape_of be
  prepare-bytes = simp append-nil

  pub accept-bytes : (v : Set) → bytes.put (accept t b ps v) ≡ be 4 1 ++ be 4 t ++ be 4 b ++ pieces.put ps ++ set4.put v
  unfolding bytes code body shape_of be
  accept-bytes v = simp append-nil

module _ (t : ℕ) where
  pub commit-bytes : (ps : Pieces) (v : Set) → bytes.put (commit t ps v) ≡ be 4 2 ++ be 4 t ++ pieces.put ps ++ set4.put v
  unfolding bytes code body shape_of be
  commit-bytes ps v = simp append-nil

  pub done-bytes : (ps : Pieces) (v : Set) → bytes.put (done t ps v) ≡ be 4 20 ++ be 4 t ++ pieces.put ps ++ set4.put v
  unfolding bytes code body shape_of be
  done-bytes ps v = simp append-nil

  pub inquire-bytes : bytes.put (inquire t) ≡ be 4 4 ++ be 4 t
  unfolding bytes code body shape_of be
  inquire-bytes = refl

  pub fetch-bytes : bytes.put (fetch t) ≡ be 4 5 ++ be 4 t
  unfolding bytes code body shape_of be
  fetch-bytes = refl

module _ (t s : ℕ) where
  pub pre_accept_ok-bytes : (b w : ℕ) → bytes.put (pre_accept_ok t s b w) ≡ be 4 16 ++ be 4 t ++ be 4 s ++ be 4 b ++ be 8 w
  unfolding bytes code body shape_of be
  pre_accept_ok-bytes b w = refl

  pub accept_ok-bytes : (b : ℕ) → bytes.put (accept_ok t s b) ≡ be 4 17 ++ be 4 t ++ be 4 s ++ be 4 b
  unfolding bytes code body shape_of be
  accept_ok-bytes b = refl

  -- the count of what ran is the last of it
  pub commit_ok-bytes : (n : ℕ) → bytes.put (commit_ok t s n) ≡ be 4 18 ++ be 4 t ++ be 4 s ++ be 4 n
  unfolding bytes code body shape_of be
  commit_ok-bytes n = refl

  pub prepare_ok-bytes : (b : ℕ) (a : MaybeWord) (c : MaybeVote) → bytes.put (prepare_ok t s b a c) ≡ be 4 19 ++ be 4 t ++ be 4 s ++ be 4 b ++ maybe_word.put a ++ maybe_vote.put c
  unfolding bytes code body shape_of be
  prepare_ok-bytes b a c = simp append-nil

  pub behind-bytes : (asked promise : ℕ) → bytes.put (behind t s asked promise) ≡ be 4 21 ++ be 4 t ++ be 4 s ++ be 4 asked ++ be 4 promise
  unfolding bytes code body shape_of be
  behind-bytes b p = refl

  pub not_yet-bytes : bytes.put (not_yet t s) ≡ be 4 22 ++ be 4 t ++ be 4 s
  unfolding bytes code body shape_of be
  not_yet-bytes = refl

  pub results-bytes : (r : Values) → bytes.put (results t s r) ≡ be 4 23 ++ be 4 t ++ be 4 s ++ values.put r
  unfolding bytes code body shape_of be
  results-bytes r = refl
