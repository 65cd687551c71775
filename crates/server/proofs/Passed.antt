-- A message that a server does not refuse: none of the refusals' tests fires. And which test fired for 5 and for 6. Assumes nothing.
use mathlib.Core.Path.{◌≡◌, refl, sym}
use mathlib.Core.Logic.{◌≢◌}
use mathlib.Core.Bool.{Bool, true, false, not, cond}
use Prim.Native.Nat.{ℕ, ◌<◌}
use native.Mathlib.Omega.{arith}
use borrow.Author.Tests.{ltb-false}
use Rattle.masks.proofs.Bools.{not_no, or_no_l}
use Rattle.rules.specs.Pieces.{shards_of}
use Rattle.wire.specs.declared.Message.{Message}
use Rattle.wire.specs.Faults.{bad_numbers, bad_pieces, bad_sets}
use Rattle.server.specs.declared.Server.{Server}
use Rattle.server.specs.Held.{record_at, shard}
use Rattle.server.specs.Form.{formed}
use Rattle.server.specs.Refusals.{not_taken, untouched, other_pieces, other_set, refusal}
use Rattle.server.specs.Serve.{serve, taken}
use Rattle.server.proofs.StepIs.{by-step}

pub record Passed (s : Server) (m : Message) : Type 0 where
  pub form : formed s ≡ true
  pub code : not_taken m ≡ false
  pub numbers : bad_numbers m ≡ false
  pub pieces : bad_pieces m ≡ false
  pub sets : bad_sets (shards_of m.pieces) m ≡ false
  pub shard : untouched (shard s) (shards_of m.pieces) m ≡ false
  pub same : other_pieces (record_at s m.t) m ≡ false
  pub set : other_set (record_at s m.t) m ≡ false

-- a refusal that isn't the number asked for didn't fire
pub not_first : (n : ℕ) (b : Bool) (k r : ℕ) → k ≢ n → cond b k r ≡ n → (b ≡ false) × (r ≡ n)
not_first n true k r h e = absurd (h e)
not_first n false k r h e = (refl, e)

-- one that no later one can be fired
pub is_first : (n : ℕ) (b : Bool) (r : ℕ) → r ≢ n → cond b n r ≡ n → b ≡ true
is_first n true r h e = refl
is_first n false r h e = absurd (h e)

pub passed : (s : Server) (m : Message) → refusal s m ≡ 0 → Passed s m
unfolding refusal
passed s m e =
    let p13 = not_first 0 (not (formed s)) 13 _ (λ z. omega arith) e in
    let p12 = not_first 0 (not_taken m) 12 _ (λ z. omega arith) p13.1 in
    let p1 = not_first 0 (bad_numbers m) 1 _ (λ z. omega arith) p12.1 in
    let p2 = not_first 0 (bad_pieces m) 2 _ (λ z. omega arith) p1.1 in
    let p3 = not_first 0 (bad_sets (shards_of m.pieces) m) 3 _ (λ z. omega arith) p2.1 in
    let p4 = not_first 0 (untouched (shard s) (shards_of m.pieces) m) 4 _ (λ z. omega arith) p3.1 in
    let p5 = not_first 0 (other_pieces (record_at s m.t) m) 5 _ (λ z. omega arith) p4.1 in
    let p6 = not_first 0 (other_set (record_at s m.t) m) 6 _ (λ z. omega arith) p5.1 in
    record {
      form = not_no (formed s) p13.0;
      code = p12.0;
      numbers = p1.0;
      pieces = p2.0;
      sets = p3.0;
      shard = p4.0;
      same = p5.0;
      set = p6.0;
    }

six_or_none : (b : Bool) → ◌≢◌ {A = ℕ} (cond b 6 0) 5
six_or_none true e = omega arith
six_or_none false e = omega arith

-- what is known of a message that is refused by 5
pub record OtherPieces (s : Server) (m : Message) : Type 0 where
  pub code : not_taken m ≡ false
  pub numbers : bad_numbers m ≡ false
  pub pieces : bad_pieces m ≡ false
  pub other : other_pieces (record_at s m.t) m ≡ true

pub refused5 : (s : Server) (m : Message) → refusal s m ≡ 5 → OtherPieces s m
unfolding refusal
refused5 s m e =
    let p13 = not_first 5 (not (formed s)) 13 _ (λ z. omega arith) e in
    let p12 = not_first 5 (not_taken m) 12 _ (λ z. omega arith) p13.1 in
    let p1 = not_first 5 (bad_numbers m) 1 _ (λ z. omega arith) p12.1 in
    let p2 = not_first 5 (bad_pieces m) 2 _ (λ z. omega arith) p1.1 in
    let p3 = not_first 5 (bad_sets (shards_of m.pieces) m) 3 _ (λ z. omega arith) p2.1 in
    let p4 = not_first 5 (untouched (shard s) (shards_of m.pieces) m) 4 _ (λ z. omega arith) p3.1 in
    record {
      code = p12.0;
      numbers = p1.0;
      pieces = p2.0;
      other = is_first 5 (other_pieces (record_at s m.t) m) _ (six_or_none (other_set (record_at s m.t) m)) p4.1;
    }

-- what is known of a message that is refused by 6
pub record OtherSet (s : Server) (m : Message) : Type 0 where
  pub code : not_taken m ≡ false
  pub numbers : bad_numbers m ≡ false
  pub other : other_set (record_at s m.t) m ≡ true

pub refused6 : (s : Server) (m : Message) → refusal s m ≡ 6 → OtherSet s m
unfolding refusal
refused6 s m e =
    let p13 = not_first 6 (not (formed s)) 13 _ (λ z. omega arith) e in
    let p12 = not_first 6 (not_taken m) 12 _ (λ z. omega arith) p13.1 in
    let p1 = not_first 6 (bad_numbers m) 1 _ (λ z. omega arith) p12.1 in
    let p2 = not_first 6 (bad_pieces m) 2 _ (λ z. omega arith) p1.1 in
    let p3 = not_first 6 (bad_sets (shards_of m.pieces) m) 3 _ (λ z. omega arith) p2.1 in
    let p4 = not_first 6 (untouched (shard s) (shards_of m.pieces) m) 4 _ (λ z. omega arith) p3.1 in
    let p5 = not_first 6 (other_pieces (record_at s m.t) m) 5 _ (λ z. omega arith) p4.1 in
    record { code = p12.0; numbers = p1.0; other = is_first 6 (other_set (record_at s m.t) m) 0 (λ z. omega arith) p5.1 }

-- the step's refusal is that number
pub serve-refusal : (s : Server) (m : Message) → (serve s m).refusal ≡ refusal s m
unfolding taken
serve-refusal s m = by-step s m (λ v. v.refusal ≡ refusal s m) (λ n. refl) (λ e k. sym e) (λ e k. sym e)

-- the number is one
pub number_below : (m : Message) → bad_numbers m ≡ false → m.t < 64
unfolding bad_numbers
number_below m e =
    let l = ltb-false 63 m.t (or_no_l _ _ (or_no_l _ _ (or_no_l _ _ (or_no_l _ _ (or_no_l _ _ e))))) in omega arith
