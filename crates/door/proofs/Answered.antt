-- What encoding refuses, how a call ends by what it answers, and what `take` makes of bytes that decode, or do not. Assumes nothing.
use Prim.Native.Nat.{ℕ}
use mathlib.Core.Path.{◌≡◌, sym, ap, ◌∙◌}
use mathlib.Core.Bool.{true, false, not}
use mathlib.Core.List.{List}
use Rattle.rules.specs.Flags.{there}
use Rattle.rules.specs.declared.refusals.Refusal.{Refusal}
use Rattle.rules.specs.Refusal.{number_of, told}
use Rattle.drive.proofs.Told.{told-other}
use Rattle.std.specs.Prelude.{Result, Ok, Err, IfOk, OnErr}
use Rattle.encoding.specs.declared.Encoded.{Encoded}
use Rattle.encoding.specs.Answers.{answer, told_of}
use Rattle.door.proofs.Unwritten.{unwritten}
use Rattle.wire.specs.declared.Message.{Message}
use Rattle.wire.specs.Bytes.{decode}
use Rattle.wire.specs.Encoding.{encode}
use Rattle.server.specs.declared.Server.{Server}
use Rattle.door.specs.Exchange.{nothing_taken, exchanged, take, ends, taking}

-- a refusal is none that is not there
pub number-there : (r : Refusal) → there (number_of r) ≡ true
number-there r = ap not (told-other r)

-- what a host is told of an outcome is what is told of it
pub told-is : (r : Result ℕ Refusal) (e : Encoded) → told_of r ≡ e → told r ≡ e.refusal
told-is (Ok n) e h = λ i. (h i).refusal
told-is (Err x) e h = λ i. (h i).refusal

pub length-is : (r : Result ℕ Refusal) (e : Encoded) → told_of r ≡ e → IfOk r (λ n. n ≡ e.length)
length-is (Ok n) e h = λ i. (h i).length
length-is (Err x) e h = tt

-- where it refuses, the output is as it was
pub kept-is : (r : Result ℕ Refusal) (m : Message) (z : List ℕ) → told_of r ≡ answer (encode m z) → OnErr r ((encode m z).buffer ≡ z)
kept-is (Ok n) m z h = tt
kept-is (Err x) m z h = unwritten m z (ap there (sym (λ i. (h i).refusal)) ∙ number-there x)

-- where encoding refuses nothing is stored, and the output is as it was; else the server X is
module _ (s X : Server) (m : Message) (z : List ℕ) where
  pub ends-refused : (r : Refusal) → number_of r ≡ (encode m z).refusal → ends s z (encode m z) X ≡ nothing_taken s z (number_of r)
  ends-refused r e = rw (← e, number-there r)

  pub ends-written : 0 ≡ (encode m z).refusal → (n : ℕ) → n ≡ (encode m z).size → ends s z (encode m z) X ≡ record { answer = record { refusal = 0; length = n }; server = X; output = (encode m z).buffer }
  ends-written e n h = rw (← e, h)

-- ---- the bytes

module _ (s : Server) (input z : List ℕ) where
  pub take-undecoded : there (decode input).refusal ≡ true → take s input z ≡ nothing_taken s z (decode input).refusal
  unfolding take exchanged
  take-undecoded e = rw e

  pub take-decoded : there (decode input).refusal ≡ false → take s input z ≡ taking s (decode input).message z
  unfolding take taking exchanged
  take-decoded e = rw e
