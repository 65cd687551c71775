-- What every message that code holds is: its arrays have eight places, and its numbers fit their fields.
use Rattle.std.specs.Prelude.{◌≡◌, List, [], ◌∷◌, ◌<◌, ◌^◌, length}
use Rattle.std.specs.Int.{w32}
use Rattle.std.proofs.Common.{SFits}
use Rattle.rules.specs.declared.Piece.{Piece}
use Rattle.rules.specs.declared.Set.{Set}
use Rattle.rules.specs.declared.Value.{Value}
use Rattle.wire.specs.declared.Message.{Message}

-- the arrays
pub record Sized (m : Message) : Type 0 where
  pub pieces : length m.pieces.list ≡ 8
  pub values : length m.values.list ≡ 8

abbrev pub Each : {A : Type 0} → (A → Type 0) → List A → Type 0
Each P [] = Unit {0}
Each P (a ∷ l) = P a × Each P l

pub record PieceFits (p : Piece) : Type 0 where
  pub shard : p.shard < 2 ^ 32
  pub key : p.key < 2 ^ 32
  pub kind : p.kind < 2 ^ 32
  pub operand : SFits w32 p.operand

pub record ValueFits (v : Value) : Type 0 where
  pub value : SFits w32 v.value
  pub kept : v.kept < 2 ^ 32

pub record SetFits (v : Set) : Type 0 where
  pub w0 : v.w0 < 2 ^ 64
  pub w1 : v.w1 < 2 ^ 64
  pub w2 : v.w2 < 2 ^ 64
  pub w3 : v.w3 < 2 ^ 64

pub record Fits (m : Message) : Type 0 where
  pub sized : Sized m
  pub code : m.code < 2 ^ 32
  pub t : m.t < 2 ^ 32
  pub server : m.server < 2 ^ 32
  pub ballot : m.ballot < 2 ^ 32
  pub promise : m.promise < 2 ^ 32
  pub pieces : Each PieceFits m.pieces.list
  pub piece_count : m.pieces.count < 2 ^ 32
  pub set : SetFits m.set
  pub word : m.word < 2 ^ 64
  pub arrived : m.arrival.some < 2 ^ 32
  pub arrival : m.arrival.word < 2 ^ 64
  pub voted : m.accepted.some < 2 ^ 32
  pub vote : m.accepted.ballot < 2 ^ 32
  pub accepted : SetFits m.accepted.set
  pub values : Each ValueFits m.values.list
  pub value_count : m.values.count < 2 ^ 32
  pub ran : m.ran < 2 ^ 32
