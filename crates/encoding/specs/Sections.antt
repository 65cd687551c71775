-- A message's fields after its code, in two sections: the front, which is T, server, ballot, promise and the count of what ran, and the rest. Many messages have no rest.
use Rattle.std.specs.Prelude.{Bool, ◌||◌, List, [], ◌∷◌, ◌++◌, ℕ, ◌+◌}
use Rattle.xdr.specs.Form.{Form, u32, u64, ◌then◌, when}
use Rattle.xdr.proofs.Windows.{cost}
use Rattle.rules.specs.declared.Pieces.{Pieces}
use Rattle.rules.specs.declared.Set.{Set}
use Rattle.rules.specs.declared.MaybeWord.{MaybeWord}
use Rattle.rules.specs.declared.MaybeVote.{MaybeVote}
use Rattle.rules.specs.declared.Values.{Values}
use Rattle.rules.specs.Pieces.{no_pieces}
use Rattle.rules.specs.Sets.{no_set}
use Rattle.rules.specs.Maybe.{no_word, no_vote}
use Rattle.rules.specs.Values.{no_values}
use Rattle.wire.specs.declared.Message.{Message}
use Rattle.wire.specs.declared.Shape.{Shape}
use Rattle.wire.specs.Parts.{pieces, set4, prepared, values}

abbrev pub Front : Type 0
Front = (((ℕ × ℕ) × ℕ) × ℕ) × ℕ

unfoldable pub front : Shape → Form Front
front h = u32 then when 0 u32 h.server then when 0 u32 h.ballot then when 0 u32 h.promise then when 0 u32 h.ran

-- how many bytes the front takes
abbrev pub front_length : Shape → ℕ
front_length h = (((4 + cost h.server 4) + cost h.ballot 4) + cost h.promise 4) + cost h.ran 4

abbrev pub Rest : Type 0
Rest = (((Pieces × Set) × ℕ) × (MaybeWord × MaybeVote)) × Values

unfoldable pub rest : Shape → Form Rest
rest h =
    when no_pieces pieces h.pieces
    then when no_set set4 h.set
    then when 0 u64 h.word
    then when (no_word, no_vote) prepared h.prepared
    then when no_values values h.values

abbrev pub no_rest : Rest
no_rest = ((((no_pieces, no_set), 0), (no_word, no_vote)), no_values)

-- a message has some of the rest
unfoldable pub long : Shape → Bool
long h = h.pieces || h.set || h.word || h.prepared || h.values

-- a message from its code, front and rest
abbrev pub joined : ℕ → Front → Rest → Message
joined k f x =
    record {
      code = k;
      t = f.0.0.0.0;
      server = f.0.0.0.1;
      ballot = f.0.0.1;
      promise = f.0.1;
      pieces = x.0.0.0.0;
      set = x.0.0.0.1;
      word = x.0.0.1;
      arrival = x.0.1.0;
      accepted = x.0.1.1;
      values = x.1;
      ran = f.1;
    }

-- sections in a row
abbrev pub cat : List (List ℕ) → List ℕ
cat [] = []
cat (s ∷ ss) = s ++ cat ss
