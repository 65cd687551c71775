-- "Two messages are the same when their fields agree, arrays up to their counts."
-- A message is the same as its normal form, in which the fields that its code doesn't have and the entries behind a count are blank, and a flag is 0 or 1.
-- Decoding gives normal messages alone, and two messages are the same where their normal forms are equal.
use Rattle.std.specs.Prelude.{◌≡◌, map, ◌++◌, ◌-◌, take, replicate}
use Rattle.rules.specs.declared.Pieces.{Pieces}
use Rattle.rules.specs.declared.Value.{Value}
use Rattle.rules.specs.declared.Values.{Values}
use Rattle.rules.specs.declared.MaybeWord.{MaybeWord}
use Rattle.rules.specs.declared.MaybeVote.{MaybeVote}
use Rattle.rules.specs.Choice.{◌if◌else◌}
use Rattle.rules.specs.Flags.{there, flag}
use Rattle.rules.specs.Pieces.{no_piece, no_pieces}
use Rattle.rules.specs.Sets.{no_set}
use Rattle.rules.specs.Maybe.{no_word, some_word, no_vote, some_vote}
use Rattle.rules.specs.Values.{no_value, no_values}
use Rattle.wire.specs.declared.Message.{Message}
use Rattle.wire.specs.declared.Shape.{Shape}
use Rattle.wire.specs.Codes.{shape_of}

abbrev pub normal_pieces : Pieces → Pieces
normal_pieces p = record { list = take p.count p.list ++ replicate (8 - p.count) no_piece; count = p.count }

abbrev pub normal_value : Value → Value
normal_value v = record { value = v.value; kept = flag (there v.kept) }

abbrev pub normal_values : Values → Values
normal_values r = record { list = map normal_value (take r.count r.list) ++ replicate (8 - r.count) no_value; count = r.count }

abbrev pub normal_word : MaybeWord → MaybeWord
normal_word a = some_word a.word if there a.some else no_word

abbrev pub normal_vote : MaybeVote → MaybeVote
normal_vote a = some_vote a.ballot a.set if there a.some else no_vote

abbrev pub normal_by : Shape → Message → Message
normal_by h m =
    record {
      code = m.code;
      t = m.t;
      server = m.server if h.server else 0;
      ballot = m.ballot if h.ballot else 0;
      promise = m.promise if h.promise else 0;
      pieces = normal_pieces m.pieces if h.pieces else no_pieces;
      set = m.set if h.set else no_set;
      word = m.word if h.word else 0;
      arrival = normal_word m.arrival if h.prepared else no_word;
      accepted = normal_vote m.accepted if h.prepared else no_vote;
      values = normal_values m.values if h.values else no_values;
      ran = m.ran if h.ran else 0;
    }

unfoldable pub normal : Message → Message
normal m = normal_by (shape_of m.code) m

abbrev pub Same : Message → Message → Type 0
Same m n = normal m ≡ normal n
