-- Four words are a piece. Assumes nothing.
use Rattle.std.proofs.Common.{◌∙◌, to_z-of_z}
use Rattle.std.specs.Int.{w32}
use Rattle.codec.proofs.ReadExact.{piece-read}
use Rattle.codec.proofs.exact.PieceFixed.at.Goals as goal

pub returns : goal.returns
returns c =
    let y = to_z-of_z {w = w32} {z = c.cast_signed.result} (record { sfits = c.cast_signed.type_inv }) in
    piece-read c.args.s.now c.args.at c.requires c.word_at.ensures c.word_at-2.ensures c.word_at-3.ensures c.word_at-4.ensures (y ∙ c.cast_signed.ensures)
