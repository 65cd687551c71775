-- The tests are the table. Assumes nothing.
use Rattle.messages.proofs.Fields.{fields_shape}
use Rattle.messages.proofs.codes.shape_of.Goals as goal

pub returns : goal.returns
returns c = fields_shape _
