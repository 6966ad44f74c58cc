-- `read`: the reader, with every bracket that is allowed still to come.
use Rattle.expression_reader.specs.Reads.{whole_read}
use Rattle.expression_reader.proofs.read.Goals as goal

pub returns : goal.returns
returns c = whole_read c.expression.ensures
