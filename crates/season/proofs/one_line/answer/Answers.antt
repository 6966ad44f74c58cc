-- `answer`: the labels, and the line behind them.
use Rattle.std.proofs.Common.{arith}
use Rattle.season.specs.OneLineLaws.{line_as}
use Rattle.season.proofs.one_line.answer.Goals as goal

pub returns : goal.returns
returns c = line_as c.labels-p.ensures (c.in_copies.ensures (omega arith) (omega arith))
