-- `row`: all places are passed.
use Rattle.std.proofs.Common.{rules}
use Rattle.square.specs.Square.{upto_all}
use Rattle.square.proofs.row.Goals as goal

pub returns : goal.returns
returns c = upto_all _ _ _ 32 c.loop-j.j (search rules) (search rules) c.loop-j.invariant
