-- `unpack`: all rows are passed.
use Rattle.std.proofs.Common.{rules, arith, length-set, ◌∙◌}
use Rattle.square.specs.Square.{upto_more, upto_all}
use Rattle.square.proofs.unpack.Goals as goal

pub loop-i-preserved : goal.loop-i-preserved
loop-i-preserved c = record {
  long = length-set c.loop-i.marks-items c.loop-i.i _ ∙ c.loop-i.invariant.long;
  passed = upto_more _ _ c.loop-i.marks-items c.loop-i.i (omega arith) c.row.ensures c.loop-i.invariant.passed;
}

pub returns : goal.returns
returns c = upto_all _ _ _ 32 c.loop-i.i c.loop-i.invariant.long (search rules) c.loop-i.invariant.passed
