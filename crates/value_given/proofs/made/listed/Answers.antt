-- `listed`: one cell more is in the list.
use Rattle.std.proofs.Common.{arith}
use Rattle.value_given.specs.Made.{upto_more, list_made}
use Rattle.value_given.proofs.made.listed.Goals as goal

pub loop-i-preserved : goal.loop-i-preserved
loop-i-preserved c =
    let a = c.args in
    let e = c.push-l.ensures.size in record {
      few = c.loop-i.invariant.few;
      many = omega arith;
      passed = upto_more a.tags.now a.nums.now a.shape c.loop-i.i c.loop-i.l c.push-l.result (omega arith) (omega arith) c.at.ensures c.push-l.ensures c.loop-i.invariant.passed;
    }

pub returns : goal.returns
returns c = list_made c.args.tags.now c.args.nums.now c.args.shape c.loop-i.i c.loop-i.l (omega arith) c.loop-i.invariant.passed
