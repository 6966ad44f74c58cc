-- `decide`: by its tests.
use Rattle.std.proofs.Common.{refl, arith}
use Rattle.running.specs.Run.{is_quiet, is_bounded, goes_on}
use Rattle.running.proofs.decide.Goals as goal

pub returns-then-asked-eq0 : goal.returns-then-asked-eq0
returns-then-asked-eq0 c = is_quiet c.if-asked-eq0.true c.ended.ensures

pub returns-then-bound-from : goal.returns-then-bound-from
returns-then-bound-from c = is_bounded c.if-asked-eq0.false (let e = c.from.ensures in let l = c.if-bound-from.true in omega arith) c.ended-then-bound-from.ensures

pub returns-else-bound-from : goal.returns-else-bound-from
returns-else-bound-from c = goes_on c.if-asked-eq0.false (omega arith) refl
