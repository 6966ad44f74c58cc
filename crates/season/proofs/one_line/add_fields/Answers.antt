-- `add_fields`: none yet, one field more, and all.
use Rattle.std.proofs.Common.{arith}
use Rattle.season.specs.OneLine.{none_yet}
use Rattle.season.specs.OneLineLaws.{more_as, all_many}
use Rattle.season.proofs.one_line.add_fields.Goals as goal

pub loop-i-init : goal.loop-i-init
loop-i-init c = none_yet

pub loop-i-preserved : goal.loop-i-preserved
loop-i-preserved c = more_as c.loop-i.invariant c.add_field-one.ensures c.earlier-r.ensures

pub returns : goal.returns
returns c = all_many (omega arith) c.loop-i.invariant
