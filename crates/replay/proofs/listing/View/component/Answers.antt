-- `component`: none is listed, one row more, all 59.
use Rattle.std.proofs.Common.{arith, ◌≡◌}
use Rattle.replay.specs.Rows.{none}
use Rattle.replay.specs.RowsLaws.{one_more, so_many}
use Rattle.replay.proofs.listing.View.component.Goals as goal

pub loop-property-init : goal.loop-property-init
loop-property-init c = none

pub loop-property-preserved : goal.loop-property-preserved
loop-property-preserved c = one_more c.loop-property.invariant c.row-p.ensures

pub returns : goal.returns
returns c = let e : c.loop-property.property ≡ 59 = omega arith in so_many e c.loop-property.invariant
