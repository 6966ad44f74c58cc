-- `of_kinds`: none is listed, one kind more, all seven.
use Rattle.std.proofs.Common.{arith, ◌≡◌}
use Rattle.replay.specs.Rows.{none}
use Rattle.replay.specs.RowsLaws.{one_more, so_many}
use Rattle.replay.proofs.listing.View.of_kinds.Goals as goal

pub loop-kind-init : goal.loop-kind-init
loop-kind-init c = none

pub loop-kind-preserved : goal.loop-kind-preserved
loop-kind-preserved c = one_more c.loop-kind.invariant c.of_kind-p.ensures

pub returns : goal.returns
returns c = let e : c.loop-kind.kind ≡ 7 = omega arith in so_many e c.loop-kind.invariant
