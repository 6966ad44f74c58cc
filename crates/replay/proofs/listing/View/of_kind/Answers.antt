-- `of_kind`: none is listed, the first that is not there, one component more, and as many as there may be.
use Rattle.std.proofs.Common.{rules, arith, inl, inr}
use Rattle.replay.specs.Rows.{none}
use Rattle.replay.specs.RowsLaws.{one_more, is_absent, is_present}
use Rattle.replay.proofs.listing.View.of_kind.Goals as goal

pub loop-number-init : goal.loop-number-init
loop-number-init c = none

pub returns-then-not-is_there : goal.returns-then-not-is_there
returns-then-not-is_there c = let l = c.loop-number in record { number = l.number; components = l.invariant; all = inr (omega arith, is_absent c.is_there.ensures (search rules)) }

pub loop-number-preserved : goal.loop-number-preserved
loop-number-preserved c = one_more c.loop-number.invariant (record { there = is_present c.is_there.ensures (search rules); rows = c.component-p.ensures })

pub returns : goal.returns
returns c = let l = c.loop-number in record { number = l.number; components = l.invariant; all = inl (omega arith) }
