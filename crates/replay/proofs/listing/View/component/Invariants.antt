-- `component`: before each turn the rows of the properties below are listed.
use Rattle.replay.specs.Rows.{buffer, Series, RowListed}
use Rattle.replay.proofs.listing.View.component.Given as goal

abbrev pub invariant-loop-property : goal.invariant-loop-property
invariant-loop-property l = Series (RowListed l.self.texts.now l.self.plan.now l.self.waits.now l.self.state.now l.kind l.number) l.property (buffer l.initial.out l.o) (buffer l.out l.p)
