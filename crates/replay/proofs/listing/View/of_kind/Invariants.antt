-- `of_kind`: before each turn the components below are listed, and each is there.
use Rattle.replay.specs.Rows.{buffer, Series, ComponentListed}
use Rattle.replay.proofs.listing.View.of_kind.Given as goal

abbrev pub invariant-loop-number : goal.invariant-loop-number
invariant-loop-number l = Series (ComponentListed l.self.texts.now l.self.plan.now l.self.waits.now l.self.state.now l.kind) l.number (buffer l.initial.out l.o) (buffer l.out l.p)
