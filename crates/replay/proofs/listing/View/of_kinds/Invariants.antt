-- `of_kinds`: before each turn the kinds below are listed.
use Rattle.replay.specs.Rows.{buffer, Series, KindListed}
use Rattle.replay.proofs.listing.View.of_kinds.Given as goal

abbrev pub invariant-loop-kind : goal.invariant-loop-kind
invariant-loop-kind l = Series (KindListed l.self.texts.now l.self.plan.now l.self.waits.now l.self.state.now) l.kind (buffer l.initial.out l.o) (buffer l.out l.p)
