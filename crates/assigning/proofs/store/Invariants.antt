-- `store`: by the items passed.
use Rattle.assigning.specs.Store.{Stored}
use Rattle.assigning.proofs.store.Given as goal

abbrev pub invariant-loop-d : goal.invariant-loop-d
invariant-loop-d l = Stored l.news l.texts l.d l.initial.s l.s l.initial.b l.b
