-- `answer_asked`: the fields before the index are answered, one after the other.
use Rattle.season.specs.Series.{AllAnswered}
use Rattle.season.proofs.fields.answer_asked.Given as goal

abbrev pub invariant-loop-i : goal.invariant-loop-i
invariant-loop-i l = AllAnswered l.columns l.kept l.ends l.plan l.initial.texts l.initial.state l.i l.texts l.state l.any
