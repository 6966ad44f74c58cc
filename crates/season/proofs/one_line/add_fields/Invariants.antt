-- `add_fields`: the fields before the index are entered, one after the other.
use Rattle.season.specs.OneLine.{AllEntered}
use Rattle.season.proofs.one_line.add_fields.Given as goal

abbrev pub invariant-loop-i : goal.invariant-loop-i
invariant-loop-i l = AllEntered l.columns l.kept l.ends l.plan l.initial.texts l.initial.state l.i l.texts l.state l.r.number l.r.name
