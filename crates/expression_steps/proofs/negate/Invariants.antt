-- `negate`: each turn puts one minus on what the rows before hold.
use Rattle.expression_steps.specs.StepLaws.{Negated}
use Rattle.expression_steps.proofs.negate.Given as goal

abbrev pub invariant-loop-i : goal.invariant-loop-i
invariant-loop-i l = Negated l.fn.cells l.cells l.u l.v l.m l.i
