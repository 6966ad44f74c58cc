-- `suits`: each arm is a rule.
use Rattle.std.proofs.Common.{sym, subst, nat_eq}
use Rattle.typer.specs.declared.fitting.Role.{Role}
use Rattle.typer.specs.Fitting.{Suits}
use Rattle.typer.proofs.FittingLaws.{condition_suits, wording_suits}
use Rattle.typer.proofs.fitting.suits.Goals as goal

pub returns-in-Condition : goal.returns-in-Condition
returns-in-Condition c =
    let a = c.args in
    subst (λ (x : Role). Suits a.bytes.now a.names.now a.types.now x a.found (nat_eq a.found 66)) (sym c.in-Condition.is) (condition_suits a.bytes.now a.names.now a.types.now a.found)

pub returns-in-Wording : goal.returns-in-Wording
returns-in-Wording c =
    let a = c.args in
    subst (λ (x : Role). Suits a.bytes.now a.names.now a.types.now x a.found (nat_eq a.found 84)) (sym c.in-Wording.is) (wording_suits a.bytes.now a.names.now a.types.now a.found)
