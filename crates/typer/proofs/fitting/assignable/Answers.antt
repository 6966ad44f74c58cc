-- `assignable`: the type of the item that is found, by its declared type, or no such item.
use Rattle.std.proofs.Common.{length, arith, sym, ap, subst, ◌∙◌}
use Rattle.typer.specs.Leaves.{inferred_of}
use Rattle.typer.specs.Fitting.{Assignable}
use Rattle.typer.proofs.FittingLaws.{assigned_suits, assigned_none}
use Rattle.typer.proofs.fitting.assignable.Goals as goal

pub returns-in-Some : goal.returns-in-Some
returns-in-Some c =
    let a = c.args in
    let f = c.in-Some.ensures in
    subst (Assignable a.bytes.now a.names.now a.types.now a.h a.found) (sym c.meets.ensures)
    (assigned_suits a.bytes.now a.names.now a.types.now a.h c.in-Some.i a.found c.inferred.result f.1 f.0 (c.inferred.ensures ∙ ap inferred_of c.byte.ensures))

pub returns-in-None : goal.returns-in-None
returns-in-None c =
    let a = c.args in
    assigned_none a.bytes.now a.names.now a.types.now a.h (length a.names.now) a.found c.in-None.ensures (omega arith)
