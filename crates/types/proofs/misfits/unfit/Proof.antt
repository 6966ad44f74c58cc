-- `unfit`: a row without an expression, or what the typer tells.
use borrow.Author.Rules.{rules}
use Rattle.parts.specs.Part.{table}
use Rattle.types.specs.JudgedLaws.{unfit_none, unfit_by}
use Rattle.types.proofs.misfits.unfit.Statement.{statement}
use Rattle.types.proofs.misfits.unfit.Tie as tie

returns : tie.Need-returns-then-e-eq0
returns c =
    let a = c.args in
    unfit_none a.rows.now (table a.cells.now a.bytes.now) a.names.now a.types.now a.j c.end-e.ensures c.if-e-eq0.true

returns-2 : tie.Need-returns
returns-2 c =
    let a = c.args in
    unfit_by a.rows.now (table a.cells.now a.bytes.now) a.names.now a.types.now a.j c.end-e.ensures c.if-e-eq0.false c.role-asked.ensures c.fits.ensures

pub unfit_spec : {M : Type 1} → statement M
unfit_spec = tie.close (tie.spec (λ c κs. search rules) returns (λ c κs. search rules) (λ c κs. search rules) returns-2)
