-- `untyped`: one more part that has a type.
use Rattle.parts.specs.Part.{table}
use Rattle.row_tests.specs.Searched.{up_more}
use Rattle.explain_rows.specs.Types.{Lettered, some_letter}
use Rattle.explain_rows.proofs.types.untyped.Goals as goal

pub loop-p-preserved : goal.loop-p-preserved
loop-p-preserved c =
    let a = c.args in
    up_more (Lettered (table a.cells.now a.bytes.now) a.names.now a.types.now) c.loop-p.invariant (c.letter.result, some_letter c.if-letter-eq0.false, c.letter.ensures)
