-- What is lent, as the table and the columns that the contracts speak of. Definitions only.
use Rattle.parts.specs.Part.{Table, table}
use Rattle.evaluator.specs.declared.lent.Lent.{Lent}
use Rattle.evaluator.specs.Columns.{Columns, columns}

abbrev pub table_of : Lent → Table
table_of l = table l.cells.now l.bytes.now

abbrev pub columns_of : Lent → Columns
columns_of l = columns l.names.now l.tags.now l.nums.now l.tasks.now l.states.now
