-- `table`: the bytes are Form's lists, by one computed equality.
use Rattle.std.proofs.Common.{refl}
use Rattle.paper_grammar.proofs.Laws.Form.{rows, blanks}
use Rattle.grammar.specs.Tables.{alternatives, alternatives_table, rows_table, empty_table, table}
use Rattle.grammar.proofs.tables.table.Goals as goal

pub returns : goal.returns
unfolding rows blanks alternatives alternatives_table rows_table empty_table table
returns c = refl
