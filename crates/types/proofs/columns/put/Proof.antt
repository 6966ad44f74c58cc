-- `put`: a row that is no data item, one that there is no room for, and one that there is.
use mathlib.Core.Path.{sym, ◌∙◌}
use mathlib.Core.Logic.{inl, inr}
use lib.ListN.{length-set}
use borrow.Author.Rules.{rules}
use Rattle.types.specs.Columns.{passed, full}
use Rattle.types.specs.ColumnLaws.{puts_both}
use Rattle.types.proofs.columns.put.Statement.{statement}
use Rattle.types.proofs.columns.put.Tie as tie

returns : tie.Need-returns-then-kind-ne-DATA
returns c = passed (λ e. c.if-kind-ne-DATA.true (c.before.kind.ensures ∙ e))

returns-2 : tie.Need-returns-then-names-m
returns-2 c = full (sym c.before.before.kind.ensures ∙ c.before.if-kind-ne-DATA.false) (inl c.if-names-m.true)

returns-3 : tie.Need-returns-then-types-m
returns-3 c = full (sym c.before.before.before.kind.ensures ∙ c.before.before.if-kind-ne-DATA.false) (inr c.if-types-m.true)

same_length : tie.Need-shape_of-names
same_length c = simp length-set

same-length-2 : tie.Need-shape_of-types
same-length-2 c = simp length-set

returns-4 : tie.Need-returns
returns-4 c =
    let a = c.before.before.before.before.before.before.before.before.before.args in
    puts_both a.rows.now a.names.now a.types.now a.m a.i (sym c.before.before.before.before.before.kind.ensures ∙ c.before.before.before.before.if-kind-ne-DATA.false) c.before.before.before.if-names-m.false c.before.before.if-types-m.false c.before.word.result c.word-2.result c.before.word.ensures c.word-2.ensures

pub put_spec : {M : Type 1} → statement M
put_spec =
    tie.close
    (tie.spec
    (λ c κs. search rules)
    returns
    (λ c. search rules)
    returns-2
    (λ c. search rules)
    returns-3
    (λ c. search rules) (λ c. search rules) (λ c κs. search rules) (λ c. search rules) (λ c. search rules)
    (λ c. search rules) (λ c. search rules) (λ c κs. search rules) (λ c. search rules) (λ c. search rules) (λ c. search rules)
    same_length
    same-length-2
    returns-4)
