-- `put`: a row that is not wanted, one that there is room for, and one that there is not.
use mathlib.Core.Path.{◌≡◌, sym, ap, ◌∙◌}
use lib.ListN.{length-set}
use borrow.Author.Rules.{rules}
use borrow.Author.Tests.{not-true, not-false}
use Rattle.row_tests.specs.Table.{kind_of}
use Rattle.name_tests.specs.Lists.{chosen, puts_not, puts_room, puts_full}
use Rattle.name_tests.proofs.lists.put.Statement.{statement}
use Rattle.name_tests.proofs.lists.put.Tie as tie

asked : (c : tie.After-wanted) → c.wanted.result ≡ chosen c.before.before.before.before.args.tasks (kind_of c.before.before.before.before.args.rows.now c.before.before.before.before.args.i)
asked c = c.wanted.ensures ∙ ap (chosen c.before.before.before.before.args.tasks) c.before.kind.ensures

returns : tie.Need-returns-then-not-wanted
returns c = let a = c.before.before.before.before.before.args in puts_not a.tasks a.rows.now a.list.now a.m a.i (sym (asked c.before) ∙ not-true _ c.if-not-wanted.true-raw) c.before.before.before.before.before.requires.0

same_length : tie.Need-shape_of-list-then-m-list
same_length c = simp length-set

returns-2 : tie.Need-returns-then-m-list
returns-2 c = let a = c.before.before.before.before.before.before.args in puts_room a.tasks a.rows.now a.list.now a.m a.i (sym (asked c.before.before) ∙ not-false _ c.before.if-not-wanted.false-raw) c.before.before.before.before.before.before.requires.0 c.if-m-list.true

returns-3 : tie.Need-returns
returns-3 c = let a = c.before.before.before.before.before.before.args in puts_full a.tasks a.rows.now a.list.now a.m a.i (sym (asked c.before.before) ∙ not-false _ c.before.if-not-wanted.false-raw) c.before.before.before.before.before.before.requires.0 c.if-m-list.false

pub put_spec : {M : Type 1} → statement M
put_spec =
    tie.close
    (tie.spec
    (λ c κs. search rules) (λ c κs. search rules)
    returns
    (λ c. search rules) (λ c. search rules) (λ c. search rules) (λ c. search rules)
    same_length
    returns-2
    (λ c. search rules)
    returns-3)
