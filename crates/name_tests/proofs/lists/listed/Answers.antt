-- `listed`: the test of each place of the list.
use Rattle.std.proofs.Common.{arith, rules, tests}
use Rattle.std.proofs.lemmas.Iterator.{YieldsList-from_range}
use Rattle.std.proofs.lemmas.Iterator.Search.{any_from_yields_List}
use Rattle.row_tests.specs.Searched.{some_range}
use Rattle.name_tests.specs.Lists.{listed_at}
use Rattle.name_tests.proofs.lists.listed.Goals as goal

pub returns : goal.returns
returns c =
    let a = c.args in
    let f = listed_at a.rows.now a.bytes.now a.list.now a.to a.folded a.h in
    let e = any_from_yields_List f _ _ c.any.result c.any.ensures.ran (YieldsList-from_range 0 a.m a.m (cc) (omega arith)) (λ x b q k. search (rules, tests)) in
    rw e (some_range f a.m 0 a.m (omega arith))
