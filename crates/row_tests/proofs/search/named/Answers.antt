-- `named`: the test of each row of the range.
use Rattle.std.proofs.Common.{◌-◌, refl, rules, tests}
use Rattle.std.proofs.lemmas.Iterator.{YieldsList-from_range}
use Rattle.std.proofs.lemmas.Iterator.Search.{any_from_yields_List}
use Rattle.row_tests.specs.Table.{component_named}
use Rattle.row_tests.specs.Searched.{some_range}
use Rattle.row_tests.proofs.search.named.Goals as goal

pub returns : goal.returns
returns c =
    let a = c.args in
    let f = component_named a.rows.now a.bytes.now a.h in
    let n = a.to - a.from in
    let e = any_from_yields_List f _ _ c.any.result c.any.ensures.ran (YieldsList-from_range a.from a.to n (cc) refl) (λ x b q k. search (rules, tests)) in
    rw e (some_range f n a.from a.to refl)
