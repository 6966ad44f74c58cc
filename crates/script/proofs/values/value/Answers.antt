-- `value`: by the test whether a list stands there.
use Rattle.script.specs.PlacesLaws.{value_one, value_list}
use Rattle.script.specs.ValuesLaws.{value_single, value_listed}
use Rattle.script.proofs.values.value.Goals as goal

pub returns-then-p : goal.returns-then-p
returns-then-p c =
    let a = c.args in
    let p = c.single.ensures in
    (value_single a.s.now a.at c.behind-p.ensures c.if-p.true p.0, value_one a.s.now a.at c.behind-p.ensures c.if-p.true p.1)

pub returns : goal.returns
returns c =
    let a = c.args in
    let p = c.list.ensures in
    (value_listed a.s.now a.at c.behind-p.ensures c.if-p.false p.0, value_list a.s.now a.at c.behind-p.ensures c.if-p.false p.1)
