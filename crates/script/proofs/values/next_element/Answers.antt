-- `next_element`: by the test whether it is the first.
use Rattle.script.specs.PlacesLaws.{element_first, element_next}
use Rattle.script.specs.ValuesLaws.{put_first, put_next}
use Rattle.script.proofs.values.next_element.Goals as goal

pub returns-then-i-eq0 : goal.returns-then-i-eq0
returns-then-i-eq0 c =
    let a = c.args in
    let p = c.put_element.ensures in
    (put_first a.s.now a.i a.at c.if-i-eq0.true p.0, element_first a.s.now a.i a.at c.if-i-eq0.true p.1)

pub returns : goal.returns
returns c =
    let a = c.args in
    let p = c.put_element-2.ensures in
    (put_next a.s.now a.i a.at c.if-i-eq0.false c.behind.ensures p.0, element_next a.s.now a.i a.at c.if-i-eq0.false c.behind.ensures p.1)
