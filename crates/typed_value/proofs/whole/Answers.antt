-- `whole`: the value that stands behind the blanks, and what stands behind it. It is wrong only within what was read, by the law on two steps.
use Rattle.typed_value.specs.Onward.{placed_on, on_onward}
use Rattle.typed_value.specs.ReadingLaws.{told_value, whole_value}
use Rattle.typed_value.proofs.whole.Goals as goal

pub returns : goal.returns
returns c =
    let a = c.args in
    let q = c.skip.result in
    let v = c.value-t.ensures in
    let on = on_onward a.s.now a.from q c.value-t.result.place c.skip.ensures.0 v.0 in (
      placed_on a.s.now a.from c.value-t.result.place c.ended.result on c.ended.ensures.0,
      rw (← c.skip.ensures.1) (whole_value a.s.now (told_value a.s.now q) v.1 c.ended.ensures.1),
    )
