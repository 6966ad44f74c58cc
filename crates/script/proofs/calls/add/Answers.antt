-- `add`: its number, its value, and the end of its line.
use Rattle.script.specs.PlacesLaws.{add_is}
use Rattle.script.specs.ValuesLaws.{put_behind}
use Rattle.script.proofs.calls.add.Goals as goal

pub returns : goal.returns
returns c =
    let s = c.args.s.now in
    let v = c.value-end.ensures in
    (put_behind s c.number_at-item.ensures v.0, add_is s c.number_at-item.ensures v.1 c.behind.ensures)
