-- `judge`: the tests in their order.
use Rattle.parts.specs.Part.{table}
use Rattle.stages.specs.JudgedLaws.{bad_token, left_out_there, nothing_left_out}
use Rattle.stages.proofs.judge.Goals as goal

pub returns-in-Some : goal.returns-in-Some
returns-in-Some c =
    let s = c.args in
    bad_token s.text.now s.kinds.now s.places.now s.lengths.now s.rows.now (table s.cells.now s.bytes.now) c.in-Some.place c.in-Some.ensures

pub returns-in-Some-left_out : goal.returns-in-Some-left_out
returns-in-Some-left_out c =
    let s = c.args in
    left_out_there s.text.now s.kinds.now s.places.now s.lengths.now s.rows.now (table s.cells.now s.bytes.now) c.in-Some-left_out.place c.in_default.ensures c.in-Some-left_out.ensures

pub returns : goal.returns
returns c =
    let s = c.args in
    nothing_left_out s.text.now s.kinds.now s.places.now s.lengths.now s.rows.now (table s.cells.now s.bytes.now) c.in_default.ensures c.in_default-left_out.ensures c.within_limits.ensures
