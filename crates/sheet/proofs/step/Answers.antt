-- `sheet::step` goes on: what it writes leaves the place as it is.
use Rattle.std.proofs.Common.{◌<◌, length, arith}
use Rattle.sheet.proofs.step.Goals as goal

pub returns : goal.returns
returns c h =
    let r = c.room-ready in
    let same = r.ensures.at in
    let l : r.result.at < length c.args.chunk.now = omega arith in
    let on = c.step.ensures.onward l in
    omega arith
