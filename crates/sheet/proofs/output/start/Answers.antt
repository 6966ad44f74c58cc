-- `output::start` meets its contract: the header is appended.
use Rattle.std.proofs.Common.{refl, arith}
use Rattle.sheet.specs.StepsLaws.{put}
use Rattle.sheet.proofs.output.start.Goals as goal

pub returns : goal.returns
returns c =
    let r = c.requires in
    record { at = refl; kept = refl; first = refl; put = put c.word-o.ensures (omega arith) }
