-- `step`: the place is behind the byte at the place before.
use Rattle.separated.specs.Reading.{read}
use Rattle.separated.specs.ReadingLaws.{taken_on}
use Rattle.season.proofs.chunks.step.Goals as goal

pub returns : goal.returns
returns c =
    let a = c.args in
    taken_on a.s.separator a.p.at (read a.p.work.scan a.kept.now a.ends.now) a.chunk.now c.requires c.take-t.ensures
