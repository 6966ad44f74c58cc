-- `name_at`: a name within its limit passes the tests.
use Rattle.std.proofs.Common.{arith}
use Rattle.guideline_walk.specs.TextLaws.{name_short}
use Rattle.guideline_walk.proofs.texts.name_at.Goals as goal

pub returns-then-s-ge-HANDLE : goal.returns-then-s-ge-HANDLE
returns-then-s-ge-HANDLE c = record {
  short = omega arith;
  near = omega arith;
  named = λ kinds n sd h. absurd (let z = name_short c.spelt-s.ensures kinds n sd h in let y = sd.short in omega arith);
}
