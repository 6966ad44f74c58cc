-- `told_by`: before each turn the rest of the chunk tells what the whole tells.
use Rattle.std.proofs.Common.{◌≡◌, drop, false}
use Rattle.separated.specs.Records.{told_from}
use Rattle.separated.proofs.separators.told_by.Given as goal

abbrev pub invariant-loop-b : goal.invariant-loop-b
invariant-loop-b l = told_from l.inside (drop l.b-index l.chunk) ≡ told_from false l.chunk
