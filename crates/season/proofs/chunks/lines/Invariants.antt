-- `lines`: the chunk has the bytes that were read.
use Rattle.std.proofs.Common.{◌≤◌, length}
use Rattle.season.proofs.chunks.lines.Given as goal

abbrev pub invariant-loop : goal.invariant-loop
invariant-loop l = l.n ≤ length l.chunk
