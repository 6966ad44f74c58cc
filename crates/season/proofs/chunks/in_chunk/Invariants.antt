-- `in_chunk` ends: the measure is what is left of the chunk.
use Rattle.std.proofs.Common.{◌-◌, length}
use Rattle.season.proofs.chunks.in_chunk.Given as goal

abbrev pub decreases-loop-p : goal.decreases-loop-p
decreases-loop-p l = length l.chunk - l.p.at
