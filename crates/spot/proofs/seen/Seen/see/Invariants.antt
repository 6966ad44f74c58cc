-- `see`: what is known describes the text and the bytes passed.
use Rattle.std.proofs.Common.{List, ℕ, ◌+◌, ◌<◌, ◌++◌, length, take}
use Rattle.spot.specs.Seen.{countable, Describes}
use Rattle.spot.proofs.seen.Seen.see.Given as goal

abbrev pub invariant-loop-b : goal.invariant-loop-b
invariant-loop-b l = (t : List ℕ) → length t + length l.chunk < countable → Describes t l.fn.self → Describes (t ++ take l.b-index l.chunk) l.seen
