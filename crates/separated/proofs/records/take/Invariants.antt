-- `take`: before each turn the place is within the chunk, or is the first, and what is left to read from it is what was to be read from the first.
use Rattle.std.proofs.Common.{◌≡◌, ◌≤◌, drop, length, max}
use Rattle.separated.specs.Reading.{read, read_from}
use Rattle.separated.proofs.records.take.Given as goal

abbrev pub invariant-loop-at : goal.invariant-loop-at
invariant-loop-at l =
    (l.at ≤ max l.fn.from (length l.chunk))
    × (read_from l.separator l.fn.from (read l.fn.begun l.initial.kept l.initial.ends) (drop l.fn.from l.chunk)
    ≡ read_from l.separator l.at (read l.scan l.kept l.ends) (drop l.at l.chunk))
