-- `has_source`: before each turn one is looked for from the source on.
use Rattle.std.proofs.Common.{◌≡◌, ◌-◌}
use Rattle.asked.specs.Asked.{any_from, source_of}
use Rattle.asked.proofs.has_source.Given as goal

abbrev pub invariant-loop-k : goal.invariant-loop-k
invariant-loop-k l = any_from (source_of l.plan l.first l.d) l.k (l.n - l.k) ≡ any_from (source_of l.plan l.first l.d) 0 l.n
