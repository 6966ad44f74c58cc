-- `spell`: before each turn the parts that were passed have their letters.
use Rattle.std.proofs.Common.{◌≤◌, ◌≡◌, ◌⊎◌}
use Rattle.parts.specs.Part.{table}
use Rattle.told_refusal.specs.SettledLaws.{Letters}
use Rattle.told_refusal.proofs.typed.spell.Given as goal

abbrev pub invariant-loop-p : goal.invariant-loop-p
invariant-loop-p l = Letters (table l.cells l.bytes) l.names l.types l.from l.fn.letters l.letters l.p × ((l.p ≤ l.to) ⊎ (l.p ≡ l.from))
