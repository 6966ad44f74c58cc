-- `text_at`: before each turn the pairs from p on are left (`Reading`).
use Rattle.std.proofs.Common.{◌-◌, length}
use Rattle.script.specs.LexemesLaws.{Reading}
use Rattle.script.proofs.lexemes.text_at.Given as goal

abbrev pub invariant-loop-b : goal.invariant-loop-b
invariant-loop-b l = Reading l.s l.at l.initial.bytes l.from l.bytes l.n l.p

abbrev pub decreases-loop-b : goal.decreases-loop-b
decreases-loop-b l = length l.s - l.p
