-- `behind`: before each turn the rest of the word is looked for at p.
use Rattle.std.proofs.Common.{◌≡◌, drop}
use Rattle.script.specs.Lexemes.{behind_word}
use Rattle.script.proofs.lexemes.behind.Given as goal

abbrev pub invariant-loop-b : goal.invariant-loop-b
invariant-loop-b l = behind_word l.s l.p (drop l.b-index l.word) ≡ behind_word l.s l.at l.word
