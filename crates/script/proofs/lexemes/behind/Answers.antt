-- `behind`: past the end or at another byte it is nowhere, at the same byte the rest is looked for, and at its end it is found.
use Rattle.std.proofs.Common.{arith, sym, ◌∙◌}
use Rattle.script.specs.LexemesLaws.{word_past, word_other, word_same, word_done}
use Rattle.script.proofs.lexemes.behind.Goals as goal
use Rattle.script.proofs.lexemes.behind.Goals.{then-p-s-via-then-p-s, then-p-s-via-else-p-s+then-s-p}

pub returns-then-p-s : goal.returns-then-p-s
returns-then-p-s c =
    let a = c.args in
    let l = c.loop-b in
    elim c.then-p-s.branch [
      | then-p-s-via-then-p-s w ↦ sym (word_past a.s.now l.p a.word.now l.b-index (omega arith) (omega arith)) ∙ l.invariant
      | then-p-s-via-else-p-s+then-s-p w ↦ sym (word_other a.s.now l.p a.word.now l.b-index (omega arith) (omega arith) w.if-s-p.true) ∙ l.invariant
    ]

pub loop-b-preserved : goal.loop-b-preserved
loop-b-preserved c = let a = c.args in let l = c.loop-b in sym (word_same a.s.now l.p a.word.now l.b-index (omega arith) (omega arith) c.if-s-p.false) ∙ l.invariant

pub returns : goal.returns
returns c = let a = c.args in let l = c.loop-b in sym (word_done a.s.now l.p a.word.now l.b-index (omega arith)) ∙ l.invariant
