-- `is_word`: too short or too long, a letter that differs, or none.
use Rattle.std.proofs.Common.{◌∙◌}
use Rattle.typed_value.specs.LexemeLaws.{word_not_on, word_long, word_not, word_is}
use Rattle.typed_value.proofs.lexemes.is_word.Goals as goal
use Rattle.typed_value.proofs.lexemes.is_word.Goals.{then-to-from-via-then-to-from, then-to-from-via-else-to-from+then-to-from-2}

pub returns-then-to-from : goal.returns-then-to-from
returns-then-to-from c =
    let a = c.args in
    elim c.then-to-from.branch [
      | then-to-from-via-then-to-from w ↦ word_not_on a.s.now a.from a.to a.word.now w.if-to-from.true
      | then-to-from-via-else-to-from+then-to-from-2 w ↦ word_long a.s.now a.from a.to a.word.now w.if-to-from.false w.if-to-from-2.true
    ]

pub returns-then-byte-b : goal.returns-then-byte-b
returns-then-byte-b c =
    let a = c.args in
    word_not a.s.now a.from a.to a.word.now c.if-to-from.false c.if-to-from-2.false c.loop-i.i c.loop-i-test.true (λ e. c.if-byte-b.true (c.byte.ensures ∙ e))

pub returns : goal.returns
returns c =
    let a = c.args in
    word_is a.s.now a.from a.to a.word.now c.if-to-from.false c.if-to-from-2.false c.loop-i.i c.loop-i-test.false c.loop-i.invariant
