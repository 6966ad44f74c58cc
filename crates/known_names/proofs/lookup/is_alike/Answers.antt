-- `is_alike`: another length, a letter that differs, or none.
use Rattle.std.proofs.Common.{sym, ◌∙◌, below_more}
use Rattle.known_names.specs.NameLaws.{alike_long, alike_not, alike_all}
use Rattle.known_names.proofs.lookup.is_alike.Goals as goal

pub returns-then-name-h : goal.returns-then-name-h
returns-then-name-h c = alike_long c.args.name.now c.args.texts.now c.args.h c.if-name-h.true

pub returns-then-lower-letter : goal.returns-then-lower-letter
returns-then-lower-letter c = alike_not c.args.name.now c.args.texts.now c.args.h c.if-name-h.false c.loop-i.i c.loop-i-test.true (λ e. c.if-lower-letter.true (c.lower.ensures ∙ e ∙ sym c.letter.ensures))

pub loop-i-preserved : goal.loop-i-preserved
loop-i-preserved c = below_more _ _ c.loop-i.invariant (sym c.lower.ensures ∙ c.if-lower-letter.false ∙ c.letter.ensures)

pub returns : goal.returns
returns c = alike_all c.args.name.now c.args.texts.now c.args.h c.if-name-h.false c.loop-i.i c.loop-i-test.false c.loop-i.invariant
