-- `is_same`: another length, a letter that differs, or none.
use Rattle.std.proofs.Common.{sym, ◌∙◌}
use Rattle.known_names.specs.NameLaws.{exact_long, exact_not, exact_all}
use Rattle.known_names.proofs.lookup.is_same.Goals as goal

pub returns-then-name-h : goal.returns-then-name-h
returns-then-name-h c = exact_long c.args.name.now c.args.texts.now c.args.h c.if-name-h.true

pub returns-then-b-at : goal.returns-then-b-at
returns-then-b-at c = exact_not c.args.name.now c.args.texts.now c.args.h c.if-name-h.false c.loop-i.i c.loop-i-test.true (λ e. c.if-b-at.true (e ∙ sym c.at.ensures))

pub returns : goal.returns
returns c = exact_all c.args.name.now c.args.texts.now c.args.h c.if-name-h.false c.loop-i.i c.loop-i-test.false c.loop-i.invariant
