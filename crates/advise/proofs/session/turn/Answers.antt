-- `turn`: there is no such line, it was too long, or it is answered.
use native.Mathlib.Omega.{arith}
use lib.ListN.{length-take}
use Rattle.advise.specs.Answer.{past, too_long, answered}
use Rattle.advise.proofs.session.turn.Goals as goal

pub returns-then-buffer-end : goal.returns-then-buffer-end
returns-then-buffer-end c = past c.if-buffer-end.true

pub returns-then-h : goal.returns-then-h
returns-then-h c = too_long c.if-buffer-end.false c.if-h.true

pub slice_bounds-line-end : goal.slice_bounds-line-end
slice_bounds-line-end c = simp length-take (omega arith)

pub returns : goal.returns
returns c = answered c.if-buffer-end.false c.if-h.false c.answer.ensures
