-- `read`: there are so many bytes, or not. The first bytes of a text that has as many are so many.
use native.Mathlib.Omega.{arith}
use lib.ListN.{length, length-take}
use borrow.Author.Tests.{lt-ltb, le-ltb}
use Rattle.typed_value.specs.Values.{typed}
use Rattle.typed_value.specs.Readings.{read_wrong}
use Rattle.typed_value.proofs.read.Goals as goal

pub returns-then-s-to : goal.returns-then-s-to
unfolding typed
returns-then-s-to c = (λ l. absurd (omega arith), rw (lt-ltb (length c.args.s.now) c.args.to c.if-s-to.true) read_wrong)

pub slice_bounds-whole-end : goal.slice_bounds-whole-end
slice_bounds-whole-end c = simp length-take (omega arith)

pub returns : goal.returns
unfolding typed
returns c = (λ l. c.whole.ensures.0, rw (le-ltb (length c.args.s.now) c.args.to c.if-s-to.false) c.whole.ensures.1)
