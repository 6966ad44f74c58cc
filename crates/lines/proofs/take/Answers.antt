-- `take`: a newline ends the line, another byte goes behind those that are kept, and the chunk has an end.
use Rattle.std.proofs.Common.{◌≡◌, arith, subst, false}
use Rattle.lines.specs.Kept.{Takes}
use Rattle.lines.proofs.Taking.{at_end, at_newline, at_byte}
use Rattle.lines.proofs.take.Goals as goal

pub returns-then-chunk-at-eq10 : goal.returns-then-chunk-at-eq10
returns-then-chunk-at-eq10 c = c.loop-at.invariant.right _ _ (at_newline _ _ c.loop-at-test.true c.if-chunk-at-eq10.true)

pub loop-at-init : goal.loop-at-init
loop-at-init c = record { within = omega arith; right = λ _ _ h. h }

pub loop-at-preserved : goal.loop-at-preserved
loop-at-preserved c =
    record {
      within = omega arith;
      right = λ kept' r t. c.loop-at.invariant.right kept' r (at_byte _ _ c.loop-at-test.true c.if-chunk-at-eq10.false c.keep-n.ensures t);
    }

pub returns : goal.returns
returns c =
    let l = c.loop-at in
    let m = c.max.ensures in
    let w = l.invariant.within in
    let e : l.at ≡ c.max.result = omega arith in
    l.invariant.right _ _ (subst (λ a. Takes c.args.chunk.now l.at l.kept l.n l.kept (record { at = a; n = l.n; ended = false })) e (at_end c.loop-at-test.false))
