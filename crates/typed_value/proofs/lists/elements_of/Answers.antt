-- `elements_of`: a turn with nothing behind it ends the list, another goes on with it, and past the last place there are too many.
use Rattle.std.proofs.Common.{ap, rules}
use borrow.Author.Tests.{not-true, not-false}
use Rattle.typed_value.specs.ReadingLaws.{list_ends, list_goes, list_many}
use Rattle.typed_value.specs.declared.steps.Step.{Step}
use Rattle.typed_value.proofs.lists.elements_of.Goals as goal

pub returns-then-not-t : goal.returns-then-not-t
returns-then-not-t c =
    let e = ap (λ (x : Step). x.place) c.reached.ensures in
    let h = c.take_turn-t.ensures in (
      search rules,
      c.loop-i.invariant.from_here _ _ _ _ (list_ends c.args.s.now c.loop-i.p c.loop-i.i c.loop-i-test.true h.2 h.1 (not-true _ c.if-not-t.true) c.put_shape.ensures c.reached.ensures),
    )

pub loop-i-preserved : goal.loop-i-preserved
loop-i-preserved c =
    let h = c.take_turn-t.ensures in
    record {
      onward = search rules;
      from_here = λ t' n' b' r k. c.loop-i.invariant.from_here t' n' b' r (list_goes c.args.s.now c.loop-i.p c.loop-i.i c.loop-i-test.true h.2 h.1 (not-false _ c.if-not-t.false) t' n' b' r k);
    }

pub returns : goal.returns
returns c =
    let e = ap (λ (x : Step). x.place) c.reached-2.ensures in
    (search rules, c.loop-i.invariant.from_here _ _ _ _ (list_many c.args.s.now c.loop-i.p c.loop-i.i c.loop-i-test.false c.reached-2.ensures))
