-- `minuses`: what is left behind the minuses passed is a tree, by the first token of a tree.
use Rattle.std.proofs.Common.{arith, lt-ltb, le-ltb, length, ◌≡◌}
use Rattle.expression_steps.specs.Levels.{kind_at}
use Rattle.expression_steps.specs.StepLaws.{minus_first, minus_off, all_off}
use Rattle.expression_steps.proofs.minuses.Goals as goal

pub loop-q-init : goal.loop-q-init
loop-q-init c = (λ h. omega arith, λ text places lengths a b d w r e f t. minus_first f t)

pub returns-then-kinds-q-ne-MINUS : goal.returns-then-kinds-q-ne-MINUS
returns-then-kinds-q-ne-MINUS c =
    let l = c.loop-q in
    let i = c.loop-q-test.true in
    record {
      onward = omega arith;
      done = λ text places lengths a b d w r e f t. all_off l.q (rw (lt-ltb l.q (length c.args.kinds.now) i) c.if-kinds-q-ne-MINUS.true) (l.invariant.1 text places lengths a b d w r e f t);
    }

pub loop-q-preserved : goal.loop-q-preserved
loop-q-preserved c =
    let l = c.loop-q in
    let i = c.loop-q-test.true in
    (λ h. absurd (omega arith), λ text places lengths a b d w r e f t. minus_off l.q (omega arith) (rw (lt-ltb l.q (length c.args.kinds.now) i) c.if-kinds-q-ne-MINUS.false) (l.invariant.1 text places lengths a b d w r e f t))

pub returns : goal.returns
returns c =
    let l = c.loop-q in
    let i = c.loop-q-test.false in
    let past = l.invariant.0 in
    let e : c.max.result ≡ l.q = grind (arith, c.max.ensures) in
    let k : ¬ (kind_at c.args.kinds.now l.q ≡ 92) = rw (le-ltb l.q (length c.args.kinds.now) i) (λ q. omega arith) in
    rw e (record {
      onward = omega arith;
      done = λ text places lengths a b d w r e f t. all_off l.q k (l.invariant.1 text places lengths a b d w r e f t);
    })
