-- `reduce`: each turn applies the last operator that waits, unless it is looser than the next token.
use Rattle.std.proofs.Common.{ℕ, ◌≡◌, ◌+◌, ◌-◌, ◌≤◌, arith, subst, ◌∙◌, refl}
use Rattle.expression_steps.specs.Rows.{beside_none, beside_on}
use Rattle.expression_steps.specs.Larger.{larger_max}
use Rattle.expression_steps.specs.StepLaws.{settled_first, settled_more}
use Rattle.expression_steps.proofs.operators.reduce.Goals as goal

pub loop-i-init : goal.loop-i-init
loop-i-init c = record { sum = refl; beside = beside_none _ _ _; done = settled_first }

pub returns-then-level-l : goal.returns-then-level-l
returns-then-level-l c =
    let l = c.loop-i in
    let v = c.level.ensures in
    let t = c.loop-i-test.true in
    let e : l.i - 1 + 1 ≡ l.i = omega arith in
    let s = l.invariant.sum in
    rw e (record { few = omega arith; sum = s; looser = λ z. omega (arith, c.if-level-l.true); beside = l.invariant.beside; done = l.invariant.done })

pub loop-i-preserved : goal.loop-i-preserved
loop-i-preserved c =
    let l = c.loop-i in
    let t = c.loop-i-test.true in
    let v = c.level.ensures in
    let s = l.invariant.sum in
    record {
      sum = omega arith;
      beside = beside_on _ _ _ _ _ (omega arith) (omega arith) (omega arith) l.invariant.beside c.put.ensures.beside;
      done = settled_more l.invariant.done l.invariant.beside.long t (omega (arith, c.if-level-l.false)) c.number.result c.deeper-depth.result c.number.ensures c.put.ensures
          (subst (λ (i : ℕ). i + 1 ≤ c.args.most → c.deeper-depth.result ≡ i + 1) (c.max.ensures ∙ larger_max _ _) c.deeper-depth.ensures);
    }

pub returns : goal.returns
returns c =
    let l = c.loop-i in
    let t = c.loop-i-test.false in
    let e : l.i ≡ 0 = omega arith in
    let s = l.invariant.sum in
    record {
      few = omega arith;
      sum = omega arith;
      looser = λ y. absurd (omega arith);
      beside = l.invariant.beside;
      done = rw e at l.invariant.done;
    }
