-- `step` is `adv`: what is passed over is off the stack, and then the top decides, test by test.
use Rattle.std.proofs.Common.{ℕ, ◌-◌, arith, ap}
use Rattle.grammar.proofs.TableLaws.{choice_some}
use Rattle.grammar.proofs.MachineLaws.{none_left, taken, another, no_alternative, replaced}
use Rattle.grammar.proofs.step.Goals as goal

pub returns-then-at-eq-STACK : goal.returns-then-at-eq-STACK
returns-then-at-eq-STACK c =
    let a = c.args in
    let n = c.requires.stack_len.0 in
    none_left a.stack.now a.top c.skip-at.result a.k c.skip-at.ensures.1 (omega arith)

pub returns-then-c-k : goal.returns-then-c-k
returns-then-c-k c =
    let a = c.args in
    let n = c.requires.stack_len.0 in
    let b = c.skip-at.ensures.0 in
    ((n, omega arith, omega arith), taken a.stack.now a.top c.skip-at.result a.k c.skip-at.ensures.1 (omega arith) c.if-c-lt-SYMBOL.true c.if-c-k.true)

pub returns-else-c-k : goal.returns-else-c-k
returns-else-c-k c =
    let a = c.args in
    let n = c.requires.stack_len.0 in
    let b = c.skip-at.ensures.0 in
    another a.stack.now a.top c.skip-at.result a.k c.skip-at.ensures.1 (omega arith) c.if-c-lt-SYMBOL.true c.if-c-k.false

pub returns-in_err-a : goal.returns-in_err-a
returns-in_err-a c =
    let a = c.args in
    let n = c.requires.stack_len.0 in
    let b = c.skip-at.ensures.0 in
    rw c.from_residual.ensures (no_alternative a.stack.now a.top c.skip-at.result a.k c.skip-at.ensures.1 (omega arith) (c.from.result - 128) c.if-c-lt-SYMBOL.false (ap (λ (x : ℕ). x - 128) c.from.ensures) c.in_err-a.ensures)

pub push-requires-clause-stack_len : goal.push-requires-clause-stack_len
push-requires-clause-stack_len c =
    let b = c.skip-at.ensures.0 in
    let l = c.requires.stack_len.1 in
    (c.requires.stack_len.0, (choice_some (c.from.result - 128) c.args.k c.in_ok-a.a c.in_ok-a.ensures).1, omega arith, omega arith)

pub returns : goal.returns
returns c =
    let a = c.args in
    let n = c.requires.stack_len.0 in
    let b = c.skip-at.ensures.0 in
    let p = c.push.ensures in
    let p1 = p.1 in
    let p2 = p.2 in (
      (p.0, omega arith, omega arith),
      replaced a.stack.now a.top c.skip-at.result a.k c.skip-at.ensures.1 (omega arith) (c.from.result - 128) c.if-c-lt-SYMBOL.false (ap (λ (x : ℕ). x - 128) c.from.ensures)
          c.in_ok-a.a _ c.push.result c.in_ok-a.ensures p.3,
    )
