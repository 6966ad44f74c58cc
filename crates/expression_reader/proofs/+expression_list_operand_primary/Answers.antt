-- Each goal is a step of the reader, for every tree that the tokens have.
use Rattle.std.proofs.Common.{ℕ, ◌≡◌, max, nat_cmp, rules, refl, sym, ◌∙◌, arith}
use Rattle.std.proofs.Math.ListN.{length-set}
use borrow.Author.Tests.{not-false, not-true}
use Rattle.paper_expressions.proofs.Laws.Tests.{contra}
use Rattle.std.specs.Ordering.{ord_max}
use Rattle.paper_guideline.specs.Limits.{larger}
use Rattle.expression_steps.specs.Larger.{larger_max}
use Rattle.expression_steps.specs.Rows.{beside_none, beside_on, beside_thrice, beside_more}
use Rattle.expression_reader.specs.Laws.{none_onward, depth_within, inner_read, operand_done, round_done, square_done, call_done, one_done}
use Rattle.expression_reader.specs.Loops.{ended_stand, group_within, none_ended, elements_first, element_ok, elements_step, stepped_ended, stepped_going, stepped_none, going_first, operand_read, going_done, going_few, going_more}
use Rattle.expression_reader.proofs.+expression_list_operand_primary.Goals as goal

larger_of : (a b : ℕ) → ord_max nat_cmp a b ≡ larger a b
larger_of a b = let e : ord_max nat_cmp a b ≡ max a b = search rules in e ∙ larger_max a b

pub expression-loop-ks-init : goal.expression-loop-ks-init
expression-loop-ks-init t c = (omega arith, refl, refl, refl, omega arith, omega arith, beside_none _ _ _, omega arith, λ b s r e f end y. going_first f y)

pub expression-returns-then-not-e : goal.expression-returns-then-not-e
expression-returns-then-not-e t c =
    record {
      onward = none_onward c.refused.ensures;
      done = λ b s r e f end y. contra (sym (not-true _ c.if-not-e.true) ∙ (operand_read end c.operand-e.ensures (c.loop-ks.invariant.8 b s r e f end y)).ok);
    }

pub expression-returns-then-l-eq0 : goal.expression-returns-then-l-eq0
expression-returns-then-l-eq0 t c =
    let l = c.loop-ks in
    let i = l.invariant.4 in
    let j = l.invariant.5 in
    let k = l.invariant.7 in
    let o = c.operand-e.ensures.onward (not-false _ c.if-not-e.false) in
    let o1 = o.on in
    let o2 = o.few in
    let o3 = o.more in
    let r = c.reduce-r.ensures in
    let r1 = r.sum in
    let r2 = r.few in
    record {
      onward = λ e. record {
        on = omega arith;
        few = omega arith;
        more = omega arith;
        beside = beside_thrice _ k (omega arith) (omega arith) (omega arith) (omega arith) l.invariant.6 o.beside r.beside;
      };
      done = λ b s r e f end y. going_done end c.operand-e.ensures (l.invariant.8 b s r e f end y) l.invariant.6.long (depth_within f y) c.level_at-l.ensures c.reduce-r.ensures (c.max-longest.ensures ∙ larger_of l.longest c.operand-e.result.longest) c.if-l-eq0.true;
    }

pub expression-returns-then-m-ge-WAITING : goal.expression-returns-then-m-ge-WAITING
expression-returns-then-m-ge-WAITING t c =
    let l = c.loop-ks in
    record {
      onward = none_onward c.refused-then-m-ge-WAITING.ensures;
      done = λ b s r e f end y.
          let z = going_few end c.operand-e.ensures (l.invariant.8 b s r e f end y) l.invariant.6.long (depth_within f y) c.level_at-l.ensures c.reduce-r.ensures in
          let w = c.if-m-ge-WAITING.true in
          absurd (omega arith);
    }

pub expression-loop-ks-preserved : goal.expression-loop-ks-preserved
expression-loop-ks-preserved t c =
    let l = c.loop-ks in
    let i = l.invariant.4 in
    let j = l.invariant.5 in
    let k = l.invariant.7 in
    let o = c.operand-e.ensures.onward (not-false _ c.if-not-e.false) in
    let o1 = o.on in
    let o2 = o.few in
    let o3 = o.more in
    let r = c.reduce-r.ensures in
    let r1 = r.sum in
    let r2 = r.few in (
      omega arith,
      length-set l.ks c.reduce-r.result.n c.kind_at.result ∙ l.invariant.1,
      length-set l.fs c.reduce-r.result.n c.reduce-r.result.from ∙ l.invariant.2,
      length-set l.ds c.reduce-r.result.n c.reduce-r.result.depth ∙ l.invariant.3,
      omega arith,
      omega arith,
      beside_thrice _ k (omega arith) (omega arith) (omega arith) (omega arith) l.invariant.6 o.beside r.beside,
      omega arith,
      λ b s r e f end y.
          going_more end c.operand-e.ensures (l.invariant.8 b s r e f end y) l.invariant.6.long (depth_within f y) c.level_at-l.ensures c.reduce-r.ensures (c.max-longest.ensures ∙ larger_of l.longest c.operand-e.result.longest) c.kind_at.ensures c.if-l-eq0.false l.invariant.1 l.invariant.2 l.invariant.3,
    )

pub list-returns-then-kind_at-close : goal.list-returns-then-kind_at-close
list-returns-then-kind_at-close t c =
    let n = c.closed.ensures.next in
    let v = c.closed.ensures.used in
    record {
      onward = λ e. let n1 = n e in let v1 = v e in record { on = omega arith; few = omega arith; more = omega arith; beside = beside_more _ _ _ (omega arith) c.closed.ensures.beside };
      done = λ b w r t es e f h y g hd.
          let z = none_ended g (sym c.kind_at.ensures ∙ c.if-kind_at-close.true) f y in
          c.closed.ensures.done _ _ _ c.args.cells.now b r t es e z.stand z.brackets h g hd refl z.left (group_within g f y);
    }

pub list-loop-h-init : goal.list-loop-h-init
list-loop-h-init t c = (omega arith, omega arith, omega arith, omega arith, beside_none _ _ _, λ b s r t es e f h y g. elements_first h (λ q. c.if-kind_at-close.false (c.kind_at.ensures ∙ q)) f y)

pub list-returns-then-not-e : goal.list-returns-then-not-e
list-returns-then-not-e t c =
    record {
      onward = none_onward c.refused.ensures;
      done = λ b s r t es e f h y g hd. contra (sym (not-true _ c.if-not-e.true) ∙ element_ok g h c.expression-e.ensures (c.loop-h.invariant.5 b s r t es e f h y g));
    }

pub list-returns-then-k-close : goal.list-returns-then-k-close
list-returns-then-k-close t c =
    let l = c.loop-h in
    let i = l.invariant.0 in
    let j = l.invariant.2 in
    let k = l.invariant.3 in
    let o = c.expression-e.ensures.onward (not-false _ c.if-not-e.false) in
    let o1 = o.on in
    let o2 = o.few in
    let o3 = o.more in
    let a1 = c.also-m.ensures.next in
    let a2 = c.also-m.ensures.used in
    let n = c.closed-then-k-close.ensures.next in
    let v = c.closed-then-k-close.ensures.used in
    record {
      onward = λ e. let n1 = n e in let v1 = v e in record {
        on = omega arith;
        few = omega arith;
        more = omega arith;
        beside = beside_thrice _ k (omega arith) (omega arith) (omega arith) (omega arith) l.invariant.4 o.beside c.closed-then-k-close.ensures.beside;
      };
      done = λ b s r t es e f h y g hd.
          let z = stepped_ended g (sym c.kind_at-k.ensures ∙ c.if-k-close.true) (elements_step g h c.expression-e.ensures (l.invariant.5 b s r t es e f h y g) c.also-m.result l.invariant.4.long c.also-m.ensures) in
          c.closed-then-k-close.ensures.done _ _ _ c.args.cells.now b r t es e (ended_stand a1 z) z.brackets h g hd (o.beside.long ∙ l.invariant.4.long) z.left (group_within g f y);
    }

pub list-returns-then-k-ne-COMMA : goal.list-returns-then-k-ne-COMMA
list-returns-then-k-ne-COMMA t c =
    let l = c.loop-h in
    let k = c.kind_at-k.ensures in
    record {
      onward = none_onward c.refused-then-k-ne-COMMA.ensures;
      done = λ b s r t es e f h y g hd.
          stepped_none (λ q. c.if-k-close.false (k ∙ q)) (λ q. c.if-k-ne-COMMA.true (k ∙ q)) (elements_step g h c.expression-e.ensures (l.invariant.5 b s r t es e f h y g) c.also-m.result l.invariant.4.long c.also-m.ensures);
    }

pub list-loop-h-preserved : goal.list-loop-h-preserved
list-loop-h-preserved t c =
    let l = c.loop-h in
    let k = c.kind_at-k.ensures in
    let o = c.expression-e.ensures.onward (not-false _ c.if-not-e.false) in
    let o1 = o.on in
    let o2 = o.few in
    let o3 = o.more in
    let i = l.invariant.0 in
    let i1 = l.invariant.1 in
    let i2 = l.invariant.2 in
    let i3 = l.invariant.3 in
    let a2 = c.also-m.ensures.used in (
      omega arith,
      omega arith,
      omega arith,
      omega arith,
      beside_on _ _ _ _ _ i3 (omega arith) (omega arith) l.invariant.4 o.beside,
      λ b s r t es e f h y g.
          stepped_going (λ q. c.if-k-close.false (k ∙ q)) (elements_step g h c.expression-e.ensures (l.invariant.5 b s r t es e f h y g) c.also-m.result l.invariant.4.long c.also-m.ensures),
    )

pub operand-returns-then-not-e : goal.operand-returns-then-not-e
operand-returns-then-not-e t c =
    record {
      onward = none_onward c.refused.ensures;
      done = λ a b w r e f s y. contra (sym (not-true _ c.if-not-e.true) ∙ (inner_read (c.minuses-q.ensures.done _ _ _ a b c.args.d w r e f y) c.primary-e.ensures s).ok);
    }

pub operand-returns : goal.operand-returns
operand-returns t c =
    let i = c.minuses-q.ensures.onward in
    let o = c.primary-e.ensures.onward (not-false _ c.if-not-e.false) in
    let o1 = o.on in
    let o2 = o.few in
    let o3 = o.more in
    record {
      onward = λ e. record { on = omega arith; few = omega arith; more = omega arith; beside = beside_on _ _ _ _ _ o3 (omega arith) (omega arith) o.beside c.negate.ensures.beside };
      done = λ a b w r e f s y.
          operand_done (c.minuses-q.ensures.done _ _ _ a b c.args.d w r e f y) c.primary-e.ensures s o.beside.long (depth_within f y) c.negate.ensures c.deeper.ensures;
    }

pub primary-returns-then-d-eq0 : goal.primary-returns-then-d-eq0
primary-returns-then-d-eq0 t c =
    let k = sym c.kind_at-k.ensures ∙ c.if-k-eq-LEFT_PARENTHESIS.true in
    let z = c.if-d-eq0.true in
    record { onward = none_onward c.refused.ensures; done = λ a b w r e f s y. let g = (round_done {x = c.args.cells.now} {u = 0} k f y).0 in absurd (omega arith) }

pub primary-returns-then-not-e : goal.primary-returns-then-not-e
primary-returns-then-not-e t c =
    let k = sym c.kind_at-k.ensures ∙ c.if-k-eq-LEFT_PARENTHESIS.true in
    record {
      onward = none_onward c.refused-then-not-e.ensures;
      done = λ a b w r e f s y. contra (sym (not-true _ c.if-not-e.true) ∙ ((round_done k f y).1 _ _ c.expression-e.ensures).ok);
    }

pub primary-returns-then-kind_at-eq-RIGHT_PARENTHESIS : goal.primary-returns-then-kind_at-eq-RIGHT_PARENTHESIS
primary-returns-then-kind_at-eq-RIGHT_PARENTHESIS t c =
    let k = sym c.kind_at-k.ensures ∙ c.if-k-eq-LEFT_PARENTHESIS.true in
    let o = c.expression-e.ensures.onward (not-false _ c.if-not-e.false) in
    let o1 = o.on in
    let o2 = o.few in
    let o3 = o.more in
    let q = c.rounded.ensures.next in
    let v = c.rounded.ensures.used in
    record {
      onward = λ e. record { on = omega arith; few = omega arith; more = omega arith; beside = beside_more _ _ _ (omega arith) o.beside };
      done = λ a b w r e f s y. ((round_done k f y).1 _ _ c.expression-e.ensures).done _ c.rounded.ensures;
    }

pub primary-returns-then-k-eq-LEFT_PARENTHESIS : goal.primary-returns-then-k-eq-LEFT_PARENTHESIS
primary-returns-then-k-eq-LEFT_PARENTHESIS t c =
    let k = sym c.kind_at-k.ensures ∙ c.if-k-eq-LEFT_PARENTHESIS.true in
    record {
      onward = none_onward c.refused-then-k-eq-LEFT_PARENTHESIS.ensures;
      done = λ a b w r e f s y. absurd (c.if-kind_at-eq-RIGHT_PARENTHESIS.false (c.kind_at.ensures ∙ ((round_done k f y).1 _ _ c.expression-e.ensures).closes));
    }

pub primary-returns-then-d-eq0-2 : goal.primary-returns-then-d-eq0-2
primary-returns-then-d-eq0-2 t c =
    let k = sym c.kind_at-k.ensures ∙ c.if-k-eq-LEFT_BRACKET.true in
    let z = c.if-d-eq0-2.true in
    record { onward = none_onward c.refused-then-d-eq0-2.ensures; done = λ a b w r e f s y. let g = (square_done {x = c.args.cells.now} {u = 0} k f y).0 in absurd (omega arith) }

pub primary-returns-then-k-eq-LEFT_BRACKET : goal.primary-returns-then-k-eq-LEFT_BRACKET
primary-returns-then-k-eq-LEFT_BRACKET t c =
    let k = sym c.kind_at-k.ensures ∙ c.if-k-eq-LEFT_BRACKET.true in
    record {
      onward = λ e. let o = c.list.ensures.onward e in let o1 = o.on in let o2 = o.few in record { on = omega arith; few = omega arith; more = o.more; beside = o.beside };
      done = λ a b w r e f s y. (square_done k f y).1 _ _ c.list.ensures;
    }

pub primary-returns-then-d-eq0-3 : goal.primary-returns-then-d-eq0-3
primary-returns-then-d-eq0-3 t c =
    let q = c.calls.ensures.yes c.if-calls.true in
    let z = c.if-d-eq0-3.true in
    record { onward = none_onward c.refused-then-d-eq0-3.ensures; done = λ a b w r e f s y. let g = (call_done {x = c.args.cells.now} {u = 0} q.0 q.1 f s y).0 in absurd (omega arith) }

pub primary-returns-then-calls : goal.primary-returns-then-calls
primary-returns-then-calls t c =
    let q = c.calls.ensures.yes c.if-calls.true in
    record {
      onward = λ e. let o = c.list-then-calls.ensures.onward e in let o1 = o.on in let o2 = o.few in record { on = omega arith; few = omega arith; more = o.more; beside = o.beside };
      done = λ a b w r e f s y. (call_done q.0 q.1 f s y).1 _ _ c.head_at-h.result c.head_at-h.ensures c.list-then-calls.ensures;
    }

pub primary-returns : goal.primary-returns
primary-returns t c =
    let k = c.kind_at-k.ensures in
    record {
      onward = c.single.ensures.onward;
      done = λ a b w r e f s y. one_done (λ q. c.if-k-eq-LEFT_PARENTHESIS.false (k ∙ q)) (λ q. c.if-k-eq-LEFT_BRACKET.false (k ∙ q)) (c.calls.ensures.no c.if-calls.false) f y _ _ c.single.ensures;
    }
