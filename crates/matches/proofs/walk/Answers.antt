-- `walk`: one byte more for each rule, and one rule more for the best match.
use Rattle.std.proofs.Common.{ℕ, ◌≡◌, ◌-◌, ◌+◌, ◌*◌, length, get_or, take, drop, arith, ap, sym, ◌∙◌, refl, subst, List}
use Rattle.matches.specs.KindsLaws.{fine_small}
use Rattle.matches.specs.Walk.{Sofar, begin_of}
use Rattle.matches.proofs.Steps.{After, begun, after_none, after_small, after_step, behind, sofar_none, sofar_more, settled_dead, set_done, set_left}
use Rattle.matches.proofs.walk.Goals as goal

pub walk-init : goal.walk-init
walk-init c =
    let t = c.args.text.now in
    let ok = begun t c.args.at c.args.shut c.requires.1 in
    record {
      states = λ j h. ap (λ (l : List ℕ). get_or l j 0) c.begin-states.ensures ∙ sym (after_none t c.args.at (begin_of c.args.shut) ok j);
      best = sofar_none t c.args.at (begin_of c.args.shut) ok _ refl;
    }

pub next-next-requires : goal.next-next-requires
next-next-requires c =
    let t = c.args.text.now in
    let ok = begun t c.args.at c.args.shut c.requires.1 in
    let e = c.rules.invariant.left c.rules.r (omega arith) (omega arith) in
    let y = after_small t c.args.at (begin_of c.args.shut) ok c.rules.r c.walk.i (omega arith) in
    let f = fine_small (get_or (take (length t - c.args.at) (drop c.args.at t)) c.walk.i 0) in
    let k = c.kind-k.ensures in
    (c.delta-delta.ensures, omega arith, omega arith)

pub better-best-requires : goal.better-best-requires
better-best-requires c =
    let t = c.args.text.now in
    let g = begin_of c.args.shut in
    let ok = begun t c.args.at c.args.shut c.requires.1 in
    let e = c.rules.invariant.left c.rules.r (omega arith) (omega arith) in
    let q = after_step t c.args.at g ok c.rules.r c.walk.i _ c.kind-k.result c.next-next.result c.walk-test.true e c.kind-k.ensures c.next-next.ensures in
    let y = after_small t c.args.at g ok c.rules.r (c.walk.i + 1) (omega arith) in
    (c.accepts-accepts.ensures, omega arith)

-- one rule more: the states behind it, that they are 0 if the sum is, and the best match
pub rules-preserved : goal.rules-preserved
rules-preserved c =
    let t = c.args.text.now in
    let at = c.args.at in
    let g = begin_of c.args.shut in
    let ok = begun t c.args.at c.args.shut c.requires.1 in
    let u = c.rules in
    let i = c.walk.i in
    let h = behind t at i c.walk-test.true in
    let e = after_step t at g ok u.r i _ c.kind-k.result c.next-next.result c.walk-test.true
    (u.invariant.left u.r (omega arith) (omega arith)) c.kind-k.ensures c.next-next.ensures in
    let y = after_small t at g ok u.r (i + 1) (omega arith) in
    record {
      done = set_done u.q-items u.r c.next-next.result (λ (j : ℕ). After g t at j (i + 1)) (λ (j : ℕ). After g t at j i) (omega arith) e u.invariant.done;
      left = set_left u.q-items u.r c.next-next.result (λ (j : ℕ). After g t at j (i + 1)) (λ (j : ℕ). After g t at j i) u.invariant.left;
      best = subst (Sofar t at ((i + 1) * 7 + (u.r + 1))) (sym c.better-best.ensures)
          (sofar_more t at g ok u.best c.next-next.result u.r (i + 1) (omega arith) (omega arith) (omega arith) e u.invariant.best);
      few = omega arith;
      dead = λ z. set_done u.q-items u.r c.next-next.result (λ (j : ℕ). 0) (λ (j : ℕ). 0) (omega arith) (omega arith) (u.invariant.dead (omega arith));
    }

pub overflow_add-alive : goal.overflow_add-alive
overflow_add-alive c =
    let t = c.args.text.now in
    let g = begin_of c.args.shut in
    let ok = begun t c.args.at c.args.shut c.requires.1 in
    let e = after_step t c.args.at g ok c.rules.r c.walk.i _ c.kind-k.result c.next-next.result c.walk-test.true
    (c.rules.invariant.left c.rules.r (omega arith) (omega arith)) c.kind-k.ensures c.next-next.ensures in
    let y = after_small t c.args.at g ok c.rules.r (c.walk.i + 1) (omega arith) in
    let f = c.rules.invariant.few in
    omega arith

-- behind the last rule, all of them dead
pub returns-then-alive-eq-DEAD : goal.returns-then-alive-eq-DEAD
returns-then-alive-eq-DEAD c =
    let t = c.args.text.now in
    let at = c.args.at in
    let g = begin_of c.args.shut in
    let ok = begun t c.args.at c.args.shut c.requires.1 in
    let u = c.rules in
    let i = c.walk.i in
    let h = behind t at i c.walk-test.true in
    let e = after_step t at g ok u.r i _ c.kind-k.result c.next-next.result c.walk-test.true
    (u.invariant.left u.r (omega arith) (omega arith)) c.kind-k.ensures c.next-next.ensures in
    let y = after_small t at g ok u.r (i + 1) (omega arith) in
    let done = set_done u.q-items u.r c.next-next.result (λ (j : ℕ). After g t at j (i + 1)) (λ (j : ℕ). After g t at j i) (omega arith) e u.invariant.done in
    let dead = set_done u.q-items u.r c.next-next.result (λ (j : ℕ). 0) (λ (j : ℕ). 0) (omega arith) (omega arith) (u.invariant.dead (omega arith)) in
    let n : u.r + 1 ≡ 7 = omega arith in
    settled_dead t at g ok c.better-best.result i
    (λ j l. sym (done j (omega arith)) ∙ dead j (omega arith))
    (subst (λ (m : ℕ). Sofar t at ((i + 1) * 7 + m) c.better-best.result) n
    (subst (Sofar t at ((i + 1) * 7 + (u.r + 1))) (sym c.better-best.ensures)
    (sofar_more t at g ok u.best c.next-next.result u.r (i + 1) (omega arith) (omega arith) (omega arith) e u.invariant.best)))
