-- `list`: it is closed, one more element, and there are as many as there may be.
use Rattle.std.proofs.Common.{arith, ◌≡◌, ℕ, sym, ap, ◌∙◌, ◌+◌, ◌-◌}
use Rattle.std.specs.Prelude.{eqb, set}
use Rattle.script.specs.Places.{at_element}
use Rattle.script.specs.PlacesLaws.{elements_closed, elements_more, elements_end}
use Rattle.script.specs.Values.{places_from}
use Rattle.script.specs.ValuesLaws.{filling_more, filling_end, places_closed, places_more, places_end}
use Rattle.script.proofs.values.list.Goals as goal

pub returns-then-byte-eq41 : goal.returns-then-byte-eq41
returns-then-byte-eq41 c =
    let s = c.args.s.now in
    let l = c.loop-n in
    let d = c.closed.ensures in
    (filling_end l.invariant.fills (places_closed s l.n l.p c.byte.ensures c.if-byte-eq41.true) d.0, d.1 ∙ elements_closed s (20 - l.n) l.p c.byte.ensures c.if-byte-eq41.true ∙ l.invariant.ends)

pub loop-n-preserved : goal.loop-n-preserved
loop-n-preserved c =
    let s = c.args.s.now in
    let l = c.loop-n in
    let e = c.next_element-p.ensures in
    record {
      ends = sym (elements_more s l.n l.p (omega arith) c.byte.ensures c.if-byte-eq41.false e.1) ∙ l.invariant.ends;
      fills = filling_more l.invariant.fills (at_element s (eqb l.n 0) l.p) (places_from s (20 - (l.n + 1)) c.next_element-p.result) (places_more s l.n l.p c.byte.ensures (omega arith) c.if-byte-eq41.false e.1) e.0;
    }

pub returns : goal.returns
returns c =
    let s = c.args.s.now in
    let l = c.loop-n in
    let d = c.closed-2.ensures in
    let full : 20 ≡ l.n = omega arith in
    (filling_end l.invariant.fills (places_end s l.n l.p (omega arith)) (d.0 ∙ ap (λ (k : ℕ). set l.tags 0 (k + 1)) full), d.1 ∙ elements_end s l.n l.p (omega arith) ∙ l.invariant.ends)
