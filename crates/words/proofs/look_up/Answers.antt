-- `look_up`: what the table says of the i-th string closes each bound, and the string's test the rest.
use Rattle.std.proofs.Common.{arith, below_more, below_none, sym, ◌∙◌}
use Rattle.words.proofs.Table.{first, entry, from_start}
use Rattle.words.proofs.look_up.Goals as goal

pub loop-i-init : goal.loop-i-init
loop-i-init c = record { stands = from_start; before = below_none _ }

pub bounds-words-p : goal.bounds-words-p
bounds-words-p c = first _ c.loop-i.p c.loop-i.i c.words-words.ensures (omega arith) c.loop-i.invariant.stands

pub overflow_add-p : goal.overflow_add-p
overflow_add-p c = let f = first _ c.loop-i.p c.loop-i.i c.words-words.ensures (omega arith) c.loop-i.invariant.stands in omega arith

pub stands-requires : goal.stands-requires
stands-requires c =
    let e = entry _ c.loop-i.p c.loop-i.i c.from-size.result c.words-words.ensures c.from-size.ensures (omega arith) c.loop-i.invariant.stands in
    (c.requires, e.ends)

pub returns-then-stands : goal.returns-then-stands
returns-then-stands c =
    let e = entry _ c.loop-i.p c.loop-i.i c.from-size.result c.words-words.ensures c.from-size.ensures (omega arith) c.loop-i.invariant.stands in
    record {
      within = omega arith;
      not_before = c.loop-i.invariant.before;
      is = λ _. sym e.is ∙ sym (c.stands.ensures.yes c.if-stands.true);
    }

pub overflow_add-p-in-loop-i-2 : goal.overflow_add-p-in-loop-i-2
overflow_add-p-in-loop-i-2 c =
    let e = entry _ c.loop-i.p c.loop-i.i c.from-size.result c.words-words.ensures c.from-size.ensures (omega arith) c.loop-i.invariant.stands in
    omega arith

pub loop-i-preserved : goal.loop-i-preserved
loop-i-preserved c =
    let e = entry _ c.loop-i.p c.loop-i.i c.from-size.result c.words-words.ensures c.from-size.ensures (omega arith) c.loop-i.invariant.stands in
    record {
      stands = e.next;
      before = below_more _ _ c.loop-i.invariant.before (λ a. c.stands.ensures.no c.if-stands.false (sym (e.is ∙ a)));
    }
