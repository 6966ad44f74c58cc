-- `sum_of`: the total of the rest of the list, one element more at each turn.
use Rattle.std.proofs.Common.{◌≡◌, ◌-◌, arith, ℕ, drop, subst, sym}
use Rattle.values.specs.Meaning.{meaning_l}
use Rattle.sequences.specs.Totals.{Totals}
use Rattle.sequences.proofs.Sums.{at_end, back, sum_is}
use Rattle.sequences.proofs.adding.sum_of.Goals as goal

pub loop-i-init : goal.loop-i-init
loop-i-init c =
    let l = c.args.l in
    record {
      inside = omega (arith, c.size-i.ensures.0);
      few = c.size-i.ensures.1;
      integers = omega (arith, c.start-t.ensures.1);
      thousandths = omega (arith, c.start-t.ensures.2);
      totals = λ bs. subst (λ (k : ℕ). Totals (drop k (meaning_l bs l)) c.start-t.result) (sym c.size-i.ensures.0) (at_end bs l c.start-t.ensures.0);
    }

pub loop-i-preserved : goal.loop-i-preserved
loop-i-preserved c =
    let w = c.loop-i in
    let h = w.invariant in
    let m = c.step-t.ensures in
    record {
      inside = omega arith;
      few = omega arith;
      integers = omega (arith, m.integers, h.integers);
      thousandths = omega (arith, m.thousandths, h.thousandths);
      totals = λ bs. back bs c.args.l w.i (w.i - 1) (omega arith) h.inside c.get.ensures m (h.totals bs);
    }

pub returns : goal.returns
returns c = λ bs.
    let w = c.loop-i in
    let z : w.i ≡ 0 = omega arith in
    sum_is bs (meaning_l bs c.args.l) w.t c.finished.ensures (subst (λ (k : ℕ). Totals (drop k (meaning_l bs c.args.l)) w.t) z (w.invariant.totals bs))
