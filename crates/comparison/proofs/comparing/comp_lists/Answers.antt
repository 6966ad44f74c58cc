-- `comp_lists`: each return tells what the heads at i, or the ends of the lists, settle.
use Rattle.std.proofs.Common.{arith, ap, sym, ◌∙◌}
use Rattle.values.specs.Meaning.{meaning_l, goes_on_fn}
use Rattle.values.proofs.Lists.{size_is}
use Rattle.comparison.proofs.Signs.{longer, shorter, stop, next, heads_are}
use Rattle.comparison.proofs.comparing.comp_lists.Goals as goal

pub returns-then-k-i : goal.returns-then-k-i
returns-then-k-i c =
    let bs = c.args.bytes.now in
    let l = c.args.l in
    let m = c.args.m in
    let x = size_is bs l in
    let y = size_is bs m in
    longer (meaning_l bs l) (meaning_l bs m) c.loop-i.i c.loop-i.invariant (omega arith) (omega arith)

pub returns-then-not-goes_on : goal.returns-then-not-goes_on
returns-then-not-goes_on c =
    let bs = c.args.bytes.now in
    let l = c.args.l in
    let m = c.args.m in
    let x = size_is bs l in
    let y = size_is bs m in
    let h = heads_are bs l m c.loop-i.i (omega arith) (omega arith) c.get.ensures c.get-in-loop-i.ensures c.comp_scalars-s.ensures in
    h ∙ stop (meaning_l bs l) (meaning_l bs m) c.loop-i.i c.loop-i.invariant (omega arith) (omega arith) (sym (ap goes_on_fn h) ∙ sym c.goes_on.ensures ∙ c.if-not-goes_on.true)

pub loop-i-preserved : goal.loop-i-preserved
loop-i-preserved c =
    let bs = c.args.bytes.now in
    let l = c.args.l in
    let m = c.args.m in
    let x = size_is bs l in
    let y = size_is bs m in
    let h = heads_are bs l m c.loop-i.i (omega arith) (omega arith) c.get.ensures c.get-in-loop-i.ensures c.comp_scalars-s.ensures in
    next (meaning_l bs l) (meaning_l bs m) c.loop-i.i c.loop-i.invariant (omega arith) (omega arith) (sym (ap goes_on_fn h) ∙ sym c.goes_on.ensures ∙ c.if-not-goes_on.false)

pub returns-then-n-k : goal.returns-then-n-k
returns-then-n-k c =
    let bs = c.args.bytes.now in
    let l = c.args.l in
    let m = c.args.m in
    let x = size_is bs l in
    let y = size_is bs m in
    shorter (meaning_l bs l) (meaning_l bs m) c.loop-i.i c.loop-i.invariant (omega arith) (omega arith)
