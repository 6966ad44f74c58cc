-- `found`: what the test says of each element, it says of all.
use Rattle.std.proofs.Common.{arith, length, get_or, not, ap, sym, ◌∙◌, below_more}
use Rattle.paper_expressions.specs.Values.{unknown}
use Rattle.paper_expressions.proofs.Laws.Only.{missb}
use Rattle.values.specs.Meaning.{meaning_l, meaning_v}
use Rattle.values.proofs.Lists.{size_is}
use Rattle.sequences.proofs.Scans.{all_hold, one_fails}
use Rattle.sequences.proofs.Elements.{miss_is}
use Rattle.sequences.proofs.membership.found.Goals as goal

pub returns-then-is_level : goal.returns-then-is_level
returns-then-is_level c =
    let a = c.args in
    let bs = a.bytes.now in
    let i = c.loop-i.i in
    let x = size_is bs a.l in
    let m = miss_is bs a.l a.b i c.single-v.result (omega arith) c.get.ensures c.single-v.ensures c.comp.ensures c.is_level.ensures in
    sym (ap not (one_fails (λ k. missb (meaning_v bs a.b) (get_or (meaning_l bs a.l) k unknown)) (length (meaning_l bs a.l)) i (omega arith) (m ∙ ap not c.if-is_level.true)))

pub loop-i-preserved : goal.loop-i-preserved
loop-i-preserved c =
    let a = c.args in
    let m = miss_is a.bytes.now a.l a.b c.loop-i.i c.single-v.result (omega arith) c.get.ensures c.single-v.ensures c.comp.ensures c.is_level.ensures in
    below_more _ _ c.loop-i.invariant (m ∙ ap not c.if-is_level.false)

pub returns : goal.returns
returns c =
    let a = c.args in
    let bs = a.bytes.now in
    let x = size_is bs a.l in
    sym (ap not (all_hold (λ k. missb (meaning_v bs a.b) (get_or (meaning_l bs a.l) k unknown)) (length (meaning_l bs a.l)) (λ k h. c.loop-i.invariant k (omega arith))))
