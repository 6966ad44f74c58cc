-- `unbeaten`: what the test says of each element, it says of all.
use Rattle.std.proofs.Common.{arith, length, sym, ◌∙◌, below_more}
use Rattle.values.specs.Meaning.{meaning_l}
use Rattle.values.proofs.Lists.{size_is}
use Rattle.operators.specs.Means.{end}
use Rattle.sequences.specs.Tests.{holdsb}
use Rattle.sequences.proofs.Scans.{all_hold, one_fails}
use Rattle.sequences.proofs.Elements.{holds_is}
use Rattle.sequences.proofs.extremes.unbeaten.Goals as goal

pub returns-then-not-fine : goal.returns-then-not-fine
returns-then-not-fine c =
    let a = c.args in
    let bs = a.bytes.now in
    let j = c.loop-j.j in
    let x = size_is bs a.l in
    let m = holds_is bs a.e a.l a.i j c.requires (omega arith) c.get-x.ensures c.get.ensures c.comp_scalars.ensures c.fine.ensures in
    sym (one_fails (holdsb (end a.e) (meaning_l bs a.l) a.i) (length (meaning_l bs a.l)) j (omega arith) (sym m ∙ c.if-not-fine.true))

pub loop-j-preserved : goal.loop-j-preserved
loop-j-preserved c =
    let a = c.args in
    let m = holds_is a.bytes.now a.e a.l a.i c.loop-j.j c.requires (omega arith) c.get-x.ensures c.get.ensures c.comp_scalars.ensures c.fine.ensures in
    below_more _ _ c.loop-j.invariant (sym m ∙ c.if-not-fine.false)

pub returns : goal.returns
returns c =
    let a = c.args in
    let bs = a.bytes.now in
    let x = size_is bs a.l in
    sym (all_hold (holdsb (end a.e) (meaning_l bs a.l) a.i) (length (meaning_l bs a.l)) (λ k h. c.loop-j.invariant k (omega arith)))
