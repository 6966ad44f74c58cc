-- `best`: the two tests are the definition's.
use Rattle.std.proofs.Common.{Bool, not, ◌&&◌, ap, sym, ◌∙◌}
use Rattle.values.specs.Meaning.{meaning_l}
use Rattle.operators.specs.Means.{end}
use Rattle.sequences.specs.Tests.{unbeatenb}
use Rattle.sequences.proofs.Elements.{best_is}
use Rattle.sequences.proofs.extremes.best.Goals as goal

pub returns-then-not-is_unknown : goal.returns-then-not-is_unknown
returns-then-not-is_unknown c =
    let a = c.args in
    let bs = a.bytes.now in
    c.unbeaten.ensures
    ∙ sym (best_is bs a.e a.l a.i c.requires.1 c.get.ensures c.is_unknown.ensures ∙ ap (λ (u : Bool). not u && unbeatenb (end a.e) (meaning_l bs a.l) a.i) c.if-not-is_unknown.true)

pub returns-else-not-is_unknown : goal.returns-else-not-is_unknown
returns-else-not-is_unknown c =
    let a = c.args in
    let bs = a.bytes.now in
    ap not c.if-not-is_unknown.false
    ∙ sym (best_is bs a.e a.l a.i c.requires.1 c.get.ensures c.is_unknown.ensures ∙ ap (λ (u : Bool). not u && unbeatenb (end a.e) (meaning_l bs a.l) a.i) c.if-not-is_unknown.false)
