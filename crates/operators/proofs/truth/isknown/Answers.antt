-- `isknown`: a list is known; of a scalar the test is the definition's.
use Rattle.std.proofs.Common.{Bool, not, ap, ◌∙◌}
use Rattle.paper_expressions.specs.Values.{one, truth}
use Rattle.operators.specs.Comes.{means, single_is}
use Rattle.operators.proofs.Truths.{list_known, scalar_known}
use Rattle.operators.proofs.truth.isknown.Goals as goal
use Rattle.operators.proofs.truth.isknown.Goals.{then-not-a, else-not-a}

pub returns : goal.returns
returns c = λ bs.
    let a = c.args.a in
    means bs _ _ c.single.result tt
    (single_is bs c.single.result c.single.ensures
    ∙ elim c.if-not-a.branch [
      | then-not-a w ↦ scalar_known bs a w.if-not-a.true (w.single-is ∙ w.is_unknown.ensures)
      | else-not-a w ↦ ap (λ (t : Bool). one (truth t)) (w.single-is ∙ ap not w.if-not-a.false) ∙ list_known bs a w.if-not-a.false
    ])
