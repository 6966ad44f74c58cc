-- `includes`: of a list what the search finds; of all else false.
use Rattle.std.proofs.Common.{Bool, ap, ◌∙◌}
use Rattle.paper_expressions.specs.Values.{one, truth}
use Rattle.operators.specs.Comes.{means, single_is}
use Rattle.sequences.proofs.Elements.{includes_list, includes_scalar}
use Rattle.sequences.proofs.membership.includes.Goals as goal
use Rattle.sequences.proofs.membership.includes.Goals.{then-a, else-a}

pub returns : goal.returns
returns c =
    let a = c.args in
    let bs = a.bytes.now in
    means bs _ _ c.single.result tt
    (single_is bs c.single.result c.single.ensures
    ∙ elim c.if-a.branch [
      | then-a w ↦ includes_list bs a.a a.b w.if-a.true (w.single-is ∙ w.found.ensures)
      | else-a w ↦ ap (λ (t : Bool). one (truth t)) (w.single-is ∙ w.if-a.false) ∙ includes_scalar bs a.a a.b w.if-a.false
    ])
