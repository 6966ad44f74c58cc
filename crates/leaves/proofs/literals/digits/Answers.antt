-- `digits`: at the end no byte is left.
use Rattle.std.proofs.Common.{sym, ap, ◌∙◌}
use Rattle.std.proofs.lemmas.List.{at_drop_all}
use Rattle.leaves.specs.Cells.{sliced}
use Rattle.leaves.specs.Numbers as N
use Rattle.leaves.proofs.literals.digits.Goals as goal

pub returns : goal.returns
returns c =
    let a = c.args in
    let l = c.loop-b in
    (sym (at_drop_all (N.digits l.v) _ l.b-index c.loop-b-test.false) ∙ l.invariant.1 ∙ ap (N.digits 0) (sliced a.text.now a.at a.n c.requires), l.invariant.0)
