-- `write`: the row of a data item.
use Rattle.std.proofs.Common.{arith, refl, rules, tests, ◌≤◌, ◌<◌}
use Rattle.std.proofs.lemmas.Bool.Decides.{nat_tests}
use Rattle.enacting.specs.Enact.{writes_item}
use Rattle.enacting.proofs.write.Goals as goal

pub returns-then-contains : goal.returns-then-contains
returns-then-contains c =
    let l : 65536 ≤ c.args.row.component = grind (arith, nat_tests) in
    let h : c.args.row.component < 65600 = grind (arith, nat_tests) in
    writes_item _ _ _ _ _ _ (λ z. omega arith) c.if-row-eq-REQUESTED.true l h refl c.put-then-contains.ensures
