-- `has`: what `any` found of the rows.
use Rattle.std.proofs.Common.{ℕ, refl, arith, tests, rules}
use Rattle.std.proofs.lemmas.Iterator.{cases_from_any, YieldsList-from_range}
use Rattle.changes.specs.Row.{Stands}
use Rattle.changes.specs.Push.{found_any}
use Rattle.changes.proofs.Rows.has.Goals as goal

pub returns : goal.returns
returns c =
    let a = c.args in
    let P : ℕ → Type 0 = λ i. Stands a.self.now.cells.now i a.row.component a.row.property a.row.tag a.row.number in
    let n = c.bounded.result in
    found_any _ _ n _ _ _ _ c.any.result c.bounded.ensures.1 c.bounded.ensures.2
    (cases_from_any _ _ _ P (λ k. ¬ (P k)) c.any.ensures.ran (YieldsList-from_range 0 n n refl (omega arith)) (λ x q k. search (rules, tests)) (λ x q k. search (rules, tests)))
