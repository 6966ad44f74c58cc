-- `all_answered`: what `all` found of the numbers below the count.
use Rattle.std.proofs.Common.{ℕ, ◌≡◌, ◌+◌, Bool, true, refl, rules, tests, arith}
use Rattle.std.proofs.lemmas.Iterator.{cases_from_all, YieldsList-from_range}
use Rattle.blocks.specs.Ranges.{all_below}
use Rattle.completes.specs.Twins.{answered_f, all_tested}
use Rattle.completes.proofs.all_answered.Goals as goal

pub returns : goal.returns
returns c =
    let a = c.args in
    let g : ℕ → Bool = λ i. answered_f a.s.now a.f.now (a.first + i) in
    let P : ℕ → Type 0 = λ k. g k ≡ true in
    all_tested g c.all.result a.count
    (all_below P c.all.result a.count (cases_from_all _ _ _ P (λ k. ¬ (P k)) c.all.ensures.ran (YieldsList-from_range 0 a.count a.count refl (omega arith)) (λ x q k. search (rules, tests)) (λ x q k. search (rules, tests))))
