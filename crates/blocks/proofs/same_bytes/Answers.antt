-- `same_bytes`: what `all` found of the places below n.
use Rattle.std.proofs.Common.{ℕ, ◌≡◌, ◌+◌, get_or, refl, rules, tests, arith}
use Rattle.std.proofs.lemmas.Iterator.{cases_from_all, YieldsList-from_range}
use Rattle.blocks.specs.Ranges.{all_below}
use Rattle.blocks.proofs.same_bytes.Goals as goal

pub returns : goal.returns
returns c =
    let a = c.args in
    let P : ℕ → Type 0 = λ k. get_or a.a.now (a.p + k) 0 ≡ get_or a.b.now (a.q + k) 0 in
    all_below P c.all.result a.n
    (cases_from_all _ _ _ P (λ k. ¬ (P k)) c.all.ensures.ran (YieldsList-from_range 0 a.n a.n refl (omega arith)) (λ x q k. search (rules, tests)) (λ x q k. search (rules, tests)))
