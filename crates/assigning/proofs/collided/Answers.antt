-- `collided`: what `any` found of the items.
use Rattle.std.proofs.Common.{ℕ, ◌≡◌, ◌*◌, get_or, refl, rules, tests}
use Rattle.std.proofs.lemmas.Iterator.{cases_from_any, YieldsList-from_range}
use Rattle.blocks.specs.Ranges.{any_below}
use Rattle.assigning.proofs.collided.Goals as goal

pub returns : goal.returns
returns c =
    let P : ℕ → Type 0 = λ d. get_or c.args.news.now (36 * d) 0 ≡ 2 in
    any_below P c.any.result 64
    (cases_from_any _ _ _ P (λ d. ¬ (P d)) c.any.ensures.ran (YieldsList-from_range 0 64 64 refl refl) (λ x q k. search (rules, tests)) (λ x q k. search (rules, tests)))
