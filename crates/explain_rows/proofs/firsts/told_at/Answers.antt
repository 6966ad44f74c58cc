-- `told_at`: what `find` gives is the first that passes.
use Rattle.std.proofs.Common.{rules, tests, ◌≡◌, true, false}
use Rattle.std.proofs.lemmas.Iterator.{first_from_Range}
use Rattle.explain_rows.specs.Firsts.{spot_at, first_of}
use Rattle.explain_rows.proofs.firsts.told_at.Goals as goal

pub returns : goal.returns
returns c =
    let f = spot_at c.args.rows.now c.args.place in
    first_of f c.args.n c.find.result
    (first_from_Range _ _ _ _ (λ i. f i ≡ true) (λ i. f i ≡ false) c.find.ensures.ran (λ i q k. search (rules, tests)) (λ i q k. search (rules, tests)))
