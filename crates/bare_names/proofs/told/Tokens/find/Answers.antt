-- `find`: what `find` gives is the first that passes.
use Rattle.std.proofs.Common.{rules, tests, ◌≡◌, true, false}
use Rattle.std.proofs.lemmas.Iterator.{first_from_Range}
use Rattle.explain_rows.specs.Firsts.{first_of}
use Rattle.bare_names.specs.Told.{met_at}
use Rattle.bare_names.proofs.told.Tokens.find.Goals as goal

pub returns : goal.returns
returns c =
    let s = c.args.self in
    let f = met_at s.text.now s.places.now s.lengths.now c.args.slip c.args.w.now c.args.list.now in
    first_of f c.args.to c.find.result
    (first_from_Range _ _ _ _ (λ i. f i ≡ true) (λ i. f i ≡ false) c.find.ensures.ran (λ i q k. search (rules, tests)) (λ i q k. search (rules, tests)))
