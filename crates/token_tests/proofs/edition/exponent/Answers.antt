-- `exponent`: `any` over the bytes is the definition's recursion.
use Rattle.std.proofs.Common.{ℕ, Bool, List, [], ◌∷◌, ◌≡◌, ◌||◌, ◌+◌, ◌-◌, take, drop, refl, ap, ◌∙◌, rules, tests}
use Rattle.std.specs.List.{list_any}
use Rattle.std.proofs.lemmas.Iterator.{YieldsList-from_slice}
use Rattle.std.proofs.lemmas.Iterator.Search.{any_from_yields_List}
use Rattle.leaves.specs.Cells.{sliced}
use Rattle.token_tests.specs.Exponent.{begins_exponent, has_exponent}
use Rattle.token_tests.proofs.edition.exponent.Goals as goal

same : (w : List ℕ) → list_any begins_exponent w ≡ has_exponent w
same [] = refl
same (b ∷ w) = ap (λ (x : Bool). begins_exponent b || x) (same w)

pub returns : goal.returns
returns c =
    let a = c.args in
    let w = take (a.at + a.n - a.at) (drop a.at a.text.now) in
    any_from_yields_List begins_exponent _ _ _ c.any.ensures.ran (YieldsList-from_slice w cc) (λ x b q k. search (rules, tests))
    ∙ same w ∙ ap has_exponent (sliced a.text.now a.at a.n c.requires)
