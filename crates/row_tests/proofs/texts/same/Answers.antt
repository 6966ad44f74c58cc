-- `same`: texts of one length are the same if they are at each place.
use Rattle.std.proofs.Common.{◌≡◌, ◌+◌, ◌/◌, ◌%◌, eqb, get_or, sym, ap, ◌∙◌, arith, ne_eqb, eqb, ℕ, rules, tests}
use Rattle.std.proofs.lemmas.Iterator.{YieldsList-from_range}
use Rattle.std.proofs.lemmas.Iterator.Search.{all_from_yields_List}
use Rattle.paper_expressions.proofs.Laws.Search.{sameb}
use Rattle.parts.specs.Texts.{cells}
use Rattle.row_tests.specs.Equal.{same_places, same_long}
use Rattle.row_tests.proofs.texts.same.Goals as goal

pub returns-then-n-h : goal.returns-then-n-h
returns-then-n-h c =
    let a = c.args in
    let b = a.bytes.now in
    let x = a.g / 64 in
    let y = a.h / 64 in
    let n = a.g % 64 in
    let p = same_places b x y n 0 in
    let r = all_from_yields_List (λ i. eqb (get_or b (x + i) 0) (get_or b (y + i) 0)) _ _ c.all.result c.all.ensures.ran (YieldsList-from_range 0 n n (cc) (omega arith)) (λ x b q k. search (rules, tests)) in
    let e : x + 0 ≡ x = omega arith in
    let f : y + 0 ≡ y = omega arith in
    r ∙ (rw (e, f) at p) ∙ ap (λ (k : ℕ). sameb (cells b x n) (cells b y k)) c.if-n-h.true

pub returns-else-n-h : goal.returns-else-n-h
returns-else-n-h c = let a = c.args in ne_eqb _ _ c.if-n-h.false ∙ sym (same_long a.bytes.now _ _ (a.g / 64) (a.h / 64) c.if-n-h.false)
