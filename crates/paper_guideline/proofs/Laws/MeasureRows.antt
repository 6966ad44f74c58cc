-- Parts, depth and list elements, worked: each column of the rows is computed, one statement for a list of rows.
use Rattle.std.specs.Prelude.{◌≡◌, refl, List, [], ◌∷◌, map}
use Rattle.paper_expressions.specs.Bytes.{bytes}
use Rattle.paper_expressions.specs.Operators.{arithmetic, plus, negate, sum, no_such}
use Rattle.paper_expressions.specs.Expressions.{Expr, Exprs, Atom, Paren, Listing, Apply, ε, ◌▸◌}
use Rattle.paper_guideline.specs.Limits.{parts, depth, longest_list}

abbrev a : Expr
a = Atom (bytes "a")

abbrev three : Exprs
three = a ▸ a ▸ a ▸ ε

-- a    [ ]    f()    ((a))    - a + a    sum([a, a, a])    [(a), [a, a, a]]
abbrev measured : List Expr
measured =
    a
    ∷ Listing ε
    ∷ Apply (no_such (bytes "f")) ε
    ∷ Paren (Paren a)
    ∷ Apply (arithmetic plus) (Apply negate (a ▸ ε) ▸ a ▸ ε)
    ∷ Apply sum (Listing three ▸ ε)
    ∷ Listing (Paren a ▸ Listing three ▸ ε)
    ∷ []

pub parts_worked : map parts measured ≡ 1 ∷ 1 ∷ 1 ∷ 1 ∷ 4 ∷ 5 ∷ 6 ∷ []
parts_worked = refl

pub depths_worked : map depth measured ≡ 1 ∷ 1 ∷ 1 ∷ 3 ∷ 3 ∷ 3 ∷ 3 ∷ []
depths_worked = refl

pub lists_worked : map longest_list measured ≡ 0 ∷ 0 ∷ 0 ∷ 0 ∷ 0 ∷ 3 ∷ 3 ∷ []
lists_worked = refl
