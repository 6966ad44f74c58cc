-- The encoding of three rows, cell by cell: a plan p, its caption "hi", and an assignment d = d + 1.
use Prim.Native.String.{String}
use Rattle.std.specs.Prelude.{ℕ, ◌≡◌, refl, List, [], ◌∷◌, pos}
use Rattle.paper_expressions.specs.Bytes.{bytes}
use Rattle.paper_expressions.specs.Operators.{arithmetic, plus}
use Rattle.paper_expressions.specs.Expressions.{Atom, IntegerLit, StringLit, Paren, Apply, ε, ◌▸◌}
use Rattle.paper_tokens.specs.Tokens.{“caption”}
use Rattle.paper_guideline.specs.Structure.{Name, plan}
use Rattle.parts.specs.Encode.{flat}
use Rattle.guideline_rows.specs.Rows.{Row, a_task, with_expression, an_assignment}
use Rattle.guideline_rows.specs.Encoded.{text_of, parts_of, cells_of}

abbrev named : String → ℕ → Name
named s p = record { spelt = bytes s; place = p }

-- the numbers are places
abbrev three : List Row
three =
    a_task plan (named "p" 8)
    ∷ with_expression “caption” 11 (record { start = 22; tree = Paren (StringLit (bytes "hi")) })
    ∷ an_assignment (record { target = named "d" 50; value = record { start = 54; tree = Apply (arithmetic plus) (Atom (bytes "d") ▸ IntegerLit (pos 1) ▸ ε) } })
    ∷ []

pub texts_worked : text_of three ≡ bytes "phidd"
texts_worked = refl

-- a text has the handle 64 * place + length; an expression's parts are from .. up to, and not with, ..
pub cells_worked : cells_of 0 0 three
    ≡ 49 ∷ 0 ∷ 1 ∷ 8 ∷ 0 ∷ 0 ∷ 0 ∷ 0
    ∷ 10 ∷ 11 ∷ 0 ∷ 0 ∷ 0 ∷ 22 ∷ 1 ∷ 0
    ∷ 81 ∷ 0 ∷ 193 ∷ 50 ∷ 1 ∷ 54 ∷ 4 ∷ 0
    ∷ []
cells_worked = refl

pub parts_worked : flat (parts_of 0 three)
    ≡ 4 ∷ 0 ∷ 1 ∷ 66
    ∷ 1 ∷ 0 ∷ 1 ∷ 257
    ∷ 2 ∷ 0 ∷ 1 ∷ 2000000001
    ∷ 10 ∷ 2 ∷ 3 ∷ 0
    ∷ []
parts_worked = refl
