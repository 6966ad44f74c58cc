-- The parts of a row's expression, which stand from u on: how many, the first, the one behind the last, and that the part table holds it. Definitions only.
use Rattle.std.specs.Prelude.{ℕ, ◌+◌, List, [], ◌∷◌}
use Rattle.std.proofs.Math.Option.{Option, none, some}
use Rattle.paper_expressions.proofs.Laws.Parentheses.{bare}
use Rattle.paper_guideline.specs.Structure.{Outermost}
use Rattle.parts.specs.Part.{Table, size, Holds}
use Rattle.guideline_rows.specs.Rows.{Row, expression_of}

abbrev pub size_in : Option Outermost → ℕ
size_in none = 0
size_in (some x) = size x.tree

abbrev pub first_of : ℕ → Option Outermost → ℕ
first_of u none = 0
first_of u (some x) = u

abbrev pub end_of : ℕ → Option Outermost → ℕ
end_of u none = 0
end_of u (some x) = u + size x.tree

abbrev pub start_of : Option Outermost → ℕ
start_of none = 0
start_of (some x) = x.start

abbrev pub HeldIn : Table → ℕ → Option Outermost → Type 0
HeldIn t u none = Unit {0}
HeldIn t u (some x) = Holds t u (bare x.tree)

-- the parts of all rows
abbrev pub parts_in : List Row → ℕ
parts_in [] = 0
parts_in (r ∷ rs) = size_in (expression_of r) + parts_in rs
