-- A guideline in tables of numbers: from its rows every cell of every table follows. Definitions only.
-- Names and texts stand in the text bytes, and parts in the part table, in the order of the rows, one behind the other.
use Rattle.std.specs.Prelude.{ℕ, ◌+◌, ◌≡◌, List, [], ◌∷◌, ◌++◌, length, get_or}
use Rattle.std.proofs.Math.Option.{Option, none, some}
use Rattle.paper_expressions.proofs.Laws.Parentheses.{bare}
use Rattle.paper_guideline.specs.Structure.{Name, Outermost}
use Rattle.parts.specs.Texts.{handle}
use Rattle.parts.specs.Part.{Table}
use Rattle.parts.specs.Encode.{Part, flat, spelling, encode}
use Rattle.guideline_rows.specs.Rows.{Row, kind-of, word_of, name_of, expression_of, flag_of}
use Rattle.guideline_rows.specs.Sizes.{size_in, first_of, end_of, start_of}

-- ---- texts: of each row its name, and then the texts of its expression

abbrev pub name_text : Option Name → List ℕ
name_text none = []
name_text (some n) = n.spelt

abbrev pub expression_text : Option Outermost → List ℕ
expression_text none = []
expression_text (some x) = spelling (bare x.tree)

abbrev pub row_text : Row → List ℕ
row_text r = name_text (name_of r) ++ expression_text (expression_of r)

abbrev pub text_of : List Row → List ℕ
text_of [] = []
text_of (r ∷ rs) = row_text r ++ text_of rs

-- where the texts of a row's expression stand, if the row's stand from o on
abbrev pub behind_name : ℕ → Row → ℕ
behind_name o r = o + length (name_text (name_of r))

-- ---- parts, where the texts stand from o on

abbrev pub expression_parts : ℕ → Option Outermost → List Part
expression_parts o none = []
expression_parts o (some x) = encode o (bare x.tree)

abbrev pub parts_of : ℕ → List Row → List Part
parts_of o [] = []
parts_of o (r ∷ rs) = expression_parts (behind_name o r) (expression_of r) ++ parts_of (o + length (row_text r)) rs

-- ---- the cells of a row whose texts stand from o on and whose parts from u on: eight; what it has not is 0

abbrev pub name_handle : ℕ → Option Name → ℕ
name_handle o none = 0
name_handle o (some n) = handle o (length n.spelt)

abbrev pub name_place : Option Name → ℕ
name_place none = 0
name_place (some n) = n.place

abbrev pub row_cells : ℕ → ℕ → Row → List ℕ
row_cells o u r =
    kind-of r
    ∷ word_of r
    ∷ name_handle o (name_of r)
    ∷ name_place (name_of r)
    ∷ first_of u (expression_of r)
    ∷ start_of (expression_of r)
    ∷ end_of u (expression_of r)
    ∷ flag_of r
    ∷ []

abbrev pub cells_of : ℕ → ℕ → List Row → List ℕ
cells_of o u [] = []
cells_of o u (r ∷ rs) = row_cells o u r ++ cells_of (o + length (row_text r)) (u + size_in (expression_of r)) rs

-- ---- the whole

-- the table has these cells, and only zeros behind them
abbrev pub Has : List ℕ → List ℕ → Type 0
Has table cells = (i : ℕ) → get_or table i 0 ≡ get_or cells i 0

-- the table x of rows, and the part table t with the text bytes
pub record Encoded (rows : List Row) (x : List ℕ) (t : Table) : Type 0 where
  pub cells : Has x (cells_of 0 0 rows)
  pub parts : Has t.cells (flat (parts_of 0 rows))
  pub bytes : Has t.bytes (text_of rows)
