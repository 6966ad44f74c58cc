-- The sheet of a row table: of each row its kind, its word's place, its name's text and place. Definitions only.
use Rattle.std.specs.Prelude.{ℕ, ◌+◌, ◌*◌, Bool, cond, ◌&&◌, List, eqb, ltb, get_or}
use Rattle.paper_expressions.proofs.Laws.Search.{sameb}
use Rattle.paper_tokens.specs.Tokens.{“component”}
use Rattle.parts.specs.Texts.{text_at_fn}
use Rattle.row_names.specs.Sheet.{Sheet}

-- rows from here on read as 0
abbrev pub row_limit : ℕ
row_limit = 65536

-- the cell c of the row i
unfoldable pub cell_of : List ℕ → ℕ → ℕ → ℕ
cell_of x i c = cond (ltb i row_limit) (get_or x (i * 8 + c) 0) 0

abbrev pub kind_of : List ℕ → ℕ → ℕ
kind_of x i = cell_of x i 0

-- the text of its name
abbrev pub spelt_of : List ℕ → List ℕ → ℕ → List ℕ
spelt_of x b i = text_at_fn b (cell_of x i 2)

-- the first n rows
abbrev pub sheet : List ℕ → ℕ → List ℕ → Sheet
sheet x n b = record { count = n; kind = λ i. cell_of x i 0; word = λ i. cell_of x i 1; spelt = λ i. text_at_fn b (cell_of x i 2); place = λ i. cell_of x i 3 }

-- the row i is a component whose name is the text with the handle h
abbrev pub component_named : List ℕ → List ℕ → ℕ → ℕ → Bool
component_named x b h i = eqb (kind_of x i) “component” && sameb (text_at_fn b (cell_of x i 2)) (text_at_fn b h)
