-- The value of a data item, as the cells of the state and the text bytes have it (docs/TABLES.md). Definitions only.
use Rattle.std.specs.Prelude.{ℕ, ◌+◌, ◌*◌, ◌≡◌, cond, List, eqb, get_or}
use Rattle.std.proofs.Math.Option.{Option, none, some}
use Rattle.paper_expressions.specs.Values as paper
use Rattle.paper_calls.specs.Calls as Calls
use Calls.{no_row, shows_value, row}
use Rattle.values.specs.declared.value.Value.{Value}
use Rattle.values.specs.Meaning.{meaning_v}
use Rattle.evaluator.specs.Columns.{shown_at}
use Rattle.truths.specs.Part.{part_of}
use Rattle.row_shown.specs.declared.Row.{Row}
use Rattle.row_shown.specs.Shown.{published_row}

-- what its tags and numbers show; b are the text bytes, s the state
abbrev pub cells_show : List ℕ → List ℕ → ℕ → paper.Value
cells_show b s d = shown_at b (part_of s 776 1088) (part_of s 1864 1088) d

-- it has a value where the cell before its numbers is 1
abbrev pub item_value : List ℕ → List ℕ → ℕ → Option paper.Value
item_value b s d = cond (eqb (get_or s (1864 + 17 * d) 0) 1) (some (cells_show b s d)) none

-- ---- what the code reads of them

abbrev pub CellsShow : List ℕ → ℕ → Value → Type 0
CellsShow s d v = (b : List ℕ) → meaning_v b v ≡ cells_show b s d

abbrev pub value_shown : Option paper.Value → Calls.Shown
value_shown none = no_row
value_shown (some v) = shows_value v

abbrev pub ValueRow : List ℕ → ℕ → Row → Type 0
ValueRow s d r = (b : List ℕ) → published_row b r ≡ row (value_shown (item_value b s d))
