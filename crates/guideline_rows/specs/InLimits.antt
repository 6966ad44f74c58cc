-- Rows whose names, texts, literals and depths are within the limits (document 01, How much fits), and how a row stands in the tables. Definitions only.
use Rattle.std.specs.Prelude.{ℕ, ◌*◌, ◌≤◌, ◌≡◌, List, length}
use Rattle.std.proofs.Math.Option.{some}
use Rattle.paper_expressions.specs.Limits.{text_limit}
use Rattle.paper_expressions.specs.View.{At}
use Rattle.paper_expressions.proofs.Laws.Parentheses.{bare}
use Rattle.paper_guideline.specs.Structure.{Name, Outermost}
use Rattle.paper_guideline.specs.Limits.{depth_limit, depth}
use Rattle.parts.specs.Part.{Table}
use Rattle.parts.specs.Encode.{Fits, Spelt, Laid}
use Rattle.guideline_rows.specs.Rows.{Row, name_of, expression_of}
use Rattle.guideline_rows.specs.Encoded.{row_text, behind_name, expression_parts, row_cells}

pub record InLimits (rows : List Row) : Type 0 where
  pub names : {i : ℕ} {r : Row} {n : Name} → At rows i r → name_of r ≡ some n → length n.spelt ≤ text_limit
  pub texts : {i : ℕ} {r : Row} {e : Outermost} → At rows i r → expression_of r ≡ some e → Fits (bare e.tree)
  pub depths : {i : ℕ} {r : Row} {e : Outermost} → At rows i r → expression_of r ≡ some e → depth e.tree ≤ depth_limit

-- the row is the i-th of the table x, its texts stand from o on and its parts from u on
pub record Stood (x : List ℕ) (t : Table) (i : ℕ) (r : Row) : Type 0 where
  pub o : ℕ
  pub u : ℕ
  pub cells : Spelt x (i * 8) (row_cells o u r)
  pub texts : Spelt t.bytes o (row_text r)
  pub parts : Laid t u (expression_parts (behind_name o r) (expression_of r))
