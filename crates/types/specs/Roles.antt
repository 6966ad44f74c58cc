-- What a row tells of types: the expression with its role, the data item that it declares, and the role by the row's cells. Definitions only.
use Rattle.std.specs.Prelude.{ℕ, Bool, cond, List, [], ◌∷◌, eqb}
use Rattle.std.proofs.Math.Option.{Option, none, some}
use Rattle.paper_expressions.specs.View.{Item}
use Rattle.paper_tokens.specs.Tokens.{“=”, “caption”, “description”}
use Rattle.paper_grammar.proofs.Laws.Ll.{is_in}
use Rattle.paper_guideline.specs.Parts.{condition, wording, assigned_to, Typed}
use Rattle.guideline_rows.specs.Rows.{Row, a_task, a_data_item, with_expression, with_name, with_answer, a_postcondition, an_assignment}
use Rattle.row_tests.specs.Table.{cell_of}
use Rattle.typer.specs.declared.fitting.Role as Code
use Rattle.typer.specs.declared.fitting.Role.TheVariants.{Condition, Wording, Assigned}

-- "a caption or description"
abbrev pub wording_kind : ℕ → Bool
wording_kind k = is_in k (“caption” ∷ “description” ∷ [])

-- the same expression, attached to the root: of which task it is, typing doesn't ask
abbrev pub rooted : Typed → Typed
rooted x = record { expression = x.expression; role = x.role; attached = 0 }

-- the expression of a row, and what it has to be
abbrev pub asks : Row → Option Typed
asks (a_task k n) = none
asks (a_data_item n d) = none
asks (with_expression k p x) = some (record { expression = x; role = cond (wording_kind k) wording condition; attached = 0 })
asks (with_name k p n) = none
asks (with_answer k p b) = none
asks (a_postcondition p) = none
asks (an_assignment a) = some (record { expression = a.value; role = assigned_to a.target; attached = 0 })

-- the data item that a row declares
abbrev pub item_of : Row → Option Item
item_of (a_task k n) = none
item_of (a_data_item n d) = some (record { name = n.spelt; declared = d; value = none })
item_of (with_expression k p x) = none
item_of (with_name k p n) = none
item_of (with_answer k p b) = none
item_of (a_postcondition p) = none
item_of (an_assignment a) = none

-- the role by the row's kind and the handle of its name
abbrev pub role_of : List ℕ → ℕ → Code.Role
role_of x j = cond (eqb (cell_of x j 0) “=”) (Assigned (cell_of x j 2)) (cond (wording_kind (cell_of x j 0)) Wording Condition)
