-- The rows that tokens give, one turn after the other: what a turn passes is told by its first token. Definitions only.
use Rattle.std.specs.Prelude.{ℕ, ◌≡◌, Bool, cond, List, [], ◌∷◌, ◌++◌, eqb}
use Rattle.paper_expressions.specs.Types.{Declared}
use Rattle.paper_expressions.specs.Expressions.{Expr}
use Rattle.paper_tokens.specs.Tokens
use Tokens.{“plan”, “action”, “enquiry”, “data”, “semicolon”, “open”, “close”, “and”}
use Tokens.{“caption”, “description”, “precondition”, “wait-condition”, “postcondition”, “trigger”, “terminate”, “component”, “source”, “schedule-constraint”, “terminal”, “mandatory”}
use Rattle.paper_grammar.proofs.Laws.Ll.{is_in}
use Rattle.paper_tokens.specs.Lexical.{Token, atom}
use Rattle.paper_tokens.specs.Terminals.{Terminal}
use Rattle.paper_guideline.specs.Tree.{anywhere, assigned, Tree}
use Rattle.paper_guideline.proofs.Laws.TreeLaws.{Ends}
use Rattle.paper_guideline.specs.Structure.{Class, class_word, YesOrNo, DataType}
use Rattle.expression_steps.specs.Levels.{kind_of}
use Rattle.guideline_rows.specs.Rows.{named, Row, a_task, a_data_item, with_expression, with_name, with_answer, a_postcondition, an_assignment}

-- where the next turn stands: before a row, or in a postcondition before or behind an assignment
pub data Mode : Type 0 where
  outside front behind : Mode

-- what a turn passes
pub data Shape : Type 0 where
  -- outside: a task's or a data item's first line, an attribute, an end
  task_line data_lines expression_line name_line answer_line constraint_line postcondition_word end_line : Shape
  -- in a postcondition
  opening assignment_there closing going_on finish : Shape

-- the first of these tests that holds
abbrev pub lines : Bool → Bool → Bool → Bool → Bool → Bool → Bool → Shape
lines t d e n y c p =
    cond t task_line (cond d data_lines (cond e expression_line (cond n name_line (cond y answer_line (cond c constraint_line (cond p postcondition_word end_line))))))

-- by the terminal of the first token
abbrev pub shape_outside : ℕ → Shape
shape_outside k =
    lines (is_in k (“plan” ∷ “action” ∷ “enquiry” ∷ [])) (eqb k “data”)
    (is_in k (“caption” ∷ “description” ∷ “precondition” ∷ “wait-condition” ∷ “terminate” ∷ [])) (is_in k (“trigger” ∷ “component” ∷ “source” ∷ []))
    (is_in k (“terminal” ∷ “mandatory” ∷ [])) (eqb k “schedule-constraint”) (eqb k “postcondition”)

abbrev pub shape : Mode → ℕ → Shape
shape outside k = shape_outside k
shape front k = cond (eqb k “open”) opening assignment_there
shape behind k = cond (eqb k “close”) closing (cond (eqb k “and”) going_on finish)

-- Turn s w r m rows: of the tokens w, a turn of shape s passes those before r, on to m, and gives the rows, one or none
pub data Turn : Shape → List Token → List Token → Mode → List Row → Type 0 where
  a_task_line : {k : Class} {t c n s : Token} {r : List Token}
      → Terminal t (class_word k) → n.rule ≡ atom → Turn task_line (t ∷ c ∷ n ∷ s ∷ r) r outside (a_task k (named n) ∷ [])
  some_data_lines : {t c n s y d k e : Token} {r : List Token} {x : Declared}
      → n.rule ≡ atom → DataType k x → Turn data_lines (t ∷ c ∷ n ∷ s ∷ y ∷ d ∷ k ∷ e ∷ r) r outside (a_data_item (named n) x ∷ [])
  an_expression_line : {k : ℕ} {t c x s : Token} {w r : List Token} {e : Expr}
      → Terminal t k → shape_outside k ≡ expression_line → Tree anywhere 1 (x ∷ w) (s ∷ r) e → Terminal s “semicolon”
      → Turn expression_line (t ∷ c ∷ x ∷ w) r outside (with_expression k t.place (record { start = x.place; tree = e }) ∷ [])
  a_name_line : {k : ℕ} {t c n s : Token} {r : List Token}
      → Terminal t k → n.rule ≡ atom → Turn name_line (t ∷ c ∷ n ∷ s ∷ r) r outside (with_name k t.place (named n) ∷ [])
  an_answer_line : {k : ℕ} {t c y s : Token} {r : List Token} {b : Bool}
      → Terminal t k → YesOrNo y b → Turn answer_line (t ∷ c ∷ y ∷ s ∷ r) r outside (with_answer k t.place b ∷ [])
  a_constraint_line : {t c d o n p s : Token} {r : List Token}
      → n.rule ≡ atom → Turn constraint_line (t ∷ c ∷ d ∷ o ∷ n ∷ p ∷ s ∷ r) r outside (with_name “schedule-constraint” t.place (named n) ∷ [])
  a_postcondition_word : {t c : Token} {r : List Token} → Turn postcondition_word (t ∷ c ∷ r) r front (a_postcondition t.place ∷ [])
  an_end_line : {e f d : Token} {r : List Token} → Turn end_line (e ∷ f ∷ d ∷ r) r outside []
  opens : {t : Token} {r : List Token} → Turn opening (t ∷ r) r front []
  assigns : {t q x : Token} {w r : List Token} {e : Expr}
      → t.rule ≡ atom → Tree assigned 1 (x ∷ w) r e → Ends assigned r
      → Turn assignment_there (t ∷ q ∷ x ∷ w) r behind (an_assignment (record { target = named t; value = record { start = x.place; tree = e } }) ∷ [])
  closes : {t : Token} {r : List Token} → Turn closing (t ∷ r) r behind []
  goes_on : {t : Token} {r : List Token} → Turn going_on (t ∷ r) r front []
  finishes : {t : Token} {r : List Token} → Turn finish (t ∷ r) r outside []

-- Flat m w rows: from there on the tokens w give these rows
pub data Flat : Mode → List Token → List Row → Type 0 where
  at_end : Flat outside [] []
  turn : {m n : Mode} {s : Shape} {w r : List Token} {rs rows : List Row}
      → shape m (kind_of w) ≡ s → Turn s w r n rs → Flat n r rows → Flat m w (rs ++ rows)
